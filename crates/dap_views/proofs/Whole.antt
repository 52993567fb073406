-- A request as a whole message.
use Rattle.std.proofs.Common.{◌≡◌, ℕ, List, [], ◌∷◌, length, true, Option, Some, None, Result, Ok, Err, refl, sym, ap, subst, ◌∙◌, lit≤}
use Rattle.std.specs.Prelude.{slice_get, nat_eq}
use Rattle.std.specs.Int.{w16}
use Rattle.std.specs.Result.{is_ok}
use Rattle.dap_bytes.specs.Cursor.{Reading, rest_of, past}
use Rattle.dap_messages.specs.declared.body.Half.{Half}
use Rattle.dap_messages.specs.declared.item.Tagged.{Tagged}
use Rattle.dap_messages.specs.declared.item.TheConstants.{MOST_ITEMS}
use Rattle.dap_messages.specs.declared.job.JobNo.{JobNo}
use Rattle.dap_messages.specs.declared.message.Message.{Message}
use Rattle.dap_messages.specs.declared.message.Message.TheVariants.{InitReq}
use Rattle.dap_messages.specs.FormLaws.{job_lawful, name_lawful, u16_lawful}
use Rattle.dap_messages.specs.Forms.{half, job}
use Rattle.dap_messages.specs.Grammar.{Grammar, ◌>>=◌, ◌⊗◌, ended, items, items_at, name, number, variant}
use Rattle.dap_messages.specs.Laws.{some_is}
use Rattle.dap_messages.specs.Messages.{init_req, init_req_of}
use Rattle.dap_views.specs.Parts.{are_parts, items_in, parts_at, Passes, place_in}
use Rattle.dap_views.specs.Whole.{request_in}
use Rattle.dap_views.proofs.Places.{AreBytes, at_place, input_past, stays}

-- ---- fields one after the other

then_reads : {A B : Type 0} (g : Grammar A) (h : Grammar B) (r : Reading) (x : A) (s : Reading) (y : B) (t : Reading) → g.read r ≡ Ok (x, s) → h.read s ≡ Ok (y, t)
    → (g ⊗ h).read r ≡ Ok ((x, y), t)
then_reads g h r x s y t e f = rw (e, f) refl

then_fails : {A B : Type 0} (g : Grammar A) (h : Grammar B) (r : Reading) (x : A) (s : Reading) (at : ℕ) → g.read r ≡ Ok (x, s) → h.read s ≡ Err at → (g ⊗ h).read r ≡ Err at
then_fails g h r x s at e f = rw (e, f) refl

variant_reads : {A B : Type 0} (to : A → B) (from : B → Option A) (g : Grammar A) (r : Reading) (x : A) (s : Reading) → g.read r ≡ Ok (x, s) → (variant to from g).read r ≡ Ok (to x, s)
variant_reads to from g r x s e = rw e refl

variant_fails : {A B : Type 0} (to : A → B) (from : B → Option A) (g : Grammar A) (r : Reading) (at : ℕ) → g.read r ≡ Err at → (variant to from g).read r ≡ Err at
variant_fails to from g r at e = rw e refl

-- a count, and so many parts
counted : (r : Reading) (count : ℕ) (s : Reading) → (number w16 1 MOST_ITEMS).read r ≡ Ok (count, s) → (items half).read r ≡ items_at half None count s
counted r count s e = ap (λ (o : Result (ℕ × Reading) ℕ). o >>= λ n. items_at half None n.0 n.1) e

miscounted : (r : Reading) (at : ℕ) → (number w16 1 MOST_ITEMS).read r ≡ Err at → (items half).read r ≡ Err at
miscounted r at e = ap (λ (o : Result (ℕ × Reading) ℕ). o >>= λ n. items_at half None n.0 n.1) e

-- ---- the message

-- where the message begins, behind its first byte
abbrev pub begun : List ℕ → Reading
begun input = past 1 (place_in input 0)

-- a message whose first byte is 01 is read as a request
first_is : (input : List ℕ) → slice_get (rest_of (place_in input 0)) 0 ≡ Some 1 → request_in input ≡ (init_req.read (begun input) >>= ended)
first_is [] h = absurd cc
first_is (first ∷ rest) h = subst (λ (b : ℕ). request_in (b ∷ rest) ≡ (init_req.read (begun (b ∷ rest)) >>= ended)) (sym (some_is first 1 h)) refl

-- what a request is read as
module _ (input : List ℕ) (first : slice_get (rest_of (place_in input 0)) 0 ≡ Some 1) (j : JobNo) (r2 : Reading) (job_is : job.read (begun input) ≡ Ok (j, r2))
    (n : List ℕ) (r3 : Reading) (name_is : name.read r2 ≡ Ok (n, r3)) where
  pub count_fails : (at : ℕ) → (number w16 1 MOST_ITEMS).read r3 ≡ Err at → request_in input ≡ Err at
  count_fails at e =
      let fields : (job ⊗ name ⊗ items half).read (begun input) ≡ Err at =
      then_fails job (name ⊗ items half) (begun input) j r2 at job_is (then_fails name (items half) r2 n r3 at name_is (miscounted r3 at e)) in
      let all : init_req.read (begun input) ≡ Err at = variant_fails (λ p. InitReq p.0 p.1.0 p.1.1) init_req_of (job ⊗ name ⊗ items half) (begun input) at fields in
      first_is input first ∙ ap (λ (o : Result (Message × Reading) ℕ). o >>= ended) all

  module _ (count : ℕ) (r4 : Reading) (count_is : (number w16 1 MOST_ITEMS).read r3 ≡ Ok (count, r4)) where
    -- the parts begin at a place of the same input
    pub begins : AreBytes input → r4 ≡ place_in input r4.place
    begins fits =
        let one : (begun input).input ≡ input = input_past 1 (place_in input 0) in
        let two : r2.input ≡ input = stays job job_lawful input fits (begun input) j r2 one job_is in
        let three : r3.input ≡ input = stays name name_lawful input fits r2 n r3 two name_is in
        at_place input r4 (stays (number w16 1 MOST_ITEMS) (u16_lawful 1 MOST_ITEMS (lit≤ tt)) input fits r3 count r4 three count_is)

    items_are : (read : Result (List (Tagged Half) × Reading) ℕ) (u : Unit {0}) (r5 : Reading) → Passes read (Ok u) r5 → rest_of r5 ≡ [] → (items half).read r3 ≡ read
        → request_in input ≡ Ok (InitReq j n (items_in read))
    items_are (Err at) u r5 passes nothing e = absurd passes
    items_are (Ok read) u r5 passes nothing e =
        let fields : (job ⊗ name ⊗ items half).read (begun input) ≡ Ok ((j, (n, read.0)), read.1) =
        then_reads job (name ⊗ items half) (begun input) j r2 (n, read.0) read.1 job_is (then_reads name (items half) r2 n r3 read.0 read.1 name_is e) in
        let all : init_req.read (begun input) ≡ Ok (InitReq j n read.0, read.1) =
        variant_reads (λ p. InitReq p.0 p.1.0 p.1.1) init_req_of (job ⊗ name ⊗ items half) (begun input) (j, (n, read.0)) read.1 fields in
        let over : nat_eq (length (rest_of read.1)) 0 ≡ true = ap (λ (s : Reading). nat_eq (length (rest_of s)) 0) (sym passes) ∙ ap (λ (t : List ℕ). nat_eq (length t) 0) nothing in
        first_is input first ∙ ap (λ (o : Result (Message × Reading) ℕ). o >>= ended) all ∙ rw over refl

    -- the request with all of its parts
    pub is_request : (u : Unit {0}) (r5 : Reading) → Passes (items_at half None count r4) (Ok u) r5 → rest_of r5 ≡ [] → request_in input ≡ Ok (InitReq j n (parts_at count r4))
    is_request u r5 passes nothing = items_are (items_at half None count r4) u r5 passes nothing (counted r3 count r4 count_is)

-- where the end of so many parts is reached, they stand there
pub are_there : (count : ℕ) (r : Reading) (u : Unit {0}) (end : Reading) → Passes (items_at half None count r) (Ok u) end → are_parts count r ≡ true
are_there count r u end passes = go (items_at half None count r) passes where
  go : (read : Result (List (Tagged Half) × Reading) ℕ) → Passes read (Ok u) end → is_ok read ≡ true
  go (Ok read) p = refl
  go (Err at) p = absurd p
