-- Parts that are read one after the other.
use Rattle.std.proofs.Common.{◌≡◌, ℕ, zero, suc, ◌+◌, ◌-◌, ◌<◌, ◌≤◌, true, false, List, ◌∷◌, Option, Some, None, Result, Ok, Err, refl, sym, ap, subst, ◌∙◌, arith}
use Rattle.std.specs.Result.{is_ok}
use Rattle.dap_bytes.specs.Cursor.{Reading, next_bytes}
use Rattle.dap_messages.specs.declared.body.Half.{Half}
use Rattle.dap_messages.specs.declared.fault.Form.{Form}
use Rattle.dap_messages.specs.declared.item.Tagged.{Tagged}
use Rattle.dap_messages.specs.Forms.{half}
use Rattle.dap_messages.specs.Grammar.{◌>>=◌, where_holds, cells, is_above, item, items_at}
use Rattle.dap_messages.specs.Laws.{bind_ok, field_ok, field_again, if_some}
use Rattle.dap_views.specs.declared.part.PartView.{PartView}
use Rattle.dap_views.specs.Parts.{are_parts, item_of, items_in, parts_at, IsPartAt, Passes, place_in}

-- ---- the end of so many parts

-- where the reading ends, or its fault
abbrev pub end_of : Result (List (Tagged Half) × Reading) ℕ → Result Reading ℕ
end_of (Ok read) = Ok read.1
end_of (Err at) = Err at

pub begins : (count : ℕ) (r : Reading) → end_of (items_at half None (count - 0) r) ≡ end_of (items_at half None count r)
begins count r = let same : count - 0 ≡ count = omega arith in ap (λ (n : ℕ). end_of (items_at half None n r)) same

one_more : (x : Tagged Half) (read : Result (List (Tagged Half) × Reading) ℕ) → end_of (read >>= λ more. Ok (x ∷ more.0, more.1)) ≡ end_of read
one_more x (Ok more) = refl
one_more x (Err at) = refl

pub goes_on : (last : Option (List ℕ)) (count i : ℕ) (r : Reading) (x : Tagged Half) (after : Reading) (total : Result Reading ℕ) → i < count
    → (item half last).read r ≡ Ok (x, after) → end_of (items_at half last (count - i) r) ≡ total → end_of (items_at half (Some x.id) (count - (i + 1)) after) ≡ total
goes_on last count i r x after total lt h so_far =
    let k : count - i ≡ suc (count - (i + 1)) = omega arith in
    let one : end_of (items_at half last (count - i) r) ≡ end_of (items_at half (Some x.id) (count - (i + 1)) after) =
    rw (k, h) (one_more x (items_at half (Some x.id) (count - (i + 1)) after)) in
    sym one ∙ so_far

passes_err : (read : Result (List (Tagged Half) × Reading) ℕ) (form : Form) (new : Reading) → end_of read ≡ Err form.at → Passes read (Err form) new
passes_err (Ok read) form new e = absurd cc
passes_err (Err at) form new e = cc

passes_ok : (read : Result (List (Tagged Half) × Reading) ℕ) (new : Reading) → end_of read ≡ Ok new → Passes read (Ok tt) new
passes_ok (Ok read) new e = cc
passes_ok (Err at) new e = absurd cc

pub fails : (last : Option (List ℕ)) (count i : ℕ) (r : Reading) (form : Form) (after : Reading) (total : Result (List (Tagged Half) × Reading) ℕ) → i < count
    → (item half last).read r ≡ Err form.at → end_of (items_at half last (count - i) r) ≡ end_of total → Passes total (Err form) after
fails last count i r form after total lt h so_far =
    let k : count - i ≡ suc (count - (i + 1)) = omega arith in
    let one : end_of (items_at half last (count - i) r) ≡ Err form.at = rw (k, h) refl in
    passes_err total form after (sym so_far ∙ one)

pub is_done : (last : Option (List ℕ)) (count i : ℕ) (r : Reading) (total : Result (List (Tagged Half) × Reading) ℕ) → count ≤ i
    → end_of (items_at half last (count - i) r) ≡ end_of total → Passes total (Ok tt) r
is_done last count i r total le so_far =
    let k : count - i ≡ 0 = omega arith in
    let one : end_of (items_at half last (count - i) r) ≡ Ok r = rw k refl in
    passes_ok total r (sym so_far ∙ one)

-- ---- the first of so many parts

-- what is read of an item above another is read of it wherever it is
cells_anywhere : (last : Option (List ℕ)) (r : Reading) (id : List ℕ) (s : Reading) → (cells 16 (is_above last)).read r ≡ Ok (id, s) → (cells 16 (is_above None)).read r ≡ Ok (id, s)
cells_anywhere last r id s e =
    let f = field_ok 16 (where_holds (is_above last)) r (next_bytes 16 r) id s e in
    let m = if_some (is_above last f.0) f.0 id f.2 in
    field_again 16 (where_holds (is_above None)) r (next_bytes 16 r) f.0 id s f.1 (ap Some m.1) f.3

item_anywhere : (last : Option (List ℕ)) (r : Reading) (x : Tagged Half) (s : Reading) → (item half last).read r ≡ Ok (x, s) → (item half None).read r ≡ Ok (x, s)
item_anywhere last r x s e =
    let a = bind_ok ((cells 16 (is_above last)).read r >>= λ id. half.read id.1 >>= λ body. Ok ((id.0, body.0), body.1)) (λ p. Ok (record { id = p.0.0; body = p.0.1 }, p.1)) (x, s) e in
    let b = bind_ok ((cells 16 (is_above last)).read r) (λ id. half.read id.1 >>= λ body. Ok ((id.0, body.0), body.1)) a.0 a.1 in
    let c = cells_anywhere last r b.0.0 b.0.1 b.1 in
    rw (c, b.2) a.2

items_anywhere : (last : Option (List ℕ)) (n : ℕ) (r : Reading) (y : List (Tagged Half) × Reading) → items_at half last n r ≡ Ok y → items_at half None n r ≡ Ok y
items_anywhere last zero r y e = e
items_anywhere last (suc n) r y e =
    let a = bind_ok ((item half last).read r) (λ x. items_at half (Some x.0.id) n x.1 >>= λ more. Ok (x.0 ∷ more.0, more.1)) y e in
    rw (item_anywhere last r a.0.0 a.0.1 a.1) a.2

-- the first part and the others, where so many stand
record IsSplit (n : ℕ) (r : Reading) (x : Tagged Half) (after : Reading) : Type 0 where
  pub others : are_parts n after ≡ true
  pub first : parts_at (suc n) r ≡ x ∷ parts_at n after

-- a part before the others
abbrev joined : Tagged Half → List (Tagged Half) × Reading → Result (List (Tagged Half) × Reading) ℕ
joined x more = Ok (x ∷ more.0, more.1)

is_split_at : (n : ℕ) (x : Tagged Half) (after : Reading) (rest : Result (List (Tagged Half) × Reading) ℕ) → items_at half (Some x.id) n after ≡ rest
    → is_ok (rest >>= joined x) ≡ true → (are_parts n after ≡ true) × (items_in (rest >>= joined x) ≡ x ∷ parts_at n after)
is_split_at n x after (Ok more) is h =
    let anywhere : items_at half None n after ≡ Ok more = items_anywhere (Some x.id) n after more is in
    (rw anywhere refl, rw anywhere refl)
is_split_at n x after (Err at) is h = absurd cc

is_split : (n : ℕ) (r : Reading) (x : Tagged Half) (after : Reading) → are_parts (suc n) r ≡ true → (item half None).read r ≡ Ok (x, after) → IsSplit n r x after
is_split n r x after h e =
    let rest : Result (List (Tagged Half) × Reading) ℕ = items_at half (Some x.id) n after in
    let stands : is_ok (rest >>= joined x) ≡ true = rw e at h in
    let parts = is_split_at n x after rest refl stands in
    record { others = parts.0; first = rw e parts.1 }

-- where parts stand, the first of them is read
is_read : (n : ℕ) (r : Reading) (at : ℕ) → are_parts (suc n) r ≡ true → (item half None).read r ≡ Err at → ⊥
is_read n r at h e = let none : false ≡ true = rw e at h in absurd cc

-- ---- the step of a walk

-- the parts that are left behind the first of them
pub record IsWalked (left place behind : ℕ) (input : List ℕ) (part : PartView) : Type 0 where
  pub others : are_parts (left - 1) (place_in input behind) ≡ true
  pub first : parts_at left (place_in input place) ≡ item_of part ∷ parts_at (left - 1) (place_in input behind)

pub is_walked : (left place behind : ℕ) (input : List ℕ) (part : PartView) → 0 < left → are_parts left (place_in input place) ≡ true → IsPartAt input place part behind
    → IsWalked left place behind input part
is_walked left place behind input part some h is =
    let one_more : left ≡ suc (left - 1) = omega arith in
    let split : IsSplit (left - 1) (place_in input place) (item_of part) (place_in input behind) =
    is_split (left - 1) (place_in input place) (item_of part) (place_in input behind) (subst (λ (n : ℕ). are_parts n (place_in input place) ≡ true) one_more h) is.read in
    record { others = split.others; first = ap (λ (n : ℕ). parts_at n (place_in input place)) one_more ∙ split.first }

-- where parts are left, the first of them is read
pub is_left : (left place at : ℕ) (input : List ℕ) → 0 < left → are_parts left (place_in input place) ≡ true → (item half None).read (place_in input place) ≡ Err at → ⊥
is_left left place at input some h e =
    let one_more : left ≡ suc (left - 1) = omega arith in
    is_read (left - 1) (place_in input place) at (subst (λ (n : ℕ). are_parts n (place_in input place) ≡ true) one_more h) e
