-- The name that bytes begin with, and that of the report which they spell.
use Rattle.std.proofs.Common.{◌≡◌, ℕ, ◌+◌, ◌≤◌, List, [], ◌∷◌, ◌++◌, length, take, drop, Bool, true, false, cond, nat_eq, nat_le, Some, None, Ok, Err, refl, sym, ap, subst, ◌∙◌, arith}
use Rattle.std.proofs.Math.Seq.{take-append_seam}
use Rattle.std.proofs.lemmas.Bool.{le-leb, leb-true, and_from}
use Rattle.std.proofs.lemmas.List.{length-append, length-take-le, take-append-drop}
use Rattle.std.specs.List.{list_all}
use Rattle.std.specs.Int.{w16}
use Rattle.dap_bytes.specs.Cursor.{Reading, past, rest_of}
use Rattle.dap_bytes.specs.Name.{is_name, is_name_char, name_of}
use Rattle.dap_messages.specs.Forms.{identifier, time}
use Rattle.dap_messages.specs.Grammar.{Grammar, ◌>>=◌, accepted, bytes, cells, ended, field, fixed, is_between, name, number, where_holds, whole, ◌⊗◌}
use Rattle.dap_messages.specs.Laws.{bind_ok, done, front, ok_is, some_is}
use Rattle.dap_messages.specs.Messages.{report, report_fields}
use Rattle.dap_messages.specs.declared.report.Report.{Report}
use Rattle.dap_model.specs.Step.{name_in}
use Rattle.dap_model.specs.Uploads.{BeginsWithName}

-- ---- a name field

pub begins_from : (text named : List ℕ) → name_in text ≡ Some named → BeginsWithName text named
begins_from [] named e = absurd cc
begins_from (size ∷ rest) named e = within (nat_le size (length rest)) refl e
  where
    found : (b : Bool) → size ≤ length rest → is_name (take size rest) ≡ b → cond b (Some (take size rest)) None ≡ Some named → BeginsWithName (size ∷ rest) named
    found true le is h =
        let same : take size rest ≡ named = some_is (take size rest) named h in
        subst (BeginsWithName (size ∷ rest)) same (record {
          is_name = is;
          rest = drop size rest;
          spelled = ap (λ (n : ℕ). n ∷ rest) (sym (length-take-le size rest le)) ∙ ap (λ (t : List ℕ). length (take size rest) ∷ t) (sym (take-append-drop size rest));
        })
    found false le is h = absurd cc

    within : (b : Bool) → nat_le size (length rest) ≡ b → cond b (name_of (take size rest)) None ≡ Some named → BeginsWithName (size ∷ rest) named
    within true le h = found (is_name (take size rest)) (leb-true size (length rest) le) refl h
    within false le h = absurd cc

pub name_in-begins : (text named : List ℕ) → BeginsWithName text named → name_in text ≡ Some named
name_in-begins text named b =
    let long : length (named ++ b.rest) ≡ length named + length b.rest = length-append named b.rest in
    let enough : nat_le (length named) (length (named ++ b.rest)) ≡ true = le-leb (length named) (length (named ++ b.rest)) (omega arith) in
    ap name_in b.spelled ∙ ap (λ t. cond t (name_of (take (length named) (named ++ b.rest))) None) enough
    ∙ ap name_of (take-append_seam named b.rest) ∙ ap (λ t. cond t (Some named) None) b.is_name

-- ---- the name of a report

module _ (size : ℕ) (rest : List ℕ) where
  abbrev after_length : Reading
  after_length = record { input = size ∷ rest; place = 1 }

  after_one : past 1 (front (size ∷ rest)) ≡ after_length
  after_one = ap (λ b. cond b after_length (front (size ∷ rest))) (le-leb 1 (length (size ∷ rest)) (omega arith))

  read_name_in : (q : List ℕ × Reading) → name.read (front (size ∷ rest)) ≡ Ok q → name_in (size ∷ rest) ≡ Some q.0
  read_name_in q e = sized_so (is_between 1 32 size) refl e
    where
      spelled_so : (b : Bool) → is_between 1 32 size ≡ true → nat_le size (length rest) ≡ true → list_all is_name_char (take size rest) ≡ b
          → accepted size after_length (cond b (Some (take size rest)) None) ≡ Ok q → name_in (size ∷ rest) ≡ Some q.0
      spelled_so true sized enough spelled h =
          let size_is : length (take size rest) ≡ size = length-take-le size rest (leb-true size (length rest) enough) in
          let least : is_between 1 32 (length (take size rest)) ≡ true = ap (λ (n : ℕ). is_between 1 32 n) size_is ∙ sized in
          let named : is_name (take size rest) ≡ true = and_from _ _ least spelled in
          ap (λ t. cond t (name_of (take size rest)) None) enough ∙ ap (λ t. cond t (Some (take size rest)) None) named
          ∙ ap (λ (p : List ℕ × Reading). Some p.0) (ok_is (take size rest, past size after_length) q h)
      spelled_so false sized enough spelled h = absurd cc

      held_so : (b : Bool) → is_between 1 32 size ≡ true → nat_le size (length rest) ≡ b
          → field size (where_holds (list_all is_name_char)) after_length (cond b (Some (take size rest)) None) ≡ Ok q → name_in (size ∷ rest) ≡ Some q.0
      held_so true sized enough h = spelled_so (list_all is_name_char (take size rest)) sized enough refl h
      held_so false sized enough h = absurd cc

      sized_so : (b : Bool) → is_between 1 32 size ≡ b
          → (accepted 1 (front (size ∷ rest)) (cond b (Some size) None) >>= λ n. (cells n.0 (list_all is_name_char)).read n.1) ≡ Ok q → name_in (size ∷ rest) ≡ Some q.0
      sized_so true sized h =
          held_so (nat_le size (length rest)) sized refl
          (subst (λ (r : Reading). (cells size (list_all is_name_char)).read r ≡ Ok q) after_one h)
      sized_so false sized h = absurd cc

name_read : (text : List ℕ) (q : List ℕ × Reading) → name.read (front text) ≡ Ok q → name_in text ≡ Some q.0
name_read [] q e = absurd cc
name_read (size ∷ rest) q e = read_name_in size rest q e

ended_with : (x : Report × Reading) (r : Report) → ended x ≡ Ok r → x.0 ≡ r
ended_with x r e = go (nat_eq (length (rest_of x.1)) 0) e
  where
    go : (b : Bool) → cond b (Ok x.0) (Err x.1.place) ≡ Ok r → x.0 ≡ r
    go true h = ok_is x.0 r h
    go false h = absurd cc

-- the fields behind the name
abbrev Behind : Type 0
Behind = List ℕ × (ℕ × (List ℕ × (List ℕ × List ℕ)))

abbrev behind : Grammar Behind
behind = identifier ⊗ time ⊗ fixed (number w16 0 0) 0 (bytes 32000 ⊗ bytes 131072 ⊗ bytes 32000)

abbrev to_report : List ℕ × Behind → Report
to_report p = record { name = p.0; id = p.1.0; time = p.1.1.0; public = p.1.1.1.0; leader = p.1.1.1.1.0; helper = p.1.1.1.1.1 }

first_of : (made p : (List ℕ × Behind) × Reading) → done made ≡ done p → made.0.0 ≡ p.0.0
first_of made p e = ap (λ (z : (List ℕ × Behind) × Reading). z.0.0) (ok_is made p e)

name_of_made : (made x : Report × Reading) → done made ≡ done x → made.0.name ≡ x.0.name
name_of_made made x e = ap (λ (z : Report × Reading). z.0.name) (ok_is made x e)

pub name_in-report : (text : List ℕ) (r : Report) → whole report text ≡ Ok r → name_in text ≡ Some r.name
name_in-report text r e =
    let a = bind_ok (report.read (front text)) ended r e in
    let p = bind_ok (report_fields.read (front text)) (λ x. Ok (to_report x.0, x.1)) a.0 a.1 in
    let q = bind_ok (name.read (front text)) (λ x. behind.read x.1 >>= λ y. Ok ((x.0, y.0), y.1)) p.0 p.1 in
    let w = bind_ok (behind.read q.0.1) (λ y. Ok ((q.0.0, y.0), y.1)) p.0 q.2 in
    let third : a.0.0.name ≡ r.name = ap (λ (z : Report). z.name) (ended_with a.0 r a.2) in
    let same : q.0.0 ≡ r.name = first_of ((q.0.0, w.0.0), w.0.1) p.0 w.2 ∙ name_of_made (to_report p.0.0, p.0.1) a.0 p.2 ∙ third in
    let read : name_in text ≡ Some q.0.0 = name_read text q.0 q.1 in
    read ∙ ap (λ (n : List ℕ). Some n) same
