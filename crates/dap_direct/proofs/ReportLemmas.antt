-- The bytes of a report are read as it, and begin with its name.
use Rattle.std.proofs.Common.{◌≡◌, ℕ, List, ◌∷◌, ◌++◌, length, take, true, cond, Option, Some, None, sym, ap, ◌∙◌, arith, length-append}
use Rattle.std.specs.Prelude.{IsTrue, nat_le}
use Rattle.std.specs.Result.{result_ok}
use Rattle.std.proofs.Math.Seq.{take-append_seam}
use Rattle.std.proofs.lemmas.Bool.{and_parts, le-leb}
use Rattle.dap_bytes.specs.Name.{is_name, name_of}
use Rattle.dap_messages.specs.Laws.{whole_again}
use Rattle.dap_messages.specs.MessageLaws.{report_lawful}
use Rattle.dap_messages.specs.Messages.{report}
use Rattle.dap_messages.specs.declared.report.Report.{Report}
use Rattle.dap_model.specs.Step.{name_in, report_in}

-- what a report spells is that report
pub report_in-spell : (r : Report) → IsTrue (report.allowed r) → report_in (report.spell r) ≡ Some r
report_in-spell r a = ap result_ok (whole_again report report_lawful r a)

-- ---- names

named : (name rest : List ℕ) → is_name name ≡ true → name_in (length name ∷ (name ++ rest)) ≡ Some name
named name rest is =
    let long : nat_le (length name) (length (name ++ rest)) ≡ true = le-leb (length name) (length (name ++ rest)) (omega (arith, length-append name rest)) in
    ap (λ b. cond b (name_of (take (length name) (name ++ rest))) None) long
    ∙ ap name_of (take-append_seam name rest)
    ∙ ap (λ b. cond b (Some name) None) is

pub name_in-spell : (r : Report) → IsTrue (report.allowed r) → name_in (report.spell r) ≡ Some r.name
name_in-spell r a =
    named r.name _ (and_parts _ _ a).0

name_is : (a b : List ℕ) → (let x : Option (List ℕ) = Some a in x) ≡ Some b → a ≡ b
name_is a b e = cc

-- bytes that begin with a name spell a report of that name
pub named_so : (r : Report) (name bytes : List ℕ) → IsTrue (report.allowed r) → bytes ≡ report.spell r → name_in bytes ≡ Some name → r.name ≡ name
named_so r name bytes a is e = name_is r.name name (sym (name_in-spell r a) ∙ ap name_in (sym is) ∙ e)
