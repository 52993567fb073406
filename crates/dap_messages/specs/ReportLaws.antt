-- Lemmas: reports have the same bytes where they have the same fields.
use Rattle.std.proofs.Common.{◌≡◌, ℕ, List, Bool, true, false, Result, Ok, IsTrue, Decides, refl, sym, ap, ◌∙◌}
use Rattle.std.specs.Str.{bytes_eq}
use Rattle.std.specs.Cmp.Lexicographic.{nat_list_eq_equiv}
use Rattle.std.proofs.lemmas.Bool.{and_parts, eq-eqb, eqb-true}
use Rattle.std.proofs.lemmas.Slice.Eq.{bytes_eq-Decides}
use Rattle.dap_messages.specs.declared.report.Report.{Report}
use Rattle.dap_messages.specs.Grammar.{whole}
use Rattle.dap_messages.specs.Laws.{whole_again}
use Rattle.dap_messages.specs.MessageLaws.{report_lawful}
use Rattle.dap_messages.specs.Messages.{report}
use Rattle.dap_messages.specs.Reports.{has_fields_of, is_same_report}

ok_is : (a b : Report) → (let x : Result Report ℕ = Ok a in x) ≡ Ok b → a ≡ b
ok_is a b e = cc

-- a report is told by its bytes
pub report-same : (a b : Report) → IsTrue (report.allowed a) → IsTrue (report.allowed b) → report.spell a ≡ report.spell b → a ≡ b
report-same a b x y e = ok_is a b (sym (whole_again report report_lawful a x) ∙ ap (whole report) e ∙ whole_again report report_lawful b y)

-- a report of these fields
abbrev of_fields : List ℕ → List ℕ → ℕ → List ℕ → List ℕ → List ℕ → Report
of_fields n i t p l h = record { name = n; id = i; time = t; public = p; leader = l; helper = h }

equal : (xs ys : List ℕ) → bytes_eq xs ys ≡ true → xs ≡ ys
equal xs ys e = (bytes_eq-Decides xs ys).0 e

itself : (xs : List ℕ) → bytes_eq xs xs ≡ true
itself xs = nat_list_eq_equiv.refl xs

fields-same : (a b : Report) → has_fields_of a b ≡ true → a ≡ b
fields-same a b e =
    let p1 = and_parts _ _ e in
    let p2 = and_parts _ _ p1.1 in
    let p3 = and_parts _ _ p2.1 in
    let p4 = and_parts _ _ p3.1 in
    let p5 = and_parts _ _ p4.1 in
    ap (λ (x : List ℕ). of_fields x a.id a.time a.public a.leader a.helper) (equal a.name b.name p1.0)
    ∙ ap (λ (x : List ℕ). of_fields b.name x a.time a.public a.leader a.helper) (equal a.id b.id p2.0)
    ∙ ap (λ (x : ℕ). of_fields b.name b.id x a.public a.leader a.helper) (eqb-true a.time b.time p3.0)
    ∙ ap (λ (x : List ℕ). of_fields b.name b.id b.time x a.leader a.helper) (equal a.public b.public p4.0)
    ∙ ap (λ (x : List ℕ). of_fields b.name b.id b.time b.public x a.helper) (equal a.leader b.leader p5.0)
    ∙ ap (of_fields b.name b.id b.time b.public b.leader) (equal a.helper b.helper p5.1)

own_fields : (a : Report) → has_fields_of a a ≡ true
own_fields a = rw (itself a.name, itself a.id, eq-eqb a.time a.time refl, itself a.public, itself a.leader, itself a.helper) refl

-- fields are compared where bytes are meant
pub has_fields_of-is : (a b : Report) → IsTrue (report.allowed a) → IsTrue (report.allowed b) → has_fields_of a b ≡ is_same_report a b
has_fields_of-is a b x y = go (has_fields_of a b) refl (is_same_report a b) refl
  where
    go : (p : Bool) → has_fields_of a b ≡ p → (q : Bool) → is_same_report a b ≡ q → has_fields_of a b ≡ is_same_report a b
    go true e q f = e ∙ sym ((bytes_eq-Decides (report.spell a) (report.spell b)).1 (ap report.spell (fields-same a b e)))
    go false e true f =
        ap (has_fields_of a) (sym (report-same a b x y (equal (report.spell a) (report.spell b) f))) ∙ own_fields a ∙ sym f
    go false e false f = e ∙ sym f

-- being the same report is being equal, where both have a spelling
pub same_report-Decides : (a b : Report) → IsTrue (report.allowed a) → IsTrue (report.allowed b) → Decides (is_same_report a b) (a ≡ b)
same_report-Decides a b x y = (λ e. report-same a b x y (equal (report.spell a) (report.spell b) e), λ e. (bytes_eq-Decides (report.spell a) (report.spell b)).1 (ap report.spell e))
