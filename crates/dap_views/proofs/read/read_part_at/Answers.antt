use Rattle.std.proofs.Common.{◌≡◌, ℕ, ◌++◌, length, None, Result, Ok, refl, sym, ap, ◌∙◌, arith}
use Rattle.std.proofs.lemmas.Result.{err_from_is_err_and}
use Rattle.dap_bytes.specs.Cursor.{Reading, past, rest_of}
use Rattle.dap_messages.specs.declared.body.Half.{Half}
use Rattle.dap_messages.specs.declared.item.Tagged.{Tagged}
use Rattle.dap_messages.specs.FormLaws.{half_lawful}
use Rattle.dap_messages.specs.Forms.{half}
use Rattle.dap_messages.specs.Grammar.{item}
use Rattle.dap_messages.specs.Laws.{item_lawful}
use Rattle.dap_views.specs.Parts.{item_of, place_in}
use Rattle.dap_views.proofs.Places.{AreBytes, at_place, from_front, stays}
use Rattle.dap_views.proofs.read.read_part_at.Goals as goal

pub returns-in_err-part : goal.returns-in_err-part
returns-in_err-part c =
    let input = c.args.bytes.now in
    let from : c.take.new.self ≡ place_in input c.args.place = c.take.ensures.place ∙ ap (past c.args.place) c.new-cursor.ensures ∙ from_front input c.args.place c.requires in
    let p = err_from_is_err_and c.from_residual.result c.from_residual.ensures.1 in
    rw (p.1, p.2) (ap (item half None).read (sym from) ∙ c.in_err-part.ensures)

pub returns : goal.returns
returns c =
    let input = c.args.bytes.now in
    let start : Reading = place_in input c.args.place in
    let after : Reading = c.read_part.new.cursor in
    let part = c.in_ok-part.part in
    let lawful = item_lawful half None half_lawful in
    let fits : AreBytes input = λ i. omega (arith, c.type_inv.bytes i) in
    let from : c.take.new.self ≡ start = c.take.ensures.place ∙ ap (past c.args.place) c.new-cursor.ensures ∙ from_front input c.args.place c.requires in
    let read : (item half None).read start ≡ Ok (item_of part, after) = ap (item half None).read (sym from) ∙ c.in_ok-part.ensures in
    let same : after.input ≡ input = stays (item half None) lawful input fits start (item_of part) after refl read in
    let behind : after ≡ place_in input c.place.result = at_place input after same ∙ ap (place_in input) (sym c.place.ensures.place) in
    record {
      read = read ∙ ap (λ (s : Reading). let z : Result (Tagged Half × Reading) ℕ = Ok (item_of part, s) in z) behind;
      within = omega (arith, c.place.ensures.place, c.place.ensures.within, ap length same);
      spelled = (lawful.takes start (item_of part) after fits read).0.rest ∙ ap (λ (s : Reading). (item half None).spell (item_of part) ++ rest_of s) behind;
    }
