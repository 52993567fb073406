use Rattle.std.proofs.Common.{◌≡◌, ℕ, List, [], ◌∷◌, ◌++◌, ◌+◌, ◌-◌, ◌*◌, length, map, take, drop, Some, sym, ap, ◌∙◌, arith}
use Rattle.std.specs.Option.{option_and_then}
use Rattle.std.proofs.lemmas.List.{length-append, map-append}
use Rattle.vdaf_api.specs.Vectors.{vector_of, element_of}
use Rattle.vdaf_api.specs.VectorLaws.{element_of-low}
use Rattle.prio3_share.proofs.Elements.{residues-numbers}
use Rattle.prio3_share.proofs.Fields.{kept}
use Rattle.prio3_prep.proofs.Vectors.{behind, behind-step, behind-none, behind-end, element-none, row_less}
use Rattle.prio3_prep.proofs.reading.read_elements.Goals as goal

pub returns-in_default-clause-elements : goal.returns-in_default-clause-elements
returns-in_default-clause-elements g c =
    let F = g.F.Field in
    let rest : List ℕ = c.loop-i.rest.now in
    let front : c.split_at.result.0.now ≡ take F.WIDTH rest = c.split_at.ensures.front ∙ ap (λ k. take k rest) c.WIDTH.ensures in
    ap (option_and_then (λ (numbers : List ℕ). Some (map F.residue numbers)))
    (c.loop-i.invariant.value ∙ behind-none F.MODULUS F.WIDTH (c.args.n - c.loop-i.i) (map F.number c.loop-i.elements.items) rest (omega arith)
    (ap (element_of F.MODULUS F.WIDTH) (sym front) ∙ element-none F.MODULUS F.WIDTH c.split_at.result.0.now c.in_default.ensures))

pub loop-i-preserved : goal.loop-i-preserved
loop-i-preserved g c =
    let F = g.F.Field in
    let w : ℕ = F.WIDTH in
    let p : ℕ = F.MODULUS in
    let rest : List ℕ = c.loop-i.rest.now in
    let numbers : List ℕ = map F.number c.loop-i.elements.items in
    let next : ℕ = F.number c.in-Some.element in
    let front : c.split_at.result.0.now ≡ take w rest = c.split_at.ensures.front ∙ ap (λ k. take k rest) c.WIDTH.ensures in
    let back : c.split_at.result.1.now ≡ drop w rest = c.split_at.ensures.back ∙ ap (λ k. drop k rest) c.WIDTH.ensures in
    let is : element_of p w (take w rest) ≡ Some next = ap (element_of p w) (sym front ∙ sym c.in-Some.ensures) ∙ element_of-low p w next (g.met.F.Field.residues.below c.in-Some.element) g.met.F.Field.room in
    record {
      within = omega arith;
      count = omega (arith, ap length c.in-Ok.ensures.items, length-append c.loop-i.elements.items (c.in-Some.element ∷ []));
      left = row_less c.args.n c.loop-i.i w (length rest) (length c.split_at.result.1.now) (omega arith) c.loop-i.invariant.left (omega (arith, c.split_at.ensures.back_len, c.WIDTH.ensures));
      value = c.loop-i.invariant.value
          ∙ behind-step p w (c.args.n - c.loop-i.i) numbers rest next (omega arith) is
          ∙ ap (λ k. behind (numbers ++ (next ∷ [])) (vector_of p w k (drop w rest))) (let e : c.args.n - c.loop-i.i - 1 ≡ c.args.n - (c.loop-i.i + 1) = omega arith in e)
          ∙ ap (λ l. behind (numbers ++ (next ∷ [])) (vector_of p w (c.args.n - (c.loop-i.i + 1)) l)) (sym back)
          ∙ ap (λ l. behind l (vector_of p w (c.args.n - (c.loop-i.i + 1)) c.split_at.result.1.now)) (sym (ap (map F.number) c.in-Ok.ensures.items ∙ map-append F.number c.loop-i.elements.items (c.in-Some.element ∷ [])));
    }

pub returns-clause-elements : goal.returns-clause-elements
returns-clause-elements g c =
    let F = g.F.Field in
    let w : ℕ = F.WIDTH in
    let none : c.args.n - c.loop-i.i ≡ 0 = omega arith in
    let numbers : List ℕ = map F.number c.loop-i.elements.items in
    ap (option_and_then (λ (numbers : List ℕ). Some (map F.residue numbers)))
    (c.loop-i.invariant.value ∙ ap (λ k. behind numbers (vector_of F.MODULUS w k c.loop-i.rest.now)) none
    ∙ behind-end F.MODULUS w numbers c.loop-i.rest.now (c.loop-i.invariant.left ∙ ap (λ k. k * w) none ∙ (let z : 0 * w ≡ 0 = omega arith in z)))
    ∙ ap Some (residues-numbers (kept g.met.F.Field) c.loop-i.elements.items)

pub returns-clause-size : goal.returns-clause-size
returns-clause-size g c = omega arith
