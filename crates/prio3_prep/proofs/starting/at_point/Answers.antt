use Rattle.std.proofs.Common.{rules, ◌≡◌, ◌≢◌, ◌++◌, ◌^◌, Err, ap, sym, ◌∙◌, arith}
use Rattle.std.proofs.lemmas.List.{get_or_default}
use Rattle.std.specs.Prelude.{slice_index_or}
use Rattle.field_laws.specs.Ring.{power}
use Rattle.flp_proof.specs.Proof.{wire_log, query_of}
use Rattle.prio3_share.specs.Texts.{bytes_of}
use Rattle.prio3_share.specs.Preparing.{point_of}
use Rattle.prio3_share.proofs.Fields.{base}
use Rattle.prio3_prep.specs.States.{bytes_in}
use Rattle.prio3_prep.specs.Parts.{start_at_drawn}
use Rattle.prio3_prep.proofs.Points.{root-false, root-true}
use Rattle.prio3_prep.proofs.Answering.{faults-queried, started-same}
use Rattle.prio3_prep.proofs.starting.at_point.Goals as goal

pub returns-in_err-point : goal.returns-in_err-point
unfolding start_at_drawn point_of
returns-in_err-point g c = search rules

pub index-requires : goal.index-requires
index-requires g c = omega (arith, c.in_ok-point.point.ok, c.in_ok-point.ensures.size)

pub returns-in-Ok : goal.returns-in-Ok
unfolding start_at_drawn point_of
returns-in-Ok g c =
    let F = g.C.F.Field in
    let b = base F in
    let shape = g.C.Circuit.shape c.args.c.now in
    let t = c.index.result.now in
    let at : slice_index_or c.in_ok-point.point.items 0 F.ring.nought ≡ t = sym (c.index.ensures ∙ get_or_default c.in_ok-point.point.items 0 t F.ring.nought (omega (arith, c.in_ok-point.ensures.size))) in
    let apart : power F.ring t (2 ^ wire_log shape.calls) ≢ F.ring.unit = λ e. absurd (let k = c.in-Ok.ensures.root.1 e in cc) in
    let made = c.in_ok-with_verifier-in-Ok in
    rw (c.in_ok-point.ensures.drawn, at, root-false b shape c.args.asked.kind g.met.C.F.Field.residues t apart) (started-same _ _ _ _ _ _
    (sym (made.ensures.share ∙ ap (λ v. bytes_of b v ++ c.args.own.now) (c.deref-in-Ok-2.ensures.value ∙ c.in-Ok.ensures.share
    ∙ ap (λ o. query_of F.ring F.half_of F.root_of shape o c.deref.result.now c.deref-2.result.now c.args.randomness.now t) c.half.ensures
    ∙ ap (λ x. query_of F.ring F.half_of F.root_of shape F.half_of x c.deref-2.result.now c.args.randomness.now t) c.deref.ensures.value
    ∙ ap (λ p. query_of F.ring F.half_of F.root_of shape F.half_of c.args.half.now.x.items p c.args.randomness.now t) c.deref-2.ensures.value)))
    (sym (made.ensures.out ∙ ap (λ x. bytes_of b (shape.truncate x)) c.deref-in-Ok.ensures.value))
    (sym (ap bytes_in made.ensures.seed)))

pub returns : goal.returns
unfolding start_at_drawn point_of
returns g c =
    let nought = g.C.F.Field.ring.nought in
    let t = c.index.result.now in
    let at : slice_index_or c.in_ok-point.point.items 0 nought ≡ t = sym (c.index.ensures ∙ get_or_default c.in_ok-point.point.items 0 t nought (omega (arith, c.in_ok-point.ensures.size))) in
    rw c.of_query.ensures (faults-queried c.in-Err.fault _ (λ is.
    rw (c.in_ok-point.ensures.drawn, at, root-true (base g.C.F.Field) (g.C.Circuit.shape c.args.c.now) c.args.asked.kind t (c.in-Err.ensures.root.0 (ap Err is)))))
