use Rattle.std.proofs.Common.{ℕ, List, reverse, subst}
use Rattle.helper_lane.specs.Input.{IsInput}
use Rattle.helper_lane.specs.Judged.{input_with}
use Rattle.helper_lane.specs.Refusals.{env_of}
use Rattle.helper_lane.proofs.Requests.{input_is}
use Rattle.helper_lane.proofs.taking.take_in.Goals as goal

pub work_of-requires : goal.work_of-requires
work_of-requires g c =
    let env = env_of g.V.Vdaf.of_kind c.args.place c.args.tasks.now in
    let l = reverse c.args.known.records.now in
    let b = c.as_slice.result.now in
    let input = input_with b c.in-Ok.found in
    subst (λ (m : List ℕ). IsInput input.task m input.started) c.as_slice.ensures (input_is env l b input c.in-Ok.ensures.1)
