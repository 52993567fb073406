use Rattle.dap_agree.proofs.Answered.{answer_shown}
use Rattle.dap_agree.proofs.Stored.{the_batch, task_ranges}
use Rattle.dap_agree.proofs.Whole.{key_bytes, honest_sums, whole_sums}
use Rattle.dap_agree.proofs.laws.honest_collections_are_whole_sums.Goals as goal

pub returns : goal.returns
returns c f js functions legal agree n span a m =
    let s = answer_shown f js n span a functions legal agree m in
    let ranges = task_ranges js.front js.helper_front n s.0 legal.front s.1 in
    let laws = functions s.0.kind ranges.kind_ranges in
    let verify = key_bytes js.front js.helper_front n s.0 legal.front s.1 in (
      s.0,
      s.1,
      (
        s.2.0,
        s.2.1,
        honest_sums f s.0 js (the_batch n span) a s.2.0 laws verify s.2.1,
        whole_sums f s.0 js (the_batch n span) a s.2.0 laws verify s.2.1,
      ),
    )
