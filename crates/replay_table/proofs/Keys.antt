-- The order of reports.
use Rattle.std.specs.Ordering.{nat_cmp}
use Rattle.std.specs.Cmp.{IsTotalOrder}
use Rattle.std.specs.Cmp.Lexicographic.{slice_cmp, nat_list_cmp_total}
use Rattle.std.specs.FinMap as map
use Rattle.dap_batch.specs.MapLaws.{pair-same, pair-total}
use Rattle.replay_table.specs.Reports.{report_order}

pub report_order-total : IsTotalOrder report_order
report_order-total = pair-total nat_list_cmp_total nat_list_cmp_total

lists-same : map.IsAntisymmetric (slice_cmp nat_cmp)
lists-same = map.slice_cmp-IsAntisymmetric map.nat_cmp-IsAntisymmetric

pub report_order-same : map.IsAntisymmetric report_order
report_order-same = pair-same (slice_cmp nat_cmp) (slice_cmp nat_cmp) lists-same lists-same
