use Rattle.std.proofs.Common.{◌≡◌, ◌+◌, min, length, arith}
use Rattle.dap_outside.proofs.FateLists.{given_next}
use Rattle.dap_outside.proofs.list_fates.ListFates.advance.Goals as goal

pub returns-clause-next : goal.returns-clause-next
returns-clause-next c =
    let place : c.min-self-inside.result ≡ min (c.self.inside.given + 1) (length c.self.inside.fates.items)
    = (let ok = c.self.inside.fates.ok in omega arith) in
    given_next _ _ _ _ _ _ _ _ _ _ c.self.view_is c.next_fate-fate.ensures place c.drops_after-self-inside.ensures c.row_after-self-inside.ensures
