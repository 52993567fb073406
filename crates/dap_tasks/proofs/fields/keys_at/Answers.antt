use Rattle.std.proofs.Common.{sym, ◌∙◌}
use Rattle.toml.specs.Data.{get_member}
use Rattle.toml.specs.View.{table_view}
use Rattle.dap_tasks.proofs.KeysLemmas.{keys_of-octets}
use Rattle.dap_tasks.proofs.fields.keys_at.Goals as goal

pub returns : goal.returns
returns c =
    let both = keys_of-octets (get_member c.args.key.now (table_view c.args.table.now)) c.in_ok-octets.octets (sym c.octets_at.ensures ∙ c.in_ok-octets.was) in
    rw (c.copy_from_slice.ensures.after, c.copy_from_slice-2.ensures.after) (sym both)
