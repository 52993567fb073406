use Rattle.std.proofs.Common.{rules, ◌≡◌}
use Rattle.vdaf_api.specs.Kind.{is_kind}
use Rattle.vdaf_api.proofs.Ranges.{is_kind-decides}
use Rattle.vdaf_api.proofs.kind.Kind.is_valid.Goals as goal

pub returns-then-contains-clause-kind : goal.returns-then-contains-clause-kind
returns-then-contains-clause-kind c =
    let value : c.ascend.result ≡ is_kind c.args.self.now = search rules in
    rw value (is_kind-decides c.args.self.now)
