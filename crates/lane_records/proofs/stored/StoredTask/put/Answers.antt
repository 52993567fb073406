use Rattle.std.proofs.Common.{◌≡◌, ◌++◌, OnOk, List, ℕ, sym, subst, ◌∙◌}
use Rattle.lane_records.specs.StoredLaws.{fields_allowed, fields_spelled}
use Rattle.lane_records.proofs.stored.StoredTask.put.Goals as goal

pub put_fields-requires : goal.put_fields-requires
put_fields-requires c = sym (fields_allowed c.args.self.now) ∙ c.requires

pub returns : goal.returns
returns c =
    subst (λ (text : List ℕ). OnOk c.put_fields.result (c.put_fields.new.out.items ≡ c.args.out.now.items ++ text)) (sym (fields_spelled c.args.self.now)) c.put_fields.ensures
