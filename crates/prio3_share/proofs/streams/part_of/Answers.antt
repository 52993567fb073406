use Rattle.std.proofs.Common.{◌≡◌, ◌++◌, ◌∷◌, [], ℕ, List, IfOk, ap, ◌∙◌, subst}
use Rattle.vdaf_api.specs.Role.{role_byte}
use Rattle.prio3_share.specs.Texts.{bytes_for, bytes_of}
use Rattle.prio3_share.specs.declared.usage.Usage.TheVariants.{Part}
use Rattle.prio3_share.proofs.Fields.{base}
use Rattle.prio3_share.proofs.streams.part_of.Goals as goal

pub returns : goal.returns
returns g c =
    let xs : List ℕ = bytes_of (base g.F.Field) c.args.x.now in
    let rest : c.deref.result.now ≡ role_byte c.args.role ∷ (c.args.id.now ++ xs) =
    c.deref.ensures.value ∙ c.in_ok-push_elements.ensures
    ∙ ap (λ (l : List ℕ). l ++ xs) (c.in_ok-extend_from_slice.ensures.items ∙ ap (λ (l : List ℕ). l ++ c.args.id.now) (c.in_ok-push.ensures.items ∙ ap (λ (l : List ℕ). l ++ (c.byte.result ∷ [])) c.new-rest.ensures.items ∙ ap (λ (n : ℕ). n ∷ []) c.byte.ensures)) in
    subst (λ (text : List ℕ). IfOk c.block_for.result (λ block. block ≡ bytes_for c.args.kind c.args.blind.now Part text 16)) rest c.block_for.ensures
