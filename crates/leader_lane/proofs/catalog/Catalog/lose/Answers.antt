use Rattle.std.proofs.Common.{◌≡◌, ℕ, ◌-◌, List, [], ◌∷◌, ◌++◌, length, take, refl, ap, ◌∙◌, sym, append-nil, option_to_list, vec_len, arith}
use Rattle.std.proofs.lemmas.List.{length-take-le}
use Rattle.legal_journals.specs.Reports.{Report}
use Rattle.leader_lane.proofs.CatalogLaws.{lists_less, lists_empty}
use Rattle.leader_lane.proofs.catalog.Catalog.lose.Goals as goal

-- nothing is taken of a list alone that is empty
none_popped : (xs ys : List Report) (n : ℕ) → n ≡ length xs → xs ≡ ys → ys ≡ take (n - 1) xs → xs ≡ []
none_popped [] ys n e same rest = refl
none_popped (x ∷ l) ys n e same rest =
    let a : length (x ∷ l) ≡ length (take (n - 1) (x ∷ l)) = ap length (same ∙ rest) in
    let b = length-take-le (n - 1) (x ∷ l) (omega (arith, e)) in
    absurd (omega (arith, a, b, e))

pub loop-key-init : goal.loop-key-init
loop-key-init c records block h = (block, h)

pub loop-key-preserved : goal.loop-key-preserved
loop-key-preserved c records block h =
    let k = c.loop-key.invariant records block h in
    lists_less c.loop-key.self (record c.loop-key.self { index = c.take_back_accept.new.self; entered = c.pop.new.self }) records k.0 c.pop.new.self.items c.in-Some.key
    (c.pop.ensures.items ∙ ap (λ o. c.pop.new.self.items ++ option_to_list o) c.in-Some.is) refl c.take_back_accept.ensures k.1

pub returns : goal.returns
returns c records block h =
    let k = c.loop-key.invariant records block h in
    let ok = c.loop-key.self.entered.ok in
    let n : vec_len c.loop-key.self.entered ≡ length c.loop-key.self.entered.items = omega (arith, ok) in
    let same : c.loop-key.self.entered.items ≡ c.pop.new.self.items =
    c.pop.ensures.items ∙ ap (λ o. c.pop.new.self.items ++ option_to_list o) c.in_default.is ∙ append-nil c.pop.new.self.items in
    let none = none_popped c.loop-key.self.entered.items c.pop.new.self.items (vec_len c.loop-key.self.entered) n same c.pop.ensures.rest in
    lists_empty c.loop-key.self (record c.loop-key.self { entered = c.pop.new.self }) records k.0 refl none (sym same ∙ none) k.1
