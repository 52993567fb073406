-- Journals have one first record without its counterpart, or none.
use Rattle.std.proofs.Common.{◌≡◌, ℕ, ◌<◌, ◌≤◌, ◌⊎◌, List, [], ◌∷◌, ◌++◌, Option, Some, None, refl, ap, sym, ◌∙◌, arith, inl, inr, subst}
use Rattle.vdaf_api.specs.Functions.{Functions}
use Rattle.vdaf_api.specs.declared.kind.Kind.{Kind}
use Rattle.dap_bytes.specs.declared.node.Node.{Node}
use Rattle.dap_bytes.specs.declared.node.Node.TheVariants.{Leader, Helper}
use Rattle.dap_bytes.specs.declared.part.Part.{Part}
use Rattle.dap_bytes.specs.declared.part.Part.TheVariants.{Front, Lane}
use Rattle.lane_records.specs.declared.record.Record.{Record}
use Rattle.legal_journals.specs.History.{Mem}
use Rattle.dap_agree.specs.Agree.{Fronts, LeaderHas, LeaderAllHave, HelperFits, HelperAgrees}
use Rattle.dap_agree.specs.Fronts.{Journals, held, AllAgree}
use Rattle.dap_agree.specs.First.{disk_of, IsPart, Lacks, IsFirstLacking}
use Rattle.dap_agree.proofs.Lists.{mem_right}

leader_at : (f : Kind → Functions) (fr : Fronts) (l h newer old : List Record) (x : Record) → LeaderAllHave f fr l h (newer ++ x ∷ old) → LeaderHas f fr l h x old
leader_at f fr l h [] old x a = a.0
leader_at f fr l h (y ∷ newer) old x a = leader_at f fr l h newer old x a.1

helper_at : (f : Kind → Functions) (fr : Fronts) (l newer old : List Record) (x : Record) → HelperAgrees f fr l (newer ++ x ∷ old) → HelperFits f fr l x old
helper_at f fr l [] old x a = a.0
helper_at f fr l (y ∷ newer) old x a = helper_at f fr l newer old x a.1

-- where all agree no record lacks its counterpart
pub none_lacks : (f : Kind → Functions) (js : Journals) (node : Node) (part : Part) (entry : ℕ) → AllAgree f js → IsPart js.lanes part → Lacks f js node part entry → ⊥
none_lacks f js Leader Front entry a p w = w.5 (a.front w.1 (subst (λ z. Mem w.1 z) (sym w.3) (mem_right w.0 (w.1 ∷ w.2) w.1 (inl refl))))
none_lacks f js Helper Front entry a p w = w.5 (a.helper_front w.1 (subst (λ z. Mem w.1 z) (sym w.3) (mem_right w.0 (w.1 ∷ w.2) w.1 (inl refl))))
none_lacks f js Leader (Lane k) entry a p w =
    w.5 (leader_at f (held js) (js.leaders k) (js.helpers k) w.0 w.2 w.1 (subst (λ z. LeaderAllHave f (held js) (js.leaders k) (js.helpers k) z) w.3 (a.lanes k p).0))
none_lacks f js Helper (Lane k) entry a p w =
    w.5 (helper_at f (held js) (js.leaders k) w.0 w.2 w.1 (subst (λ z. HelperAgrees f (held js) (js.leaders k) z) w.3 (a.lanes k p).1))

abbrev the_place : ℕ → ℕ → ℕ × ℕ
the_place d e = (d, e)

pub first_one : (f : Kind → Functions) (js : Journals) (here there : Option (ℕ × ℕ)) → IsFirstLacking f js here → IsFirstLacking f js there → here ≡ there
first_one f js None None a b = refl
first_one f js None (Some p) a b = absurd (none_lacks f js b.0.0 b.0.1 p.1 a b.0.2 b.0.4)
first_one f js (Some p) None a b = absurd (none_lacks f js a.0.0 a.0.1 p.1 b a.0.2 a.0.4)
first_one f js (Some p) (Some q) a b =
    let x = a.1 b.0.0 b.0.1 q.1 b.0.2 b.0.4 in
    let y = b.1 a.0.0 a.0.1 p.1 a.0.2 a.0.4 in
    let da : disk_of js.lanes a.0.0 a.0.1 ≡ p.0 = a.0.3 in
    let db : disk_of js.lanes b.0.0 b.0.1 ≡ q.0 = b.0.3 in
    let x' : (p.0 < q.0) ⊎ ((p.0 ≡ q.0) × (p.1 ≤ q.1)) = subst (λ z. (p.0 < z) ⊎ ((p.0 ≡ z) × (p.1 ≤ q.1))) b.0.3 x in
    let y' : (q.0 < p.0) ⊎ ((q.0 ≡ p.0) × (q.1 ≤ p.1)) = subst (λ z. (q.0 < z) ⊎ ((q.0 ≡ z) × (q.1 ≤ p.1))) a.0.3 y in
    go p.0 p.1 q.0 q.1 x' y'
  where
    go : (d e d' e' : ℕ) → (d < d') ⊎ ((d ≡ d') × (e ≤ e')) → (d' < d) ⊎ ((d' ≡ d) × (e' ≤ e)) → Some (the_place d e) ≡ Some (the_place d' e')
    go d e d' e' (inl x) (inl y) = absurd (omega arith)
    go d e d' e' (inl x) (inr y) = let s : d' ≡ d = y.0 in absurd (omega arith)
    go d e d' e' (inr x) (inl y) = let s : d ≡ d' = x.0 in absurd (omega arith)
    go d e d' e' (inr x) (inr y) =
        let i : e ≤ e' = x.1 in
        let j : e' ≤ e = y.1 in
        let same : e ≡ e' = omega arith in
        ap (λ z. Some (the_place z e)) x.0 ∙ ap (λ z. Some (the_place d' z)) same
