-- The two readings of a leader's Close are one: the numbers before it, and those of the whole lane.
use Rattle.std.proofs.Common.{◌≡◌, ◌⊎◌, List, [], ◌∷◌, ◌++◌, refl, ap, sym, ◌∙◌, inl, inr, subst}
use Rattle.vdaf_api.specs.Functions.{Functions}
use Rattle.vdaf_api.specs.declared.kind.Kind.{Kind}
use Rattle.dap_bytes.specs.declared.node.Node.TheVariants.{Leader}
use Rattle.dap_bytes.specs.declared.part.Part.TheVariants.{Lane}
use Rattle.dap_batch.specs.Group.{batch_start}
use Rattle.dap_messages.specs.declared.report.Report.{Report}
use Rattle.lane_records.specs.declared.closed.Closed.{Closed}
use Rattle.lane_records.specs.declared.record.Record.{Record}
use Rattle.lane_records.specs.declared.record.Record.TheVariants.{Accept, LeaderClose}
use Rattle.legal_journals.specs.History.{Mem}
use Rattle.legal_journals.specs.Legal.{IsLegal}
use Rattle.legal_journals.proofs.Grown.{older_legal}
use Rattle.dap_agree.specs.Agree.{Fronts, LeaderFits, LeaderAgrees, LeaderHas, LeaderAllHave}
use Rattle.legal_journals.specs.Told.{IsTold, leader_told, numbers_of}
use Rattle.dap_agree.specs.Lists.{Sub}
use Rattle.dap_agree.proofs.Closed.{app_assoc, no_more_by}
use Rattle.dap_agree.proofs.Journals.{LeaderLegal}
use Rattle.dap_agree.proofs.Lists.{mem_right, mem_cases}
use Rattle.dap_agree.proofs.Two.{accept_late}

part_legal : (l p old : List Record) → l ≡ p ++ old → LeaderLegal l → LeaderLegal old
part_legal l p old e g = (g.0, older_legal Leader (Lane g.0) p old (subst (λ z. IsLegal Leader (Lane g.0) z) e g.1))

-- ---- from the words

fits_of : (f : Kind → Functions) (fr : Fronts) (l h p old : List Record) (x : Record) → l ≡ p ++ x ∷ old → LeaderLegal l → LeaderHas f fr l h x old → LeaderFits f fr l h x old
fits_of f fr l h p old (LeaderClose n s c) e g k =
    let q : List Record = p ++ LeaderClose n s c ∷ [] in
    let split : l ≡ (p ++ LeaderClose n s c ∷ []) ++ old = e ∙ sym (app_assoc p (LeaderClose n s c ∷ []) old) in
    let legal : LeaderLegal ((p ++ LeaderClose n s c ∷ []) ++ old) = (g.0, subst (λ z. IsLegal Leader (Lane g.0) z) split g.1) in
    let same : leader_told k.0.precision n s l ≡ leader_told k.0.precision n s old =
    ap (leader_told k.0.precision n s) split
    ∙ no_more_by k.0 n s (p ++ LeaderClose n s c ∷ []) old legal (part_legal l (p ++ LeaderClose n s c ∷ []) old split g)
    (λ r acc b. k.3 r (subst (λ z. Mem (Accept r) z) (sym split) acc.0) acc.1 b) in (
      k.0,
      k.1,
      k.2,
      (λ r m a b. k.3 r (subst (λ z. Mem (Accept r) z) (sym split) (mem_right (p ++ LeaderClose n s c ∷ []) old (Accept r) m)) a b),
      k.4 ∙ ap (numbers_of (f k.0.kind).space) same,
      k.5,
    )
fits_of f fr l h p old _ e g k = k

all_fit : (f : Kind → Functions) (fr : Fronts) (l h p k : List Record) → l ≡ p ++ k → LeaderLegal l → LeaderAllHave f fr l h k → LeaderAgrees f fr l h k
all_fit f fr l h p [] e g a = tt
all_fit f fr l h p (x ∷ old) e g a =
    (fits_of f fr l h p old x e g a.0, all_fit f fr l h (p ++ x ∷ []) old (e ∙ sym (app_assoc p (x ∷ []) old)) g a.1)

pub leader_fits : (f : Kind → Functions) (fr : Fronts) (l h : List Record) → LeaderLegal l → LeaderAllHave f fr l h l → LeaderAgrees f fr l h l
leader_fits f fr l h g a = all_fit f fr l h [] l refl g a

-- ---- to the words

-- the counterpart of a record of the newer part, before which all of the older part stands
fit_at : (f : Kind → Functions) (fr : Fronts) (l h p k : List Record) (x : Record) → LeaderAgrees f fr l h (p ++ k) → Mem x p →
    (old : List Record) × LeaderFits f fr l h x old × Sub k old
fit_at f fr l h [] k x a m = elim m [ ]
fit_at f fr l h (y ∷ p) k x a (inl e) = (p ++ k, subst (λ z. LeaderFits f fr l h z (p ++ k)) (sym e) a.0, (λ z q. mem_right p k z q))
fit_at f fr l h (y ∷ p) k x a (inr m) = fit_at f fr l h p k x a.1 m

has_of : (f : Kind → Functions) (fr : Fronts) (l h p old : List Record) (x : Record) → l ≡ p ++ x ∷ old → LeaderLegal l → LeaderAgrees f fr l h l → LeaderFits f fr l h x old → LeaderHas f fr l h x old
has_of f fr l h p old (LeaderClose n s c) e g all k =
    (k.0, k.1, k.2, told, k.4 ∙ ap (numbers_of (f k.0.kind).space) (sym same), k.5)
  where
    split : l ≡ (p ++ LeaderClose n s c ∷ []) ++ old
    split = e ∙ sym (app_assoc p (LeaderClose n s c ∷ []) old)

    close : Closed
    close = c

    -- an Accept of the bucket stands before the Close
    place : (r : Report) → r.name ≡ n → batch_start r.time k.0.precision ≡ s → Mem (Accept r) p ⊎ Mem (Accept r) (LeaderClose n s c ∷ old) → Mem (Accept r) old
    place r a b (inl m) =
        let z = fit_at f fr l h p (LeaderClose n s c ∷ old) (Accept r) (subst (λ v. LeaderAgrees f fr l h v) e all) m in
        absurd (accept_late fr z.0 n s c r k.0 (z.2 (LeaderClose n s c) (inl refl)) k.1 a b z.1)
    place r a b (inr (inl d)) = absurd (cc)
    place r a b (inr (inr m)) = m

    told : (r : Report) → Mem (Accept r) l → r.name ≡ n → batch_start r.time k.0.precision ≡ s → IsTold n r.id old
    told r m a b = k.3 r (place r a b (mem_cases p (LeaderClose n s c ∷ old) (Accept r) (subst (λ z. Mem (Accept r) z) e m))) a b

    same : leader_told k.0.precision n s l ≡ leader_told k.0.precision n s old
    same = ap (leader_told k.0.precision n s) split
        ∙ no_more_by k.0 n s (p ++ LeaderClose n s c ∷ []) old (g.0, subst (λ z. IsLegal Leader (Lane g.0) z) split g.1)
        (part_legal l (p ++ LeaderClose n s c ∷ []) old split g)
        (λ r acc b. told r (subst (λ z. Mem (Accept r) z) (sym split) acc.0) acc.1 b)
has_of f fr l h p old _ e g all k = k

all_have : (f : Kind → Functions) (fr : Fronts) (l h p k : List Record) → l ≡ p ++ k → LeaderLegal l → LeaderAgrees f fr l h l → LeaderAgrees f fr l h k → LeaderAllHave f fr l h k
all_have f fr l h p [] e g all a = tt
all_have f fr l h p (x ∷ old) e g all a =
    (has_of f fr l h p old x e g all a.0, all_have f fr l h (p ++ x ∷ []) old (e ∙ sym (app_assoc p (x ∷ []) old)) g all a.1)

pub leader_have : (f : Kind → Functions) (fr : Fronts) (l h : List Record) → LeaderLegal l → LeaderAgrees f fr l h l → LeaderAllHave f fr l h l
leader_have f fr l h g a = all_have f fr l h [] l refl g a a
