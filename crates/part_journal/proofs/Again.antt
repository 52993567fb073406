-- One restart more.
use Rattle.std.proofs.Common.{◌≡◌, ◌⊎◌, inl, inr, List, [], ◌∷◌, ◌++◌, Bool, true, false, Option, Some, None, refl, ap, sym, ◌∙◌, subst}
use Rattle.part_journal.specs.Pages.{Pages, decided, settled, reopening, reopened, restarts, IsBack, Opening, Restarted, UnderWay}

module _ {R : Type 0} (x : R) where
  restarts_more : (more : List Bool) (kept : Bool) (p : Pages R) → restarts x (more ++ kept ∷ []) p ≡ reopening x (settled kept (restarts x more p))
  restarts_more [] kept p = refl
  restarts_more (first ∷ more) kept p = restarts_more more kept (reopening x (settled first p))

  -- where the loop stands: nothing was tried yet, or a restart has followed some tries
  abbrev pub Tried : Pages R → Pages R → Type 0
  Tried p q = (q ≡ p) ⊎ ((kept : Bool) × (more : List Bool) × (q ≡ settled kept (restarts x more (reopening x p))))

  pub tried_back : (p q r : Pages R) → Tried p q → r ≡ reopened (reopening x q) → IsBack x (reopening x p) r
  tried_back p q r (inl same) is = ([], is ∙ ap (λ (s : Pages R). reopened (reopening x s)) same)
  tried_back p q r (inr t) is =
      (t.1 ++ t.0 ∷ [], is ∙ ap (λ (s : Pages R). reopened (reopening x s)) t.2 ∙ ap (λ (s : Pages R). reopened s) (sym (restarts_more t.1 t.0 (reopening x p))))

  pub tried_more : (p q : Pages R) (kept : Bool) → Tried p q → Tried p (settled kept (reopening x q))
  tried_more p q kept (inl same) = inr (kept, [], ap (λ (s : Pages R). settled kept (reopening x s)) same)
  tried_more p q kept (inr t) =
      inr (kept, t.1 ++ t.0 ∷ [], ap (λ (s : Pages R). settled kept (reopening x s)) t.2 ∙ ap (λ (s : Pages R). settled kept s) (sym (restarts_more t.1 t.0 (reopening x p))))

  -- a refusal before an Open was begun, and behind one
  pub tried_refused : (p q r : Pages R) → Tried p q → r ≡ q → Opening x p r
  tried_refused p q r (inl same) is = inl (is ∙ same)
  tried_refused p q r (inr t) is = inr (t.1, inr (t.0, is ∙ t.2))

  pub tried_stopped : (p q r : Pages R) → Tried p q → r ≡ reopening x q → Opening x p r
  tried_stopped p q r (inl same) is = inr ([], inl (is ∙ ap (λ (s : Pages R). reopening x s) same))
  tried_stopped p q r (inr t) is =
      inr (t.1 ++ t.0 ∷ [], inl (is ∙ ap (λ (s : Pages R). reopening x s) t.2 ∙ sym (restarts_more t.1 t.0 (reopening x p))))

  -- the same from the block that a restart has settled
  pub way_behind : (y : R) (p q r : Pages R) (kept : Bool) → y ≡ x → q ≡ settled kept p → Opening y q r → UnderWay x p r
  way_behind y p q r kept is settled_is way = go (subst (λ (s : Pages R). Opening x s r) settled_is (subst (λ (z : R). Opening z q r) is way)) where
    go : Opening x (settled kept p) r → UnderWay x p r
    go (inl same) = ([], inr (kept, same))
    go (inr u) = (kept ∷ u.0, u.1)

  pub back_behind : (y : R) (p q r : Pages R) (kept : Bool) → y ≡ x → q ≡ settled kept p → IsBack y (reopening y q) r → Restarted x kept p r
  back_behind y p q r kept is settled_is back =
      subst (λ (s : Pages R). IsBack x (reopening x s) r) settled_is (subst (λ (z : R). IsBack z (reopening z q) r) is back)

decided_told : (kept : Bool) (o : Option Bool) → decided kept o ≡ None → ⊥
decided_told kept None e = absurd (cc e)
decided_told kept (Some was) e = absurd (cc e)

-- after a restart it is known what became of a block, and none is in hand
pub settled_told : {R : Type 0} (kept : Bool) (p : Pages R) → (settled kept p).fate ≡ None → ⊥
settled_told true p e = decided_told true p.fate e
settled_told false p e = decided_told false p.fate e

pub settled_empty : {R : Type 0} (kept : Bool) (p : Pages R) → (settled kept p).block ≡ []
settled_empty true p = refl
settled_empty false p = refl
