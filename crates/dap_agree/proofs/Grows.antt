-- Counterparts stay where the lists grow.
use Rattle.std.proofs.Common.{ℕ, ◌≤◌, List, [], ◌∷◌, ◌++◌, Option, Some, None, arith}
use Rattle.vdaf_api.specs.Functions.{Functions}
use Rattle.vdaf_api.specs.declared.kind.Kind.{Kind}
use Rattle.lane_records.specs.declared.record.Record.{Record}
use Rattle.lane_records.specs.declared.record.Record.TheVariants.{Accept, Continue, Finish, LeaderClose, Start, Commit, HelperClose}
use Rattle.legal_journals.specs.History.{lanes_in, count_some, opens}
use Rattle.dap_agree.specs.Agree.{Fronts, LeaderFits, HelperFits, LeaderAgrees, HelperAgrees}
use Rattle.dap_agree.specs.Growth.{Grow}
use Rattle.dap_agree.specs.Lists.{Sub}
use Rattle.dap_agree.proofs.Lists.{accepted_mono}

pub opens_app : (p l : List Record) → opens l ≤ opens (p ++ l)
opens_app [] l = omega arith
opens_app (x ∷ p) l = let h = opens_app p l in go (lanes_in x) h
  where
    go : (o : Option ℕ) → opens l ≤ opens (p ++ l) → opens l ≤ count_some o (opens (p ++ l))
    go None h = h
    go (Some n) h = omega arith

pub same_fronts : (fr : Fronts) → Grow fr fr
same_fronts fr = ((λ n t e. e), (λ b p. p))

pub leader_fits_grows : (f : Kind → Functions) (fr fr' : Fronts) (l l' h h' : List Record) (x : Record) (old : List Record) →
    Grow fr fr' → Sub l l' → Sub h h' → LeaderFits f fr l h x old → LeaderFits f fr' l' h' x old
leader_fits_grows f fr fr' l l' h h' (Accept r) old v s t k = (k.0, v.0 r.name k.0 k.1, k.2)
leader_fits_grows f fr fr' l l' h h' (Continue n j xs) old v s t k =
    (k.0, v.0 n k.0 k.1, (k.2.0, accepted_mono n k.2.0 l l' s k.2.1, k.2.2, (k.2.3.0, t (Start j n k.2.3.0) k.2.3.1, k.2.3.2)))
leader_fits_grows f fr fr' l l' h h' (Finish j outs) old v s t k = (
  k.0,
  k.1,
  v.0 k.0 k.1 k.2,
  (
    k.3.0,
    accepted_mono k.0 k.3.0 l l' s k.3.1,
    k.3.2,
    k.3.3,
    (k.3.4.0, s (Continue k.0 j k.3.4.0) k.3.4.1),
    (k.3.5.0, t (Commit j k.3.5.0) k.3.5.1, k.3.5.2),
  ),
)
leader_fits_grows f fr fr' l l' h h' (LeaderClose n c d) old v s t k =
    (k.0, v.0 n k.0 k.1, (k.2.0, v.1 k.2.0 k.2.1, k.2.2, k.2.3), k.3, k.4, k.5)
leader_fits_grows f fr fr' l l' h h' _ old v s t k = tt

pub leader_grows : (f : Kind → Functions) (fr fr' : Fronts) (l l' h h' k : List Record) → Grow fr fr' → Sub l l' → Sub h h' → LeaderAgrees f fr l h k → LeaderAgrees f fr' l' h' k
leader_grows f fr fr' l l' h h' [] v s t a = tt
leader_grows f fr fr' l l' h h' (x ∷ k) v s t a = (leader_fits_grows f fr fr' l l' h h' x k v s t a.0, leader_grows f fr fr' l l' h h' k v s t a.1)

pub helper_fits_grows : (f : Kind → Functions) (fr fr' : Fronts) (l l' : List Record) (x : Record) (old : List Record) →
    Grow fr fr' → Sub l l' → opens l ≤ opens l' → HelperFits f fr l x old → HelperFits f fr' l' x old
helper_fits_grows f fr fr' l l' (Start j n hs) old v s g k =
    (k.0, omega (arith, k.1, g), (k.2.0, v.0 n k.2.0 k.2.1), (k.3.0, accepted_mono n k.3.0 l l' s k.3.1, k.3.2))
helper_fits_grows f fr fr' l l' (Commit j outs) old v s g k =
    (k.0, k.1, v.0 k.0 k.1 k.2, (k.3.0, accepted_mono k.0 k.3.0 l l' s k.3.1, k.3.2, (k.3.3.0, s (Continue k.0 j k.3.3.0) k.3.3.1, k.3.3.2)))
helper_fits_grows f fr fr' l l' (HelperClose n c d) old v s g k =
    (k.0, v.0 n k.0 k.1, (k.2.0, s (LeaderClose n c k.2.0) k.2.1, k.2.2, k.2.3, k.2.4), k.3, k.4)
helper_fits_grows f fr fr' l l' _ old v s g k = tt

pub helper_grows : (f : Kind → Functions) (fr fr' : Fronts) (l l' k : List Record) → Grow fr fr' → Sub l l' → opens l ≤ opens l' → HelperAgrees f fr l k → HelperAgrees f fr' l' k
helper_grows f fr fr' l l' [] v s g a = tt
helper_grows f fr fr' l l' (x ∷ k) v s g a = (helper_fits_grows f fr fr' l l' x k v s g a.0, helper_grows f fr fr' l l' k v s g a.1)
