-- What the leader's items come to, item by item.
use Rattle.std.proofs.Common.{◌≡◌, ℕ, zero, suc, ◌+◌, ◌≤◌, ◌<◌, List, [], ◌∷◌, ◌++◌, length, get_or, take, refl, sym, ap, ◌∙◌, arith}
use Rattle.std.specs.Prelude.{min}
use Rattle.std.proofs.lemmas.List.{take_more, length-take-le}
use Rattle.vdaf_api.specs.declared.kind.Kind.{Kind}
use Rattle.vdaf_api.specs.Functions.{Functions}
use Rattle.dap_tasks.specs.Task.{PlainTask}
use Rattle.dap_messages.specs.declared.body.Half.{Half}
use Rattle.dap_messages.specs.declared.body.Step.{Step}
use Rattle.dap_messages.specs.declared.item.Tagged.{Tagged}
use Rattle.lane_records.specs.declared.outcome.Outcome.{Outcome}
use Rattle.helper_lane.specs.Reply.{prepared_outcome}
use Rattle.helper_lane.specs.Work.{prepared_outcomes}

module _ (f : Kind → Functions) (t : PlainTask) (n : List ℕ) where
  abbrev one : Tagged Half → Tagged Step → Tagged Outcome
  one h x = record { id = h.id; body = prepared_outcome f t n h x.body }

  prepared_push : (hs : List (Tagged Half)) (xs : List (Tagged Step)) (h : Tagged Half) (x : Tagged Step) → length hs ≡ length xs
      → prepared_outcomes f t n (hs ++ h ∷ []) (xs ++ x ∷ []) ≡ prepared_outcomes f t n hs xs ++ one h x ∷ []
  prepared_push [] [] h x e = refl
  prepared_push [] (y ∷ xs) h x e = absurd (cc e)
  prepared_push (k ∷ hs) [] h x e = absurd (cc e)
  prepared_push (k ∷ hs) (y ∷ xs) h x e = let rest : length hs ≡ length xs = cc e in ap (λ (os : List (Tagged Outcome)). one k y ∷ os) (prepared_push hs xs h x rest)

  -- one item more
  pub prepared_more : (hs : List (Tagged Half)) (xs : List (Tagged Step)) (i : ℕ) (h : Tagged Half) (x : Tagged Step) → i < length hs → i < length xs → h ≡ get_or hs i h → x ≡ get_or xs i x
      → prepared_outcomes f t n (take (i + 1) hs) (take (i + 1) xs) ≡ prepared_outcomes f t n (take i hs) (take i xs) ++ one h x ∷ []
  prepared_more hs xs i h x lt lt' here there =
      let a : take (i + 1) hs ≡ take i hs ++ h ∷ [] = take_more hs i h lt ∙ ap (λ (z : Tagged Half). take i hs ++ z ∷ []) (sym here) in
      let b : take (i + 1) xs ≡ take i xs ++ x ∷ [] = take_more xs i x lt' ∙ ap (λ (z : Tagged Step). take i xs ++ z ∷ []) (sym there) in
      let le : i ≤ length hs = omega (arith, lt) in
      let le' : i ≤ length xs = omega (arith, lt') in
      ap (λ (z : List (Tagged Half)). prepared_outcomes f t n z (take (i + 1) xs)) a ∙ ap (λ (z : List (Tagged Step)). prepared_outcomes f t n (take i hs ++ h ∷ []) z) b
      ∙ prepared_push (take i hs) (take i xs) h x (length-take-le i hs le ∙ sym (length-take-le i xs le'))

  -- all of them
  pub prepared_all : (hs : List (Tagged Half)) (xs : List (Tagged Step)) (m : ℕ) → min (length hs) (length xs) ≤ m → prepared_outcomes f t n (take m hs) (take m xs) ≡ prepared_outcomes f t n hs xs
  prepared_all [] xs zero le = refl
  prepared_all [] xs (suc m) le = refl
  prepared_all (h ∷ hs) [] zero le = refl
  prepared_all (h ∷ hs) [] (suc m) le = refl
  prepared_all (h ∷ hs) (x ∷ xs) zero le = absurd (omega (arith, le))
  prepared_all (h ∷ hs) (x ∷ xs) (suc m) le =
      let rest : min (length hs) (length xs) ≤ m = omega (arith, le) in
      ap (λ (os : List (Tagged Outcome)). one h x ∷ os) (prepared_all hs xs m rest)
