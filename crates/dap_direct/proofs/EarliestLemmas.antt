-- The batch that starts first, one batch after another.
use Rattle.std.proofs.Common.{◌≡◌, ℕ, ◌+◌, ◌<◌, List, [], ◌∷◌, ◌++◌, length, get_or, take, map, filter, nat_le, Bool, cond, true, false, Option, Some, None, refl, sym, ap, ◌∙◌, arith, append-nil}
use Rattle.std.proofs.lemmas.Bool.{le-leb, leb-false, leb-true, lt-leb}
use Rattle.std.proofs.lemmas.List.{map-append}
use Rattle.std.proofs.lemmas.List.Elements.{filter_more}
use Rattle.std.specs.Option.{option_map_or}
use Rattle.dap_bytes.specs.declared.span.Span.{Span}
use Rattle.dap_tasks.specs.Task.{PlainTask}
use Rattle.dap_model.specs.State.{Batch, earlier, earliest, sharing, shares_with}
use Rattle.dap_direct.specs.Earlier.{earlier_of}

earlier-assoc : (a b c : Span) → earlier a (earlier b c) ≡ earlier (earlier a b) c
earlier-assoc a b c = go (nat_le a.start b.start) refl (nat_le b.start c.start) refl
  where
    go : (x : Bool) → nat_le a.start b.start ≡ x → (y : Bool) → nat_le b.start c.start ≡ y → earlier a (cond y b c) ≡ earlier (cond x a b) c
    go true e true f = ap (λ x. cond x a b) e ∙ sym (ap (λ x. cond x a c) (le-leb a.start c.start (omega (arith, leb-true a.start b.start e, leb-true b.start c.start f))))
    go false e true f = ap (λ x. cond x a b) e ∙ sym (ap (λ x. cond x b c) f)
    go true e false f = refl
    go false e false f =
        ap (λ x. cond x a c) (lt-leb a.start c.start (omega (arith, leb-false a.start b.start e, leb-false b.start c.start f))) ∙ sym (ap (λ x. cond x b c) f)

earliest-push : (spans : List Span) (b : Span) → earliest (spans ++ b ∷ []) ≡ Some (earlier_of (earliest spans) b)
earliest-push [] b = refl
earliest-push (a ∷ more) b = ap (λ o. Some (option_map_or (earlier a) o a)) (earliest-push more b) ∙ go (earliest more)
  where
    go : (o : Option Span) → Some (earlier a (earlier_of o b)) ≡ Some (earlier (option_map_or (earlier a) o a) b)
    go None = refl
    go (Some c) = ap Some (earlier-assoc a c b)

-- the first batches, and one more
module _ (task : PlainTask) (span : Span) (collected : List Batch) (i : ℕ) (b : Batch) (within : i < length collected) (here : b ≡ get_or collected i b) where
  more : sharing task span (take (i + 1) collected) ≡ sharing task span (take i collected) ++ map (λ (b : Batch). b.span) (cond (shares_with task span b) (b ∷ []) [])
  more =
      ap (λ (l : List Batch). map (λ (b : Batch). b.span) l)
      (filter_more (shares_with task span) collected i b within
      ∙ ap (λ (x : Batch). filter (shares_with task span) (take i collected) ++ cond (shares_with task span x) (x ∷ []) []) (sym here))
      ∙ map-append (λ (b : Batch). b.span) (filter (shares_with task span) (take i collected)) (cond (shares_with task span b) (b ∷ []) [])

  pub sharing-with : shares_with task span b ≡ true → earliest (sharing task span (take (i + 1) collected)) ≡ Some (earlier_of (earliest (sharing task span (take i collected))) b.span)
  sharing-with e =
      ap earliest (more ∙ ap (λ x. sharing task span (take i collected) ++ map (λ (b : Batch). b.span) (cond x (b ∷ []) [])) e) ∙ earliest-push (sharing task span (take i collected)) b.span

  pub sharing-without : shares_with task span b ≡ false → earliest (sharing task span (take (i + 1) collected)) ≡ earliest (sharing task span (take i collected))
  sharing-without e =
      ap earliest (more ∙ ap (λ x. sharing task span (take i collected) ++ map (λ (b : Batch). b.span) (cond x (b ∷ []) [])) e ∙ append-nil (sharing task span (take i collected)))

  pub sharing-next : cond (shares_with task span b) (Some (earlier_of (earliest (sharing task span (take i collected))) b.span)) (earliest (sharing task span (take i collected)))
      ≡ earliest (sharing task span (take (i + 1) collected))
  sharing-next = go (shares_with task span b) refl
    where
      go : (x : Bool) → shares_with task span b ≡ x → cond x (Some (earlier_of (earliest (sharing task span (take i collected))) b.span)) (earliest (sharing task span (take i collected)))
          ≡ earliest (sharing task span (take (i + 1) collected))
      go true e = sym (sharing-with e)
      go false e = sym (sharing-without e)
