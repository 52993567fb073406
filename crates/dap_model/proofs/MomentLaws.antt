-- The moment is the greatest of the times that were told.
use Rattle.std.proofs.Common.{◌≡◌, ◌⊎◌, ℕ, ◌+◌, ◌<◌, ◌≤◌, List, [], ◌∷◌, ◌++◌, max, Option, Some, None, refl, sym, ap, subst, inl, inr, arith, append-nil, append_assoc}
use Rattle.std.proofs.lemmas.Bool.{cases_lt}
use Rattle.std.proofs.lemmas.List.Elements.{All-append, All-cons, All-nil, All-weaker, Contains-append_left, Contains-push}
use Rattle.std.specs.List.{All}
use Rattle.std.specs.Option.{option_to_list}
use Rattle.vdaf_api.specs.Functions.{Functions}
use Rattle.vdaf_api.specs.declared.kind.Kind.{Kind}
use Rattle.dap_script.specs.declared.line.Line.{Line}
use Rattle.dap_script.specs.declared.line.Line.TheVariants as line
use Rattle.dap_model.proofs.ChangeLaws.{changes_named}
use Rattle.dap_model.specs.Changes.{ChangesNamed}
use Rattle.dap_model.specs.Moments.{IsGreatest, time_in, times_of, times_since}
use Rattle.dap_model.specs.Run.{state_after}
use Rattle.dap_model.specs.State.{State}
use Rattle.dap_model.specs.Step.{raised, step}

pub greatest-push : (times : List ℕ) (moment : Option ℕ) (t : ℕ) → IsGreatest times moment → IsGreatest (times ++ t ∷ []) (raised moment t)
greatest-push times None t h =
    subst (λ (l : List ℕ). IsGreatest (l ++ t ∷ []) (raised None t)) (sym h)
    (Contains-push [] t, All-cons (λ x. x ≤ t) t [] (omega arith) (All-nil (λ x. x ≤ t)))
greatest-push times (Some m) t h = go (cases_lt m t)
  where
    below : (n : ℕ) → m ≤ n → t ≤ n → All (λ x. x ≤ n) (times ++ t ∷ [])
    below n first second =
        All-append (λ x. x ≤ n) times (t ∷ []) (All-weaker (λ x. x ≤ m) (λ x. x ≤ n) (λ x le. omega (arith, le, first)) times h.1)
        (All-cons (λ x. x ≤ n) t [] second (All-nil (λ x. x ≤ n)))

    go : (m < t) ⊎ (t ≤ m) → IsGreatest (times ++ t ∷ []) (Some (max t m))
    go (inl lt) = let is : max t m ≡ t = omega (arith, lt) in
        subst (λ (n : ℕ). IsGreatest (times ++ t ∷ []) (Some n)) (sym is) (Contains-push times t, below t (omega (arith, lt)) (omega arith))
    go (inr le) = let is : max t m ≡ m = omega (arith, le) in
        subst (λ (n : ℕ). IsGreatest (times ++ t ∷ []) (Some n)) (sym is) (Contains-append_left times (t ∷ []) m h.0, below m (omega arith) le)

left_alone : (done : List ℕ) (s after : State) → after.moment ≡ s.moment → IsGreatest done s.moment → IsGreatest (done ++ []) after.moment
left_alone done s after e h = subst (λ (times : List ℕ). IsGreatest times after.moment) (sym (append-nil done)) (subst (IsGreatest done) (sym e) h)

-- a line tells the moment, or leaves it
moment_by : (done : List ℕ) (s after : State) (l : Line) → ChangesNamed s after l → IsGreatest done s.moment → IsGreatest (done ++ time_in l) after.moment
moment_by done s after (line.Now t) e h = subst (λ (x : State). IsGreatest (done ++ t ∷ []) x.moment) (sym e) (greatest-push done s.moment t h)
moment_by done s after line.Blank e h = left_alone done s after (ap (λ (x : State). x.moment) e) h
moment_by done s after (line.Task name kind min precision expires) e h = left_alone done s after (ap (λ (x : State). x.moment) e) h
moment_by done s after (line.Measure name id time value seed) (inl e) h = left_alone done s after (ap (λ (x : State). x.moment) e) h
moment_by done s after (line.Measure name id time value seed) (inr adds) h = left_alone done s after (ap (λ (x : State). x.moment) adds.grown) h
moment_by done s after (line.Upload bytes) (inl e) h = left_alone done s after (ap (λ (x : State). x.moment) e) h
moment_by done s after (line.Upload bytes) (inr adds) h = left_alone done s after (ap (λ (x : State). x.moment) adds.grown) h
moment_by done s after (line.Collect name span) (inl e) h = left_alone done s after (ap (λ (x : State). x.moment) e) h
moment_by done s after (line.Collect name span) (inr adds) h = left_alone done s after (ap (λ (x : State). x.moment) adds) h
moment_by done s after (line.Restart node) e h = left_alone done s after (ap (λ (x : State). x.moment) e) h

run_keeps : (f : Kind → Functions) (done : List ℕ) (s : State) (k : ℕ) (lines : List Line) → IsGreatest done s.moment → IsGreatest (done ++ times_of lines) (state_after f s k lines).moment
run_keeps f done s k [] h = left_alone done s s refl h
run_keeps f done s k (l ∷ more) h =
    let after : State = (step f s k l).0 in
    subst (λ (times : List ℕ). IsGreatest times (state_after f after (k + 1) more).moment) (append_assoc done (time_in l) (times_of more))
    (run_keeps f (done ++ time_in l) after (k + 1) more (moment_by done s after l (changes_named f s k l) h))

-- before any line the moment is the greatest of itself
pub greatest-first : (moment : Option ℕ) → IsGreatest (option_to_list moment) moment
greatest-first None = refl
greatest-first (Some m) = (Contains-push [] m, All-cons (λ x. x ≤ m) m [] (omega arith) (All-nil (λ x. x ≤ m)))

pub moment-greatest : (f : Kind → Functions) (s : State) (k : ℕ) (lines : List Line) → IsGreatest (times_since s.moment lines) (state_after f s k lines).moment
moment-greatest f s k lines = run_keeps f (option_to_list s.moment) s k lines (greatest-first s.moment)
