-- Lemmas: answers made of a call's clauses.
use Rattle.std.proofs.Common.{◌≡◌, ℕ, List, Bool, true, Option, Some, None, Result, Ok, Err, IfOk, Vec, Global, sym, ap, ◌∙◌, refl}
use Rattle.std.specs.Option.{option_and_then}
use Rattle.flp_proof.specs.declared.querying.QueryFault.{QueryFault}
use Rattle.flp_proof.specs.declared.querying.QueryFault.TheVariants as query
use Rattle.vdaf_api.specs.declared.fault.PrepFault.{PrepFault}
use Rattle.vdaf_api.specs.declared.fault.PrepFault.TheVariants.{Invalid, NoMemory}
use Rattle.vdaf_api.specs.Answered.{Prepares, Starts}
use Rattle.prio3_share.specs.Preparing.{Started, finish}
use Rattle.prio3_prep.specs.declared.state.State.{State}
use Rattle.prio3_prep.specs.Faults.{of_query}
use Rattle.prio3_prep.specs.States.{Begins, Faults, start_in, state_finish}

-- a fault of querying, which is a root where there is no value
pub faults-queried : {B : Type 0} (fault : QueryFault) (o : Option B) → (fault ≡ query.Root → o ≡ None) → Faults (of_query fault) o
faults-queried query.Root o h = h refl
faults-queried query.NoMemory o h = tt

-- what holds of each value of the definition holds of what a call gives
pub of-value : {A B : Type 0} (f : A → B) (P : B → Type 0) (o : Option B) (r : Result A PrepFault) → ((v : B) → o ≡ Some v → P v) → Begins f r o → IfOk r (λ a. P (f a))
of-value f P o (Ok a) h e = h (f a) e
of-value f P o (Err fault) h e = tt

-- a start and its state's out shares
pub starts : (r : Result (State × Vec ℕ Global) PrepFault) (o : Option Started) (has_form : Bool) → has_form ≡ true → Begins start_in r o
    → Starts state_finish r has_form (option_and_then (λ s. Some s.share) o) (λ message. option_and_then (λ s. finish s message) o)
starts (Ok p) o has_form form h = (ap (option_and_then (λ s. Some s.share)) h, λ message. sym (ap (option_and_then (λ s. finish s message)) h))
starts (Err Invalid) o has_form form h = (ap (option_and_then (λ s. Some s.share)) h, λ message. ap (option_and_then (λ s. finish s message)) h)
starts (Err NoMemory) o has_form form h = form

-- bytes that are read of what has the form
pub prepares : (r : Result (Vec ℕ Global) PrepFault) (o : Option (List ℕ)) (has_form : Bool) → has_form ≡ true → Begins (λ v. v.items) r o → Prepares r has_form o
prepares (Ok v) o has_form form h = h
prepares (Err Invalid) o has_form form h = h
prepares (Err NoMemory) o has_form form h = form

abbrev pub some_started : List ℕ → List ℕ → List ℕ → Option Started
some_started share out message = Some (record { share = share; out = out; message = message })

pub started-same : (s s' o o' m m' : List ℕ) → s ≡ s' → o ≡ o' → m ≡ m' → some_started s o m ≡ some_started s' o' m'
started-same s s' o o' m m' es eo em = ap (λ (l : List ℕ). some_started l o m) es ∙ ap (λ (l : List ℕ). some_started s' l m) eo ∙ ap (some_started s' o') em
