-- What a lane keeps, along its calls.
use Rattle.std.proofs.Common.{◌≡◌, ◌⊎◌, inl, inr, ℕ, ◌≤◌, ◌<◌, List, [], ◌∷◌, ◌++◌, length, reverse, Bool, Option, refl, sym, ap, subst, ◌∙◌, arith}
use Rattle.std.specs.Prelude.{Contains, IsTrue}
use Rattle.std.proofs.lemmas.List.{append-nil, length-reverse}
use Rattle.std.proofs.lemmas.List.Elements.{Contains-push_cases}
use Rattle.vdaf_api.specs.declared.kind.Kind.{Kind}
use Rattle.vdaf_api.specs.Functions.{Functions}
use Rattle.dap_wire.specs.Link.{Link, IsCarried}
use Rattle.lane_records.specs.declared.record.Record.{Record}
use Rattle.part_journal.specs.Pages.{Pages, first_pages}
use Rattle.part_journal.specs.Part.{PartView}
use Rattle.helper_lane.specs.Reply.{Env}
use Rattle.helper_lane.specs.Own.{AllRest, Facts, Goes, Keeps, OwnSteps, own}
use Rattle.helper_lane.specs.Lane.{HelperView, IsAwake, IsHalted, IsHelper, IsJournalOf, Steps, env, records}
use Rattle.helper_lane.specs.Ready.{Ready}

-- what rests on what was heard rests on more
rest_more : (env : Env) (heard more : List ℕ → Type 0) → ((b : List ℕ) → heard b → more b) → (opening : ℕ) (l : List Record) → AllRest env heard opening l → AllRest env more opening l
rest_more env heard more grows opening [] h = tt
rest_more env heard more grows opening (x ∷ old) h = (λ le is. let w = h.0 le is in (w.0, w.1, grows w.0 w.2, w.3), rest_more env heard more grows opening old h.1)

facts_heard : (env : Env) (heard more : List ℕ → Type 0) → ((b : List ℕ) → heard b → more b) → (opening : ℕ) (sent : List (List ℕ)) (l : List Record) → Facts env heard opening sent l → Facts env more opening sent l
facts_heard env heard more grows opening sent l f = record { legal = f.legal; lanes = f.lanes; named = f.named; rests = rest_more env heard more grows opening l f.rests; justified = f.justified }

pub keeps_heard : (env : Env) (heard more : List ℕ → Type 0) → ((b : List ℕ) → heard b → more b) → (opening : ℕ) (sent : List (List ℕ)) (p : Pages Record) → Keeps env heard opening sent p → Keeps env more opening sent p
keeps_heard env heard more grows opening sent p k = record {
  knows = k.knows;
  without = facts_heard env heard more grows opening sent (reverse p.records) k.without;
  with = facts_heard env heard more grows opening sent (reverse (p.records ++ p.block)) k.with;
}

-- what an opening keeps of a journal from which nothing was sent
rest_none : (env : Env) (heard : List ℕ → Type 0) (opening : ℕ) (l : List Record) → length l ≤ opening → AllRest env heard opening l
rest_none env heard opening [] le = tt
rest_none env heard opening (x ∷ old) le = (λ more. absurd (omega (arith, le, more)), rest_none env heard opening old (omega (arith, le)))

pub contains_none : {X : Type 0} (xs : List X) (x : X) → xs ≡ [] → Contains xs x → ⊥
contains_none xs x none c =
    let w = subst (λ l. Contains l x) none c in
    let lt : w.0 < 0 = w.1 in
    absurd (omega (arith, lt))

pub keeps_first : (env : Env) (heard : List ℕ → Type 0) (sent : List (List ℕ)) (xs : List Record) → sent ≡ [] → IsJournalOf env xs → Keeps env heard (length xs) sent (first_pages xs)
keeps_first env heard sent xs none journal =
    let facts : Facts env heard (length xs) sent (reverse xs) = record {
      legal = journal.legal;
      lanes = journal.lanes;
      named = journal.named;
      rests = rest_none env heard (length xs) (reverse xs) (let same : length (reverse xs) ≡ length xs = length-reverse xs in omega (arith, same));
      justified = λ b c. absurd (contains_none sent b none c);
    } in
    record {
      knows = λ up. absurd (cc up);
      without = facts;
      with = subst (λ (l : List Record). Facts env heard (length xs) sent (reverse l)) (sym (append-nil xs)) facts;
    }

module _ {D T : Type 0} (f : Kind → Functions) (carried : T → Option (List (List ℕ))) where
  -- a message came into hand, or none
  pub received_keeps : (v : HelperView D T) (link : Link T) (hand : List (List ℕ)) → IsHelper f carried v → link.sent ≡ v.link.sent
      → ((m : List ℕ) → IsCarried carried v.link m → IsCarried carried link m)
      → ((hand ≡ v.hand) ⊎ ((b : List ℕ) × IsCarried carried link b × Ready (env f v) (records v) b × (hand ≡ v.hand ++ b ∷ [])))
      → IsHelper f carried (record v { link = link; hand = hand })
  received_keeps v link hand is sent grows came = record {
    made = is.made;
    opener = is.opener;
    keeps = subst (λ (s : List (List ℕ)). Keeps (env f v) (IsCarried carried link) v.part.opening s v.part.pages) (sym sent) (keeps_heard (env f v) (IsCarried carried v.link) (IsCarried carried link) grows v.part.opening v.link.sent v.part.pages is.keeps);
    hand = λ b c. by_case came b c;
    awake = is.awake;
    halted = is.halted;
  } where
    by_case : ((hand ≡ v.hand) ⊎ ((b : List ℕ) × IsCarried carried link b × Ready (env f v) (records v) b × (hand ≡ v.hand ++ b ∷ []))) → (b : List ℕ) → Contains hand b → IsCarried carried link b × Ready (env f v) (records v) b
    by_case (inl same) b c = let old = is.hand b (subst (λ (l : List (List ℕ)). Contains l b) same c) in (grows b old.0, old.1)
    by_case (inr new) b c = go (Contains-push_cases v.hand new.0 b (subst (λ (l : List (List ℕ)). Contains l b) new.3 c)) where
      go : (Contains v.hand b ⊎ (new.0 ≡ b)) → IsCarried carried link b × Ready (env f v) (records v) b
      go (inl old) = let o = is.hand b old in (grows b o.0, o.1)
      go (inr e) = subst (λ (m : List ℕ). IsCarried carried link m × Ready (env f v) (records v) m) e (new.1, new.2)

  -- a call that begins nothing and sends nothing
  pub steps_none : (v w : HelperView D T) → w.part ≡ v.part → w.link.sent ≡ v.link.sent → Steps f carried v w
  steps_none v w part sent = ([], [], (ap (λ (p : PartView D Record). own p.pages) (sym part), refl), sent ∙ sym (append-nil v.link.sent))

  -- a journal that has come to other pages, with nothing in hand
  pub moved_keeps : (v : HelperView D T) (q : PartView D Record) (hand : List (List ℕ)) (up stopped : Bool) → IsHelper f carried v → q.opener ≡ v.part.opener → q.opening ≡ v.part.opening → hand ≡ []
      → Goes (env f v) (IsCarried carried v.link) v.part.pages q.pages → (IsTrue up → IsAwake q stopped) → (IsTrue stopped → IsHalted q)
      → IsHelper f carried (record v { part = q; hand = hand; up = up; stopped = stopped })
  moved_keeps v q hand up stopped is opener opening none goes awake halted = record {
    made = is.made;
    opener = opener ∙ is.opener;
    keeps = subst (λ (n : ℕ). Keeps (env f v) (IsCarried carried v.link) n v.link.sent q.pages) (sym opening) (goes v.part.opening v.link.sent is.keeps).0;
    hand = λ b c. absurd (contains_none hand b none c);
    awake = awake;
    halted = halted;
  }

  pub moved_steps : (v w : HelperView D T) → IsHelper f carried v → Goes (env f v) (IsCarried carried v.link) v.part.pages w.part.pages → w.link ≡ v.link → Steps f carried v w
  moved_steps v w is goes link =
      let k = goes v.part.opening v.link.sent is.keeps in (
        k.1.0,
        [],
        subst (λ (e : Link T). OwnSteps (env f v) (IsCarried carried e) (own v.part.pages) k.1.0 (own w.part.pages) []) (sym link) k.1.1,
        ap (λ (e : Link T). e.sent) link ∙ sym (append-nil v.link.sent),
      )
