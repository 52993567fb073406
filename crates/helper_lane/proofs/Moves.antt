-- The moves of a journal as own steps that keep what a lane keeps.
use Rattle.std.proofs.Common.{◌≡◌, ◌⊎◌, inl, inr, ℕ, ◌≤◌, List, [], ◌∷◌, ◌++◌, length, reverse, Bool, true, false, ◌&&◌, Some, None, refl, sym, ap, subst, ◌∙◌, append_assoc, arith}
use Rattle.std.specs.Prelude.{nat_le}
use Rattle.std.proofs.lemmas.List.{append-nil, reverse-append}
use Rattle.std.proofs.lemmas.Bool.{false≢true, and_from}
use Rattle.dap_bytes.specs.declared.node.Node.TheVariants.{Helper}
use Rattle.dap_bytes.specs.declared.part.Part.TheVariants.{Lane}
use Rattle.std.specs.List.{find}
use Rattle.dap_messages.specs.declared.body.Half.{Half}
use Rattle.dap_messages.specs.declared.item.Tagged.{Tagged}
use Rattle.dap_messages.specs.declared.job.JobNo.{JobNo}
use Rattle.dap_messages.specs.declared.message.Message.{Message}
use Rattle.dap_messages.specs.declared.message.Message.TheVariants.{InitResp, ContResp}
use Rattle.lane_records.specs.declared.record.Record.{Record}
use Rattle.lane_records.specs.declared.format.Format.{Format}
use Rattle.lane_records.specs.declared.format.Format.TheVariants.{One, Two}
use Rattle.lane_records.specs.declared.record.Record.TheVariants.{Start, Commit}
use Rattle.lane_records.specs.Formats.{byte_of_format}
use Rattle.legal_journals.specs.History.{Mem, first, lanes_in}
use Rattle.legal_journals.specs.Legal.{May}
use Rattle.dap_tasks.specs.Task.{PlainTask, has_name}
use Rattle.part_journal.specs.Pages.{Pages, settled, begun, done, reopening, reopened, restarts, UnderWay, IsBack}
use Rattle.helper_lane.specs.Reply.{Env, Reacts, Started, start_if, commit_if, same_start, outcomes, reply}
use Rattle.helper_lane.specs.Replies.{IsEnv, KnowsLanes, AreBytes}
use Rattle.helper_lane.specs.Own.{Own, OwnStep, Opens, Opened, Ends, Stops, Takes, Justified, opener_of, step, says, OwnSteps, RestsOn, Facts, own, Goes}
use Rattle.helper_lane.proofs.Allowed.{record_allowed, within}
use Rattle.helper_lane.proofs.Rests.{Inits, Conts, looks}

pub reverse_block : {A : Type 0} (xs ys : List A) → reverse (xs ++ ys) ≡ reverse ys ++ reverse xs
reverse_block xs ys = reverse-append xs ys

pub mem_right : {A : Type 0} (x : A) (xs ys : List A) → Mem x ys → Mem x (xs ++ ys)
mem_right x [] ys m = m
mem_right x (y ∷ xs) ys m = inr (mem_right x xs ys m)

justified_more : (env : Env) (new old : List Record) (m : Message) → Justified env old m → Justified env (new ++ old) m
justified_more env new old (InitResp j xs) (n, hs, t, mem, found, is) = (n, hs, t, mem_right _ new old mem, found, is)
justified_more env new old (ContResp j xs) (outs, mem, is) = (outs, mem_right _ new old mem, is)
justified_more env new old _ h = absurd h

pub steps_then : (env : Env) (heard : List ℕ → Type 0) (xs ys : List OwnStep) (a b c : Own) (s t : List Message)
    → OwnSteps env heard a xs b s → OwnSteps env heard b ys c t → OwnSteps env heard a (xs ++ ys) c (s ++ t)
steps_then env heard [] ys a b c s t one two =
    subst (λ (z : List Message). OwnSteps env heard a ys c (z ++ t)) (sym one.1) (subst (λ (z : Own). OwnSteps env heard z ys c t) (sym one.0) two)
steps_then env heard (x ∷ xs) ys a b c s t one two =
    (one.0, (one.1.0 ++ t, steps_then env heard xs ys (step env a x) b c one.1.0 t one.1.1 two, ap (λ (z : List Message). z ++ t) one.1.2 ∙ append_assoc (says x) one.1.0 t))

module _ (env : Env) (is : IsEnv env) (heard : List ℕ → Type 0) where
  pub goes_same : (p q : Pages Record) → p ≡ q → Goes env heard p q
  goes_same p q e = subst (λ (z : Pages Record). Goes env heard p z) e (λ opening sent k. (k, ([], (refl, refl))))

  pub goes_then : (p q r : Pages Record) → Goes env heard p q → Goes env heard q r → Goes env heard p r
  goes_then p q r one two opening sent k =
      let a = one opening sent k in
      let b = two opening sent a.0 in
      (b.0, (a.1.0 ++ b.1.0, steps_then env heard a.1.0 b.1.0 (own p) (own q) (own r) [] [] a.1.1 b.1.1))

  -- where the record is a Start its name is that of a task
  abbrev IsNamed : Record → Type 0
  IsNamed x = (j : JobNo) (n : List ℕ) (hs : List (Tagged Half)) → Start j n hs ≡ x → (t : PlainTask) × (find (has_name n) env.tasks ≡ Some t)

  asked_named : (l : List Record) (b : List ℕ) (x : Record) (m : Message) → reply env l b ≡ Reacts (Some x) m → IsNamed x
  asked_named l b x m e j n hs is = go (looks env l b (Some x) m e) where
    init : (i : Inits env l b (Some x) m) → Start j n hs ≡ Start i.job i.name i.halves → (t : PlainTask) × (find (has_name n) env.tasks ≡ Some t)
    init i same = let name : n ≡ i.name = cc same in (i.task, subst (λ (z : List ℕ). find (has_name z) env.tasks ≡ Some i.task) (sym name) i.found)

    inits : (i : Inits env l b (Some x) m) → ((Some x ≡ Some (Start i.job i.name i.halves)) × (first (start_if i.job) l ≡ None)) ⊎ ((Some x ≡ None) × ((s : Started) × (first (start_if i.job) l ≡ Some s) × (same_start s i.name i.halves ≡ true)))
        → (t : PlainTask) × (find (has_name n) env.tasks ≡ Some t)
    inits i (inl new) = let same : x ≡ Start i.job i.name i.halves = cc new.0 in init i (is ∙ same)
    inits i (inr old) = absurd (cc old.0)

    conts : (i : Conts env l b (Some x) m) → ((Some x ≡ Some (Commit i.job i.outs)) × (first (commit_if i.job) l ≡ None) × (i.outs ≡ outcomes env.functions i.task i.start.name l i.start.halves i.items)) ⊎ ((Some x ≡ None) × (first (commit_if i.job) l ≡ Some i.outs))
        → (t : PlainTask) × (find (has_name n) env.tasks ≡ Some t)
    conts i (inl new) = let same : x ≡ Commit i.job i.outs = cc new.0 in let both : Start j n hs ≡ Commit i.job i.outs = is ∙ same in absurd (cc both)
    conts i (inr old) = absurd (cc old.0)

    go : Inits env l b (Some x) m ⊎ Conts env l b (Some x) m → (t : PlainTask) × (find (has_name n) env.tasks ≡ Some t)
    go (inl i) = inits i i.known
    go (inr i) = conts i i.known

  -- one record more
  facts_more : (opening : ℕ) (sent : List (List ℕ)) (l : List Record) (x : Record) → Facts env heard opening sent l → May Helper (Lane env.lane) x l
      → ((n : ℕ) → lanes_in x ≡ Some n → n ≡ env.lanes) → IsNamed x → (opening ≤ length l → RestsOn env heard x l) → Facts env heard opening sent (x ∷ l)
  facts_more opening sent l x f may lanes named rests = record {
    legal = (may, f.legal);
    lanes = λ y n m e. go y n m e;
    named = λ j n hs m. start j n hs m;
    rests = (rests, f.rests);
    justified = λ b c. let w = f.justified b c in (w.0, w.1, justified_more env (x ∷ []) l w.0 w.2);
  } where
    go : (y : Record) (n : ℕ) → (y ≡ x) ⊎ Mem y l → lanes_in y ≡ Some n → n ≡ env.lanes
    go y n (inl s) e = lanes n (sym (ap lanes_in s) ∙ e)
    go y n (inr m) e = f.lanes y n m e

    start : (j : JobNo) (n : List ℕ) (hs : List (Tagged Half)) → (Start j n hs ≡ x) ⊎ Mem (Start j n hs) l → (t : PlainTask) × (find (has_name n) env.tasks ≡ Some t)
    start j n hs (inl s) = named j n hs s
    start j n hs (inr m) = f.named j n hs m

  one_more : (opening : ℕ) (sent : List (List ℕ)) (p : Pages Record) (x : Record) → Facts env heard opening sent (x ∷ reverse p.records) → Facts env heard opening sent (reverse (p.records ++ x ∷ []))
  one_more opening sent p x f = subst (λ (l : List Record). Facts env heard opening sent l) (sym (reverse_block p.records (x ∷ []))) f

  rest_with : (opening : ℕ) (sent : List (List ℕ)) (p : Pages Record) → p.block ≡ [] → Facts env heard opening sent (reverse p.records) → Facts env heard opening sent (reverse (p.records ++ p.block))
  rest_with opening sent p none f = subst (λ (l : List Record). Facts env heard opening sent (reverse l)) (sym (ap (λ (l : List Record). p.records ++ l) none ∙ append-nil p.records)) f

  -- the record that a message asks for is begun
  pub goes_taken : (p : Pages Record) (b : List ℕ) (x : Record) (m : Message) → p.block ≡ [] → p.opened ≡ true → heard b → AreBytes b → reply env (reverse p.records) b ≡ Reacts (Some x) m
      → ((n : ℕ) → lanes_in x ≡ Some n → n ≡ env.lanes) → Goes env heard p (begun (x ∷ []) p)
  goes_taken p b x m none up hears bytes e lanes opening sent k =
      let may = record_allowed env is (reverse p.records) b x m bytes k.without.legal (k.knows up) e in
      let f = facts_more opening sent (reverse p.records) x k.without may lanes (asked_named (reverse p.records) b x m e) (λ _ _. (b, m, hears, e)) in
      let rest : reverse p.block ≡ [] = ap (λ (l : List Record). reverse l) none in
      let lands : step env (own p) (Takes b x m) ≡ own (begun (x ∷ []) p) = ap (λ (l : List Record). record (own p) { block = x ∷ l }) rest in (
        record { knows = k.knows; without = k.without; with = one_more opening sent p x f },
        (Takes b x m ∷ [], ((up, rest, hears, e), ([], (lands, refl), refl))),
      )

  -- the block in hand counts
  knows_more : (records block : List Record) → KnowsLanes env (reverse records) → KnowsLanes env (reverse (records ++ block))
  knows_more records block w = (w.0, subst (λ (l : List Record). Mem w.0 l) (sym (reverse_block records block)) (mem_right w.0 (reverse block) (reverse records) w.1), w.2)

  landed_facts : (opening : ℕ) (sent : List (List ℕ)) (p : Pages Record) → Facts env heard opening sent (reverse (p.records ++ p.block)) → Facts env heard opening sent (reverse ((p.records ++ p.block) ++ []))
  landed_facts opening sent p f = subst (λ (l : List Record). Facts env heard opening sent (reverse l)) (sym (append-nil (p.records ++ p.block))) f

  pub goes_done : (p : Pages Record) → p.opened ≡ true → Goes env heard p (done p)
  goes_done p up opening sent k =
      let lands : step env (own p) Ends ≡ own (done p) = ap (λ (l : List Record). record (own p) { l = l; block = [] }) (sym (reverse_block p.records p.block)) in (
        record { knows = λ _. knows_more p.records p.block (k.knows up); without = k.with; with = landed_facts opening sent p k.with },
        (Ends ∷ [], (up, ([], (lands, refl), refl))),
      )

  -- a stop
  pub goes_settled : (p : Pages Record) (kept : Bool) → Goes env heard p (settled kept p)
  goes_settled p true opening sent k =
      let lands : step env (own p) (Stops true) ≡ own (settled true p) = ap (λ (l : List Record). let w : Own = record { l = l; block = []; up = false } in w) (sym (reverse_block p.records p.block)) in (
        record { knows = λ no. absurd (false≢true no); without = k.with; with = landed_facts opening sent p k.with },
        (Stops true ∷ [], (tt, ([], (lands, refl), refl))),
      )
  goes_settled p false opening sent k =
      let lands : step env (own p) (Stops false) ≡ own (settled false p) = refl in (
        record { knows = λ no. absurd (false≢true no); without = k.without; with = rest_with opening sent (settled false p) refl k.without },
        (Stops false ∷ [], (tt, ([], (lands, refl), refl))),
      )

  -- no format is above the second
  format_fits : (g : Format) → byte_of_format g ≤ byte_of_format Two
  format_fits One = omega arith
  format_fits Two = omega arith

  -- an Open is begun
  pub open_may : (opening : ℕ) (sent : List (List ℕ)) (l : List Record) → Facts env heard opening sent l → May Helper (Lane env.lane) (opener_of env) l
  open_may opening sent l f =
      let few : env.lanes ≤ 16 = is.few_lanes in
      let mine = is.own_lane in (
        and_from (nat_le 0 env.lanes && nat_le env.lanes 255) (nat_le 0 env.lane && nat_le env.lane 255)
            (and_from (nat_le 0 env.lanes) (nat_le env.lanes 255) (within 0 env.lanes (omega arith)) (within env.lanes 255 (omega arith)))
            (and_from (nat_le 0 env.lane) (nat_le env.lane 255) (within 0 env.lane (omega arith)) (within env.lane 255 (omega arith))),
        (λ none. absurd (cc none)),
        (((is.some_lane, is.few_lanes, (λ x n m e. f.lanes x n m e)), (λ x g m e. format_fits g)), refl, is.own_lane),
      )

  pub goes_reopening : (p : Pages Record) → p.block ≡ [] → p.opened ≡ false → Goes env heard p (reopening (opener_of env) p)
  goes_reopening p none down opening sent k =
      let f = facts_more opening sent (reverse p.records) (opener_of env) k.without (open_may opening sent (reverse p.records) k.without) (λ n e. cc e) (λ j n hs e. absurd (cc e)) (λ _ no. absurd (false≢true no)) in
      let rest : reverse p.block ≡ [] = ap (λ (l : List Record). reverse l) none in
      let lands : step env (own p) Opens ≡ own (reopening (opener_of env) p) = ap (λ (l : List Record). record (own p) { block = opener_of env ∷ l }) rest in (
        record { knows = k.knows; without = k.without; with = one_more opening sent p (opener_of env) f },
        (Opens ∷ [], ((down, rest), ([], (lands, refl), refl))),
      )

  -- it counts
  pub goes_reopened : (p : Pages Record) → p.opened ≡ false → p.block ≡ opener_of env ∷ [] → Goes env heard p (reopened p)
  goes_reopened p down block opening sent k =
      let rest : reverse p.block ≡ opener_of env ∷ [] = ap (λ (l : List Record). reverse l) block in
      let lands : step env (own p) Opened ≡ own (reopened p) = ap (λ (l : List Record). let w : Own = record { l = l; block = []; up = true } in w) (sym (reverse_block p.records p.block)) in
      let stands : reverse (p.records ++ p.block) ≡ opener_of env ∷ reverse p.records = reverse_block p.records p.block ∙ ap (λ (l : List Record). l ++ reverse p.records) rest in (
        record { knows = λ _. (opener_of env, subst (λ (l : List Record). Mem (opener_of env) l) (sym stands) (inl refl), refl); without = k.with; with = landed_facts opening sent p k.with },
        (Opened ∷ [], ((down, rest), ([], (lands, refl), refl))),
      )

  -- ---- over several restarts

  settled_down : (kept : Bool) (p : Pages Record) → (settled kept p).opened ≡ false
  settled_down true p = refl
  settled_down false p = refl

  settled_none : (kept : Bool) (p : Pages Record) → (settled kept p).block ≡ []
  settled_none true p = refl
  settled_none false p = refl

  pub goes_restarts : (more : List Bool) (p : Pages Record) → Goes env heard p (restarts (opener_of env) more p)
  goes_restarts [] p = goes_same p p refl
  goes_restarts (kept ∷ more) p =
      let q : Pages Record = settled kept p in
      goes_then p q (restarts (opener_of env) more (reopening (opener_of env) q)) (goes_settled p kept)
      (goes_then q (reopening (opener_of env) q) (restarts (opener_of env) more (reopening (opener_of env) q)) (goes_reopening q (settled_none kept p) (settled_down kept p)) (goes_restarts more (reopening (opener_of env) q)))

  restarts_end : (more : List Bool) (p : Pages Record) → p.opened ≡ false → p.block ≡ opener_of env ∷ [] → ((restarts (opener_of env) more p).opened ≡ false) × ((restarts (opener_of env) more p).block ≡ opener_of env ∷ [])
  restarts_end [] p down block = (down, block)
  restarts_end (kept ∷ more) p down block = restarts_end more (reopening (opener_of env) (settled kept p)) (settled_down kept p) refl

  -- back with an Open behind one restart or more
  pub goes_back : (kept : Bool) (more : List Bool) (p : Pages Record) → Goes env heard p (reopened (restarts (opener_of env) (kept ∷ more) p))
  goes_back kept more p =
      let x : Record = opener_of env in
      let q : Pages Record = restarts x (kept ∷ more) p in
      let r = restarts_end more (reopening x (settled kept p)) (settled_down kept p) refl in
      goes_then p q (reopened q) (goes_restarts (kept ∷ more) p) (goes_reopened q r.0 r.1)

  -- the first Open, behind some restarts
  pub goes_open : (p q : Pages Record) → p.block ≡ [] → p.opened ≡ false → IsBack (opener_of env) (reopening (opener_of env) p) q → Goes env heard p q
  goes_open p q none down (more, back) =
      let x : Record = opener_of env in
      let o : Pages Record = reopening x p in
      let r : Pages Record = restarts x more o in
      let e = restarts_end more o down refl in
      subst (λ (z : Pages Record). Goes env heard p z) (sym back)
      (goes_then p o (reopened r) (goes_reopening p none down) (goes_then o r (reopened r) (goes_restarts more o) (goes_reopened r e.0 e.1)))

  -- a restart that is refused on the way back
  pub goes_under : (p q : Pages Record) → UnderWay (opener_of env) p q → Goes env heard p q
  goes_under p q (more, inl behind) = subst (λ (z : Pages Record). Goes env heard p z) (sym behind) (goes_restarts more p)
  goes_under p q (more, inr (kept, closed)) =
      let r : Pages Record = restarts (opener_of env) more p in
      subst (λ (z : Pages Record). Goes env heard p z) (sym closed) (goes_then p r (settled kept r) (goes_restarts more p) (goes_settled r kept))
