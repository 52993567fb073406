-- Lemmas: in a legal journal of a lane no report of a task is taken into two jobs, nor finished in two.
use Rattle.std.proofs.Common.{◌≡◌, ℕ, List, [], ◌∷◌, sym, subst, ◌∙◌, inl, inr}
use Rattle.dap_bytes.specs.declared.node.Node.TheVariants.{Leader, Helper}
use Rattle.dap_bytes.specs.declared.part.Part.TheVariants.{Lane}
use Rattle.dap_messages.specs.declared.job.JobNo.{JobNo}
use Rattle.dap_messages.specs.declared.body.Half.{Half}
use Rattle.dap_messages.specs.declared.body.Step.{Step}
use Rattle.dap_messages.specs.declared.item.Tagged.{Tagged}
use Rattle.dap_messages.specs.Items.{ids_of}
use Rattle.lane_records.specs.declared.outcome.Outcome.{Outcome}
use Rattle.lane_records.specs.declared.record.Record.{Record}
use Rattle.lane_records.specs.declared.record.Record.TheVariants.{Continue, Start, Commit}
use Rattle.legal_journals.specs.History.{Mem}
use Rattle.legal_journals.specs.LegalLanes.{IsStarted, Finishes, WasFinished}
use Rattle.legal_journals.specs.Legal.{May, IsLegal}

-- ---- a leader's lane

-- a report that is taken into a job is in no Continue before
continue_new : (lane : ℕ) (x : Record) (old : List Record) (n id : List ℕ) (j k : JobNo) (xs ys : List (Tagged Step)) → May Leader (Lane lane) x old
    → Continue n j xs ≡ x → Mem id (ids_of xs) → Mem (Continue n k ys) old → Mem id (ids_of ys) → ⊥
continue_new lane x old n id j k xs ys may e i m i' =
    let here = subst (λ (z : Record). May Leader (Lane lane) z old) (sym e) may in
    (here.2.3 id i).1 (k, ys, m, i')

pub continued_once : (lane : ℕ) (l : List Record) → IsLegal Leader (Lane lane) l → (n id : List ℕ) (j k : JobNo) (xs ys : List (Tagged Step))
    → Mem (Continue n j xs) l → Mem id (ids_of xs) → Mem (Continue n k ys) l → Mem id (ids_of ys) → j ≡ k
continued_once lane [] h n id j k xs ys m i m' i' = elim m [ ]
continued_once lane (x ∷ old) h n id j k xs ys (inl e) i (inl e') i' = let same : Continue n j xs ≡ Continue n k ys = e ∙ sym e' in cc
continued_once lane (x ∷ old) h n id j k xs ys (inl e) i (inr m') i' = absurd (continue_new lane x old n id j k xs ys h.0 e i m' i')
continued_once lane (x ∷ old) h n id j k xs ys (inr m) i (inl e') i' = absurd (continue_new lane x old n id k j ys xs h.0 e' i' m i)
continued_once lane (x ∷ old) h n id j k xs ys (inr m) i (inr m') i' = continued_once lane old h.1 n id j k xs ys m i m' i'

-- ---- a helper's lane

pub start_new : (lane : ℕ) (x : Record) (old : List Record) (n : List ℕ) (j : JobNo) (hs : List (Tagged Half)) → May Helper (Lane lane) x old → Start j n hs ≡ x → ¬ (IsStarted j old)
start_new lane x old n j hs may e = (subst (λ (z : Record). May Helper (Lane lane) z old) (sym e) may).2.2

-- a job has one Start
pub start_one : (lane : ℕ) (l : List Record) → IsLegal Helper (Lane lane) l → (n k : List ℕ) (j : JobNo) (hs gs : List (Tagged Half))
    → Mem (Start j n hs) l → Mem (Start j k gs) l → Start j n hs ≡ Start j k gs
start_one lane [] h n k j hs gs m m' = elim m [ ]
start_one lane (x ∷ old) h n k j hs gs (inl e) (inl e') = e ∙ sym e'
start_one lane (x ∷ old) h n k j hs gs (inl e) (inr m') = absurd (start_new lane x old n j hs h.0 e (k, gs, m'))
start_one lane (x ∷ old) h n k j hs gs (inr m) (inl e') = absurd (start_new lane x old k j gs h.0 e' (n, hs, m))
start_one lane (x ∷ old) h n k j hs gs (inr m) (inr m') = start_one lane old h.1 n k j hs gs m m'

-- a job with a Commit has its Start
pub has_start : (lane : ℕ) (l : List Record) → IsLegal Helper (Lane lane) l → (j : JobNo) (outs : List (Tagged Outcome)) → Mem (Commit j outs) l → IsStarted j l
has_start lane [] h j outs m = elim m [ ]
has_start lane (x ∷ old) h j outs (inl e) =
    let started = (subst (λ (z : Record). May Helper (Lane lane) z old) (sym e) h.0).2.0 in
    (started.0, started.1, inr started.2)
has_start lane (x ∷ old) h j outs (inr m) = let started = has_start lane old h.1 j outs m in (started.0, started.1, inr started.2)

-- a Commit finishes no report that was finished under its job's name
commit_new : (lane : ℕ) (x : Record) (old : List Record) (n id : List ℕ) (j : JobNo) (hs : List (Tagged Half)) (outs : List (Tagged Outcome))
    → May Helper (Lane lane) x old → IsLegal Helper (Lane lane) old → Commit j outs ≡ x → Mem (Start j n hs) old → Finishes id outs → ¬ (WasFinished n id old)
commit_new lane x old n id j hs outs may h e s f was =
    let started = (subst (λ (z : Record). May Helper (Lane lane) z old) (sym e) may).2.0 in
    let one = start_one lane old h n started.0 j hs started.1 s started.2 in
    let same : n ≡ started.0 = cc in
    started.4 id f (subst (λ (name : List ℕ). WasFinished name id old) same was)

-- a Start that isn't the newest record stands before it
older_start : (x : Record) (old : List Record) (n : List ℕ) (j k : JobNo) (hs : List (Tagged Half)) (outs : List (Tagged Outcome))
    → Commit k outs ≡ x → Mem (Start j n hs) (x ∷ old) → Mem (Start j n hs) old
older_start x old n j k hs outs e (inl e') = let same : Start j n hs ≡ Commit k outs = e' ∙ sym e in absurd (cc)
older_start x old n j k hs outs e (inr m) = m

start_of_older : (lane : ℕ) (x : Record) (old : List Record) (n : List ℕ) (j : JobNo) (hs : List (Tagged Half)) (outs : List (Tagged Outcome))
    → IsLegal Helper (Lane lane) (x ∷ old) → Mem (Commit j outs) old → Mem (Start j n hs) (x ∷ old) → Mem (Start j n hs) old
start_of_older lane x old n j hs outs h c (inl e) = absurd (start_new lane x old n j hs h.0 e (has_start lane old h.1 j outs c))
start_of_older lane x old n j hs outs h c (inr m) = m

pub finished_once : (lane : ℕ) (l : List Record) → IsLegal Helper (Lane lane) l
    → (n id : List ℕ) (j k : JobNo) (hs gs : List (Tagged Half)) (outs results : List (Tagged Outcome))
    → Mem (Start j n hs) l → Mem (Commit j outs) l → Finishes id outs → Mem (Start k n gs) l → Mem (Commit k results) l → Finishes id results → j ≡ k
finished_once lane [] h n id j k hs gs outs results s c f s' c' f' = elim s [ ]
finished_once lane (x ∷ old) h n id j k hs gs outs results s (inl e) f s' (inl e') f' =
    let same : Commit j outs ≡ Commit k results = e ∙ sym e' in cc
finished_once lane (x ∷ old) h n id j k hs gs outs results s (inl e) f s' (inr c') f' =
    absurd
    (commit_new lane x old n id j hs outs h.0 h.1 e (older_start x old n j j hs outs e s) f
    (k, gs, results, older_start x old n k j gs outs e s', c', f'))
finished_once lane (x ∷ old) h n id j k hs gs outs results s (inr c) f s' (inl e') f' =
    absurd
    (commit_new lane x old n id k gs results h.0 h.1 e' (older_start x old n k k gs results e' s') f'
    (j, hs, outs, older_start x old n j k hs results e' s, c, f))
finished_once lane (x ∷ old) h n id j k hs gs outs results s (inr c) f s' (inr c') f' =
    finished_once lane old h.1 n id j k hs gs outs results (start_of_older lane x old n j hs outs h c s) c f (start_of_older lane x old n k gs results h c' s') c' f'
