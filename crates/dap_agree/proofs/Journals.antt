-- What legality of one journal gives. Lists of records have the newest first.
use Rattle.std.proofs.Common.{◌≡◌, ℕ, List, [], ◌∷◌, refl, sym, ◌∙◌, inl, inr, subst}
use Rattle.dap_bytes.specs.declared.node.Node.TheVariants.{Leader, Helper}
use Rattle.dap_bytes.specs.declared.part.Part.TheVariants.{Lane}
use Rattle.dap_messages.specs.declared.job.JobNo.{JobNo}
use Rattle.dap_messages.specs.declared.body.Half.{Half}
use Rattle.dap_messages.specs.declared.body.Step.{Step}
use Rattle.dap_messages.specs.declared.item.Tagged.{Tagged}
use Rattle.dap_messages.specs.declared.report.Report.{Report}
use Rattle.dap_messages.specs.Items.{ids_of}
use Rattle.lane_records.specs.declared.outcome.Outcome.{Outcome}
use Rattle.lane_records.specs.declared.record.Record.{Record}
use Rattle.lane_records.specs.declared.record.Record.TheVariants.{Accept, Continue, Finish, Start, Commit}
use Rattle.legal_journals.specs.History.{Mem}
use Rattle.legal_journals.specs.Legal.{May, IsLegal}
use Rattle.legal_journals.specs.LegalLanes.{WasAccepted}
use Rattle.legal_journals.proofs.Once.{continued_once}
use Rattle.dap_messages.specs.Reports.{report_ids}
use Rattle.legal_journals.specs.JobReports.{Has, Accepted}

-- the list is legal for the leader's lane of some number, or the helper's
abbrev pub LeaderLegal : List Record → Type 0
LeaderLegal l = (lane : ℕ) × IsLegal Leader (Lane lane) l

abbrev pub HelperLegal : List Record → Type 0
HelperLegal l = (lane : ℕ) × IsLegal Helper (Lane lane) l

pub older_leader : (x : Record) (l : List Record) → LeaderLegal (x ∷ l) → LeaderLegal l
older_leader x l h = (h.0, h.1.1)

pub older_helper : (x : Record) (l : List Record) → HelperLegal (x ∷ l) → HelperLegal l
older_helper x l h = (h.0, h.1.1)

pub leader_may : (l : List Record) (x y : Record) (h : LeaderLegal (x ∷ l)) → y ≡ x → May Leader (Lane h.0) y l
leader_may l x y h e = subst (λ (z : Record). May Leader (Lane h.0) z l) (sym e) h.1.0

pub helper_may : (l : List Record) (x y : Record) (h : HelperLegal (x ∷ l)) → y ≡ x → May Helper (Lane h.0) y l
helper_may l x y h e = subst (λ (z : Record). May Helper (Lane h.0) z l) (sym e) h.1.0

-- one Continue of a job
pub continue_one : (l : List Record) (j : JobNo) (n n' : List ℕ) (i i' : List (Tagged Step)) → LeaderLegal l →
    Mem (Continue n j i) l → Mem (Continue n' j i') l → (n ≡ n') × (i ≡ i')
continue_one [] j n n' i i' h p q = elim p [ ]
continue_one (x ∷ l) j n n' i i' h (inl e) (inl e') = let same : Continue n j i ≡ Continue n' j i' = e ∙ sym e' in (cc, cc)
continue_one (x ∷ l) j n n' i i' h (inl e) (inr q) = absurd ((leader_may l x (Continue n j i) h e).2.2 (n', i', q))
continue_one (x ∷ l) j n n' i i' h (inr p) (inl e') = absurd ((leader_may l x (Continue n' j i') h e').2.2 (n, i, p))
continue_one (x ∷ l) j n n' i i' h (inr p) (inr q) = continue_one l j n n' i i' (older_leader x l h) p q

-- an identifier stands in one Continue of a name
pub continue_of : (l : List Record) (n : List ℕ) (j j' : JobNo) (i i' : List (Tagged Step)) (id : List ℕ) → LeaderLegal l →
    Mem (Continue n j i) l → Mem (Continue n j' i') l → Mem id (ids_of i) → Mem id (ids_of i') → j ≡ j'
continue_of l n j j' i i' id h p q t t' = continued_once h.0 l h.1 n id j j' i i' p t q t'

-- one Accept of an identifier under a name
pub accept_one : (l : List Record) (n : List ℕ) (r r' : Report) → LeaderLegal l → Has n r l → Has n r' l → r.id ≡ r'.id → r ≡ r'
accept_one [] n r r' h p q d = elim p.0 [ ]
accept_one (x ∷ l) n r r' h p q d = go p.0 q.0 (λ a b. accept_one l n r r' (older_leader x l h) (a, p.1) (b, q.1) d)
  where
    names : r.name ≡ r'.name
    names = p.1 ∙ sym q.1

    go : Mem (Accept r) (x ∷ l) → Mem (Accept r') (x ∷ l) → (Mem (Accept r) l → Mem (Accept r') l → r ≡ r') → r ≡ r'
    go (inl e) (inl e') k = let same : Accept r ≡ Accept r' = e ∙ sym e' in cc
    go (inl e) (inr b) k = absurd ((leader_may l x (Accept r) h e).2.1 (r', b, sym names, sym d))
    go (inr a) (inl e') k = absurd ((leader_may l x (Accept r') h e').2.1 (r, a, names, d))
    go (inr a) (inr b) k = k a b

-- the accepted reports of a list of identifiers are one list
pub reports_one : (l : List Record) (n : List ℕ) (rs rs' : List Report) → LeaderLegal l →
    Accepted n rs l → Accepted n rs' l → report_ids rs ≡ report_ids rs' → rs ≡ rs'
reports_one l n [] [] h a a' e = refl
reports_one l n [] (r' ∷ rs') h a a' e = absurd (cc)
reports_one l n (r ∷ rs) [] h a a' e = absurd (cc)
reports_one l n (r ∷ rs) (r' ∷ rs') h a a' e =
    let d : r.id ≡ r'.id = cc in
    let t : report_ids rs ≡ report_ids rs' = cc in
    let p : r ≡ r' = accept_one l n r r' h a.0 a'.0 d in
    let q : rs ≡ rs' = reports_one l n rs rs' h a.1 a'.1 t in
    cc

-- one Start of a job
pub start_one : (l : List Record) (j : JobNo) (n n' : List ℕ) (hs hs' : List (Tagged Half)) → HelperLegal l →
    Mem (Start j n hs) l → Mem (Start j n' hs') l → (n ≡ n') × (hs ≡ hs')
start_one [] j n n' hs hs' h p q = elim p [ ]
start_one (x ∷ l) j n n' hs hs' h (inl e) (inl e') = let same : Start j n hs ≡ Start j n' hs' = e ∙ sym e' in (cc, cc)
start_one (x ∷ l) j n n' hs hs' h (inl e) (inr q) = absurd ((helper_may l x (Start j n hs) h e).2.2 (n', hs', q))
start_one (x ∷ l) j n n' hs hs' h (inr p) (inl e') = absurd ((helper_may l x (Start j n' hs') h e').2.2 (n, hs, p))
start_one (x ∷ l) j n n' hs hs' h (inr p) (inr q) = start_one l j n n' hs hs' (older_helper x l h) p q

-- what a Finish and a Continue have before them
pub finish_has : (l : List Record) (j : JobNo) (outs : List (Tagged Outcome)) → LeaderLegal l → Mem (Finish j outs) l →
    (n : List ℕ) × (xs : List (Tagged Step)) × Mem (Continue n j xs) l × (ids_of xs ≡ ids_of outs)
finish_has [] j outs h p = elim p [ ]
finish_has (x ∷ l) j outs h (inl e) = let k = (leader_may l x (Finish j outs) h e).2.0 in (k.0, k.1, inr k.2, k.3)
finish_has (x ∷ l) j outs h (inr p) = let k = finish_has l j outs (older_leader x l h) p in (k.0, k.1, inr k.2, k.3)

pub continue_has : (l : List Record) (n : List ℕ) (j : JobNo) (xs : List (Tagged Step)) (id : List ℕ) → LeaderLegal l → Mem (Continue n j xs) l →
    Mem id (ids_of xs) → (r : Report) × Has n r l × (r.id ≡ id)
continue_has [] n j xs id h p q = elim p [ ]
continue_has (x ∷ l) n j xs id h (inl e) q =
    let k : WasAccepted n id l = ((leader_may l x (Continue n j xs) h e).2.3 id q).0 in (k.0, (inr k.1, k.2), k.3)
continue_has (x ∷ l) n j xs id h (inr p) q = let k = continue_has l n j xs id (older_leader x l h) p q in (k.0, (inr k.1.0, k.1.1), k.2)

-- what a Commit has before it
pub commit_has : (l : List Record) (j : JobNo) (outs : List (Tagged Outcome)) → HelperLegal l → Mem (Commit j outs) l →
    (n : List ℕ) × (hs : List (Tagged Half)) × Mem (Start j n hs) l × (ids_of hs ≡ ids_of outs)
commit_has [] j outs h p = elim p [ ]
commit_has (x ∷ l) j outs h (inl e) = let k = (helper_may l x (Commit j outs) h e).2.0 in (k.0, k.1, inr k.2, k.3)
commit_has (x ∷ l) j outs h (inr p) = let k = commit_has l j outs (older_helper x l h) p in (k.0, k.1, inr k.2, k.3)

-- one Finish, and one Commit, of a job
pub finish_one : (l : List Record) (j : JobNo) (o o' : List (Tagged Outcome)) → LeaderLegal l → Mem (Finish j o) l → Mem (Finish j o') l → o ≡ o'
finish_one [] j o o' h p q = elim p [ ]
finish_one (x ∷ l) j o o' h (inl e) (inl e') = let same : Finish j o ≡ Finish j o' = e ∙ sym e' in cc
finish_one (x ∷ l) j o o' h (inl e) (inr q) = absurd ((leader_may l x (Finish j o) h e).2.1 (o', q))
finish_one (x ∷ l) j o o' h (inr p) (inl e') = absurd ((leader_may l x (Finish j o') h e').2.1 (o, p))
finish_one (x ∷ l) j o o' h (inr p) (inr q) = finish_one l j o o' (older_leader x l h) p q

pub commit_one : (l : List Record) (j : JobNo) (o o' : List (Tagged Outcome)) → HelperLegal l → Mem (Commit j o) l → Mem (Commit j o') l → o ≡ o'
commit_one [] j o o' h p q = elim p [ ]
commit_one (x ∷ l) j o o' h (inl e) (inl e') = let same : Commit j o ≡ Commit j o' = e ∙ sym e' in cc
commit_one (x ∷ l) j o o' h (inl e) (inr q) = absurd ((helper_may l x (Commit j o) h e).2.1 (o', q))
commit_one (x ∷ l) j o o' h (inr p) (inl e') = absurd ((helper_may l x (Commit j o') h e').2.1 (o, p))
commit_one (x ∷ l) j o o' h (inr p) (inr q) = commit_one l j o o' (older_helper x l h) p q
