-- Judging, one stretch after another.
use Rattle.std.proofs.Common.{◌≡◌, inl, inr, ℕ, zero, suc, ◌||◌, List, [], ◌∷◌, ◌++◌, length, filter_map, Bool, false, Option, Some, None, refl, sym, ap, subst, ◌∙◌, append_assoc, append-nil}
use Rattle.std.specs.List.{list_any}
use Rattle.std.specs.Option.{option_map_or}
use Rattle.std.proofs.lemmas.List.Elements.{filter_map-append}
use Rattle.dap_messages.specs.declared.report.Report.{Report}
use Rattle.dap_wire.specs.declared.upload.Upload.{Upload}
use Rattle.lane_records.specs.declared.record.Record.{Record}
use Rattle.lane_records.specs.declared.place.Place.{Place}
use Rattle.lane_records.specs.Records.{accept_of}
use Rattle.legal_journals.specs.Reports.{Batch}
use Rattle.dap_tasks.specs.declared.cause.Answer.{Answer}
use Rattle.std.specs.Prelude.{replicate}
use Rattle.part_journal.specs.Came.{Opens}
use Rattle.leader_lane.specs.Judge.{bucket_closed, reports_in, closes_in, Env, adds, tells, added, told, Judges, SameEnd, SinceStart}
use Rattle.leader_lane.specs.Sound.{opener_of}

pub added-append : {A U : Type 0} (f : List A → U → List A) (old : List A) (us vs : List U) → added f old (us ++ vs) ≡ added f old us ++ added f (old ++ added f old us) vs
added-append f old [] vs = ap (λ l. added f l vs) (sym (append-nil old))
added-append {A} f old (u ∷ us) vs =
    ap (λ (l : List A). f old u ++ l)
    (added-append f (old ++ f old u) us vs
    ∙ ap (λ (l : List A). added f (old ++ f old u) us ++ added f l vs) (append_assoc old (f old u) (added f (old ++ f old u) us)))
    ∙ sym (append_assoc (f old u) (added f (old ++ f old u) us) (added f (old ++ (f old u ++ added f (old ++ f old u) us)) vs))

pub told-append : {A U B : Type 0} (f : List A → U → List A) (g : List A → U → B) (old : List A) (us vs : List U)
    → told f g old (us ++ vs) ≡ told f g old us ++ told f g (old ++ added f old us) vs
told-append f g old [] vs = ap (λ l. told f g l vs) (sym (append-nil old))
told-append {A} {U} {B} f g old (u ∷ us) vs =
    ap (λ (l : List B). g old u ∷ l)
    (told-append f g (old ++ f old u) us vs
    ∙ ap (λ (l : List A). told f g (old ++ f old u) us ++ told f g l vs) (append_assoc old (f old u) (added f (old ++ f old u) us)))

pub judges_none : (env : Env) (records : List Record) → Judges env records records [] []
judges_none env records = record { accepted = sym (append-nil (reports_in records)); closed = refl; answered = refl }

pub judges_then : (env : Env) (a b c : List Record) (us vs : List Upload) (first second : List Answer)
    → Judges env a b us first → Judges env b c vs second → Judges env a c (us ++ vs) (first ++ second)
judges_then env a b c us vs first second p q = record {
  accepted =
      q.accepted ∙ ap (λ (cs : List Batch). reports_in b ++ added (adds env cs) (reports_in b) vs) p.closed
      ∙ ap (λ (l : List Report). l ++ added (adds env (closes_in a)) l vs) p.accepted
      ∙ append_assoc (reports_in a) (added (adds env (closes_in a)) (reports_in a) us) (added (adds env (closes_in a)) (reports_in a ++ added (adds env (closes_in a)) (reports_in a) us) vs)
      ∙ ap (λ (l : List Report). reports_in a ++ l) (sym (added-append (adds env (closes_in a)) (reports_in a) us vs));
  closed = q.closed ∙ p.closed;
  answered =
      ap (λ (l : List Answer). l ++ second) p.answered
      ∙ ap (λ (l : List Answer). told (adds env (closes_in a)) (tells env (closes_in a)) (reports_in a) us ++ l)
      (q.answered ∙ ap (λ (cs : List Batch). told (adds env cs) (tells env cs) (reports_in b) vs) p.closed
      ∙ ap (λ (l : List Report). told (adds env (closes_in a)) (tells env (closes_in a)) l vs) p.accepted)
      ∙ sym (told-append (adds env (closes_in a)) (tells env (closes_in a)) (reports_in a) us vs);
}

same_end_more : {A : Type 0} (xs ys more : List A) → SameEnd xs ys → SameEnd (xs ++ more) (ys ++ more)
same_end_more {A} xs ys more (inl (front, e)) = inl (front, ap (λ (l : List A). l ++ more) e ∙ append_assoc front ys more)
same_end_more {A} xs ys more (inr (front, e)) = inr (front, ap (λ (l : List A). l ++ more) e ∙ append_assoc front xs more)

-- what the type keeps goes on with each stretch
pub since_judges : (env : Env) (first : List Report) (closed : List Batch) (old new : List Record) (earlier us : List Upload) (before answers : List Answer)
    → SinceStart env first closed old earlier before → Judges env old new us answers → SinceStart env first closed new (earlier ++ us) (before ++ answers)
since_judges env first closed old new earlier us before answers s j = record {
  accepted =
      j.accepted ∙ ap (λ (cs : List Batch). reports_in old ++ added (adds env cs) (reports_in old) us) s.closes_are
      ∙ ap (λ (l : List Report). l ++ added (adds env closed) l us) s.accepted
      ∙ append_assoc first (added (adds env closed) first earlier) (added (adds env closed) (first ++ added (adds env closed) first earlier) us)
      ∙ ap (λ (l : List Report). first ++ l) (sym (added-append (adds env closed) first earlier us));
  closes_are = j.closed ∙ s.closes_are;
  answered =
      subst (λ (l : List Answer). SameEnd (before ++ l) (told (adds env closed) (tells env closed) first (earlier ++ us))) (sym (tail))
      (subst (λ (l : List Answer). SameEnd (before ++ more) l) (sym (told-append (adds env closed) (tells env closed) first earlier us))
      (same_end_more before (told (adds env closed) (tells env closed) first earlier) more s.answered));
} where
  more : List Answer
  more = told (adds env closed) (tells env closed) (first ++ added (adds env closed) first earlier) us

  tail : answers ≡ told (adds env closed) (tells env closed) (first ++ added (adds env closed) first earlier) us
  tail = j.answered ∙ ap (λ (cs : List Batch). told (adds env cs) (tells env cs) (reports_in old) us) s.closes_are
      ∙ ap (λ (l : List Report). told (adds env closed) (tells env closed) l us) s.accepted

-- answers that are handed out
pub since_emptied : (env : Env) (first : List Report) (closed : List Batch) (records : List Record) (earlier : List Upload) (before : List Answer)
    → SinceStart env first closed records earlier before → SinceStart env first closed records earlier []
since_emptied env first closed records earlier before s = record {
  accepted = s.accepted;
  closes_are = s.closes_are;
  answered = inr (told (adds env closed) (tells env closed) first earlier, sym (append-nil (told (adds env closed) (tells env closed) first earlier)));
}

-- a lane begins at its start point
pub since_now : (env : Env) (records : List Record) → SinceStart env (reports_in records) (closes_in records) records [] []
since_now env records = record { accepted = sym (append-nil (reports_in records)); closes_are = refl; answered = inl ([], refl) }

-- ---- records that say nothing of reports and batches

quiet_times : (place : Place) (n : ℕ) → (reports_in (replicate n (opener_of place)) ≡ []) × (closes_in (replicate n (opener_of place)) ≡ [])
quiet_times place zero = (refl, refl)
quiet_times place (suc n) = quiet_times place n

pub judges_opens : (env : Env) (place : Place) (old new : List Record) → Opens (opener_of place) old new → Judges env old new [] []
judges_opens env place old new (n, e) =
    let q = quiet_times place n in
    record {
      accepted = ap reports_in e ∙ filter_map-append accept_of old (replicate n (opener_of place)) ∙ ap (λ (l : List Report). reports_in old ++ l) q.0;
      closed = ap closes_in e ∙ filter_map-append bucket_closed old (replicate n (opener_of place)) ∙ ap (λ (l : List Batch). closes_in old ++ l) q.1 ∙ append-nil (closes_in old);
      answered = refl;
    }

-- one upload more: its report as an Accept, where it is added
pub judges_more : (env : Env) (old new : List Record) (us : List Upload) (answers : List Answer) (u : Upload) (rs : List Report) (xs : List Record)
    → Judges env old new us answers → adds env (closes_in new) (reports_in new) u ≡ rs → reports_in xs ≡ rs → closes_in xs ≡ []
    → Judges env old (new ++ xs) (us ++ u ∷ []) (answers ++ tells env (closes_in new) (reports_in new) u ∷ [])
judges_more env old new us answers u rs xs j is has none =
    judges_then env old new (new ++ xs) us (u ∷ []) answers (tells env (closes_in new) (reports_in new) u ∷ []) j (record {
      accepted = filter_map-append accept_of new xs ∙ ap (λ (l : List Report). reports_in new ++ l) (has ∙ sym is ∙ sym (append-nil (adds env (closes_in new) (reports_in new) u)));
      closed = filter_map-append bucket_closed new xs ∙ ap (λ (l : List Batch). closes_in new ++ l) none ∙ append-nil (closes_in new);
      answered = refl;
    })

pub any_of : {A B : Type 0} (h : A → Option B) (p : B → Bool) (xs : List A) → list_any p (filter_map h xs) ≡ list_any (λ x. option_map_or p (h x) false) xs
any_of {A} {B} h p [] = refl
any_of {A} {B} h p (x ∷ xs) = go (h x) refl (any_of h p xs) where
  go : (o : Option B) → h x ≡ o → list_any p (filter_map h xs) ≡ list_any (λ y. option_map_or p (h y) false) xs → list_any p (filter_map h (x ∷ xs)) ≡ list_any (λ y. option_map_or p (h y) false) (x ∷ xs)
  go None e rec = rw e rec
  go (Some b) e rec = rw e (ap (λ t. p b || t) rec)

pub told-length : {A U B : Type 0} (f : List A → U → List A) (g : List A → U → B) (old : List A) (us : List U) → length (told f g old us) ≡ length us
told-length f g old [] = refl
told-length f g old (u ∷ us) = ap suc (told-length f g (old ++ f old u) us)

-- each upload that is judged is told one thing
pub judges_each : (env : Env) (old new : List Record) (us : List Upload) (answers : List Answer) → Judges env old new us answers → length answers ≡ length us
judges_each env old new us answers j = ap length j.answered ∙ told-length (adds env (closes_in old)) (tells env (closes_in old)) (reports_in old) us
