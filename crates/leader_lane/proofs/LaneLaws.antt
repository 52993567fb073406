-- The pages and the book along a lane's calls.
use Rattle.std.proofs.Common.{◌≡◌, ◌≢◌, ℕ, ◌+◌, ◌≤◌, List, [], ◌∷◌, ◌++◌, length, take, drop, Bool, true, false, Option, Some, None, refl, sym, ap, subst, ◌∙◌, append_assoc, append-nil, arith}
use Rattle.std.proofs.lemmas.List.{length-append, take-append-le, take_all, drop-append-le, take-append-drop, length-drop, length-take-le}
use Rattle.dap_wire.specs.declared.upload.Upload.{Upload}
use Rattle.lane_records.specs.declared.record.Record.{Record}
use Rattle.legal_journals.specs.History.{Mem}
use Rattle.part_journal.specs.Pages.{Pages, first_pages, begun, settled, reopening, restarts, IsBack}
use Rattle.dap_tasks.specs.declared.cause.Answer.{Answer}
use Rattle.std.specs.Prelude.{replicate}
use Rattle.part_journal.specs.Came.{Opens, CameBy, IsIdle, Came}
use Rattle.part_journal.specs.CameLaws.{idle_opens, known_opens}
use Rattle.leader_lane.specs.Book.{BookView, judged_by_block, no_book, held, proposed, landed, lost, settled_by, emptied}
use Rattle.leader_lane.specs.Judge.{reports_in, closes_in, Env, Judges, SinceStart}
use Rattle.leader_lane.specs.Sound.{IsPlace, opener_of, Sound}
use Rattle.leader_lane.specs.Ready.{Ready}
use Rattle.leader_lane.specs.Lane.{IsSince, Keeps, Turned}
use Rattle.leader_lane.proofs.JudgeLaws.{judges_none, judges_then, since_judges, since_emptied, since_now, judges_opens}
use Rattle.leader_lane.proofs.SoundLaws.{mem_left, mem_last, sound_opens, sound_front}

restarts_block : (x : Record) (more : List Bool) (p : Pages Record) → p.block ≡ x ∷ [] → (restarts x more p).block ≡ x ∷ []
restarts_block x [] p e = e
restarts_block x (kept ∷ more) p e = restarts_block x more (reopening x (settled kept p)) refl

module _ (env : Env) where
  -- ---- one call after another

  pub turned_none : (p q : Pages Record) (taken : List Upload) (book : BookView) → q.records ≡ p.records → Turned env p q taken taken book book
  turned_none p q taken book e = record {
    more = [];
    us = [];
    told = [];
    takes = sym (append-nil taken);
    hand = append-nil book.hand;
    answers = sym (append-nil book.answers);
    judges = subst (λ (l : List Record). Judges env p.records l [] []) (sym e) (judges_none env p.records);
    grows = ([], e ∙ sym (append-nil p.records));
  }

  pub turned_then : (p q r : Pages Record) (t u v : List Upload) (a b c : BookView) → Turned env p q t u a b → Turned env q r u v b c → Turned env p r t v a c
  turned_then p q r t u v a b c x y = record {
    more = x.more ++ y.more;
    us = x.us ++ y.us;
    told = x.told ++ y.told;
    takes = y.takes ∙ ap (λ (l : List Upload). l ++ y.more) x.takes ∙ append_assoc t x.more y.more;
    hand = sym (append_assoc a.hand x.more y.more) ∙ ap (λ (l : List Upload). l ++ y.more) x.hand ∙ append_assoc x.us b.hand y.more ∙ ap (λ (l : List Upload). x.us ++ l) y.hand ∙ sym (append_assoc x.us y.us c.hand);
    answers = y.answers ∙ ap (λ (l : List Answer). l ++ y.told) x.answers ∙ append_assoc a.answers x.told y.told;
    judges = judges_then env p.records q.records r.records x.us y.us x.told y.told x.judges y.judges;
    grows = (x.grows.0 ++ y.grows.0, y.grows.1 ∙ ap (λ (l : List Record). l ++ y.grows.0) x.grows.1 ∙ append_assoc p.records x.grows.0 y.grows.0);
  }

  -- ---- what the type keeps goes on

  since_turned : (start : ℕ) (p q : Pages Record) (t u : List Upload) (a b : BookView) → start ≤ length p.records → Turned env p q t u a b → IsSince env start p.records t a → IsSince env start q.records u b
  since_turned start p q t u a b w x s =
      let same : take start q.records ≡ take start p.records = ap (λ (l : List Record). take start l) x.grows.1 ∙ take-append-le start p.records x.grows.0 w in
      record {
        judged = s.judged ++ x.us;
        at_start = s.at_start;
        all_taken = x.takes ∙ ap (λ (l : List Upload). l ++ x.more) s.all_taken ∙ append_assoc s.judged a.hand x.more ∙ ap (λ (l : List Upload). s.judged ++ l) x.hand ∙ sym (append_assoc s.judged x.us b.hand);
        within = let n = length-append s.judged x.us in let m = s.within in omega (arith, n, m);
        since =
            subst (λ (l : List Record). SinceStart env (reports_in l) (closes_in l) q.records (drop s.at_start (s.judged ++ x.us)) b.answers) (sym same)
            (subst (λ (l : List Upload). SinceStart env (reports_in (take start p.records)) (closes_in (take start p.records)) q.records l b.answers) (sym (drop-append-le s.at_start s.judged x.us s.within))
            (subst (λ (l : List Answer). SinceStart env (reports_in (take start p.records)) (closes_in (take start p.records)) q.records (drop s.at_start s.judged ++ x.us) l) (sym x.answers)
            (since_judges env (reports_in (take start p.records)) (closes_in (take start p.records)) p.records q.records (drop s.at_start s.judged) x.us a.answers x.told s.since x.judges)));
      }

  -- a block that judges the uploads in hand is begun
  pub keeps_begun : (start : ℕ) (p : Pages Record) (taken : List Upload) (book : BookView) (n : ℕ) (block : List Record) (answers : List Answer) → Keeps env start p taken book → Ready env p.records block answers (take n book.hand)
      → Keeps env start (begun block p) taken (proposed n answers book)
  keeps_begun start p taken book n block answers k r = record {
    opened = k.opened;
    sound = r.sound;
    block = r.judges;
    idle = λ b e. absurd (cc e);
    settled = λ b e. absurd (cc e);
    start_within = k.start_within;
    since = record { judged = k.since.judged; at_start = k.since.at_start; all_taken = k.since.all_taken; within = k.since.within; since = k.since.since };
  }

  -- ---- a journal's call, and then the book by what became of the block

  abbrev Settles : ℕ → Pages Record → Pages Record → List Upload → BookView → BookView → Type 0
  Settles start p q taken book new = Keeps env start q taken new × Turned env p q taken taken book new

  -- the fate is known
  known_settles : (start : ℕ) (p q : Pages Record) (taken : List Upload) (book new : BookView) (us : List Upload) (told : List Answer) (mid : List Record) → IsPlace env.place → Keeps env start p taken book
      → IsIdle (opener_of env.place) q → (b : Bool) → q.fate ≡ Some b
      → Opens (opener_of env.place) mid q.records → Judges env p.records mid us told → Sound env.place mid → ((xs : List Record) × (mid ≡ p.records ++ xs))
      → book.hand ≡ us ++ new.hand → new.answers ≡ book.answers ++ told → new.in_block ≡ 0 → new.block_answers ≡ [] → judged_by_block new ≡ [] → Settles start p q taken book new
  known_settles start p q taken book new us told mid is k idle b fate opens judges sound grows hand answers rest none empty =
      let turned : Turned env p q taken taken book new = record {
        more = [];
        us = us;
        told = told;
        takes = sym (append-nil taken);
        hand = append-nil book.hand ∙ hand;
        answers = answers;
        judges = subst (λ (l : List Upload). Judges env p.records q.records l told) (append-nil us) (subst (λ (l : List Answer). Judges env p.records q.records (us ++ []) l) (append-nil told)
            (judges_then env p.records mid q.records us [] told [] judges (judges_opens env env.place mid q.records opens)));
        grows = (grows.0 ++ replicate opens.0 (opener_of env.place), opens.1 ∙ ap (λ (l : List Record). l ++ replicate opens.0 (opener_of env.place)) grows.1 ∙ append_assoc p.records grows.0 (replicate opens.0 (opener_of env.place)));
      } in
      let open_block = idle_opens (opener_of env.place) q b fate idle in (
        record {
          opened = subst (λ (l : List Record). Mem (opener_of env.place) l) (sym turned.grows.1) (mem_left (opener_of env.place) p.records turned.grows.0 k.opened);
          sound = sound_opens env.place q.records (q.records ++ q.block) is open_block (sound_opens env.place mid q.records is opens sound);
          block = subst (λ (l : List Upload). Judges env q.records (q.records ++ q.block) l new.block_answers) (sym empty)
              (subst (λ (l : List Answer). Judges env q.records (q.records ++ q.block) [] l) (sym none) (judges_opens env env.place q.records (q.records ++ q.block) open_block));
          idle = idle;
          settled = λ _ _. (rest, none);
          start_within = let n = ap length turned.grows.1 ∙ length-append p.records turned.grows.0 in let w = k.start_within in omega (arith, n, w);
          since = since_turned start p q taken taken book new k.start_within turned k.since;
        },
        turned,
      )

  behind_rest : (b : BookView) → b.in_block ≡ 0 → drop b.in_block b.hand ≡ b.hand
  behind_rest b e = ap (λ (n : ℕ). drop n b.hand) e

  hand_split : (b : BookView) → b.hand ≡ judged_by_block b ++ drop b.in_block b.hand
  hand_split b = sym (take-append-drop b.in_block b.hand)

  pub settles : (start : ℕ) (p q : Pages Record) (taken : List Upload) (book : BookView) → IsPlace env.place → Keeps env start p taken book → Came (opener_of env.place) p q
      → Settles start p q taken book (settled_by q.fate book)
  settles start p q taken book is k c = go p.fate q.fate refl refl c.by
    where
      front : Sound env.place p.records
      front = sound_front env.place p.records p.block k.sound

      go : (f g : Option Bool) → p.fate ≡ f → q.fate ≡ g → CameBy (opener_of env.place) p q f g → Settles start p q taken book (settled_by g book)
      go None None pf qf by =
          let turned = turned_none p q taken book by.0 in (
            record {
              opened = subst (λ (l : List Record). Mem (opener_of env.place) l) (sym by.0) k.opened;
              sound = subst (λ (l : List Record). Sound env.place (l ++ q.block)) (sym by.0) (subst (λ (l : List Record). Sound env.place (p.records ++ l)) (sym by.1) k.sound);
              block = subst (λ (l : List Record). Judges env l (l ++ q.block) (judged_by_block book) book.block_answers) (sym by.0) (subst (λ (l : List Record). Judges env p.records (p.records ++ l) (judged_by_block book) book.block_answers) (sym by.1) k.block);
              idle = c.idle;
              settled = λ b e. absurd (cc (sym qf ∙ e));
              start_within = subst (λ (l : List Record). start ≤ length l) (sym by.0) k.start_within;
              since = since_turned start p q taken taken book book k.start_within turned k.since;
            },
            turned,
          )
      go None (Some true) pf qf by =
          known_settles start p q taken book (landed book) (judged_by_block book) book.block_answers (p.records ++ p.block) is k c.idle true qf by k.block k.sound (p.block, refl) (hand_split book) refl refl refl refl
      go None (Some false) pf qf by =
          known_settles start p q taken book (lost book) [] [] p.records is k c.idle false qf by (judges_none env p.records) front ([], sym (append-nil p.records)) refl (sym (append-nil book.answers)) refl refl refl
      go (Some a) None pf qf by = absurd by
      go (Some a) (Some true) pf qf by =
          let r = k.settled a pf in
          known_settles start p q taken book (landed book) [] [] p.records is k c.idle true qf by.1 (judges_none env p.records) front ([], sym (append-nil p.records)) (sym (behind_rest book r.0)) (ap (λ (l : List Answer). book.answers ++ l) r.1) refl refl refl
      go (Some a) (Some false) pf qf by =
          known_settles start p q taken book (lost book) [] [] p.records is k c.idle false qf by.1 (judges_none env p.records) front ([], sym (append-nil p.records)) refl (sym (append-nil book.answers)) refl refl refl

  -- uploads that add no record are answered without an append
  pub settles_answered : (start : ℕ) (p : Pages Record) (taken : List Upload) (book : BookView) (n : ℕ) (block : List Record) (answers : List Answer) → IsPlace env.place → Keeps env start p taken book → p.fate ≢ None → block ≡ []
      → Ready env p.records block answers (take n book.hand) → Settles start p p taken book (settled_by (Some true) (proposed n answers book))
  settles_answered start p taken book n block answers is k told none r = go p.fate refl where
    go : (f : Option Bool) → p.fate ≡ f → Settles start p p taken book (settled_by (Some true) (proposed n answers book))
    go None e = absurd (told e)
    go (Some b) e =
        known_settles start p p taken book (landed (proposed n answers book)) (take n book.hand) answers p.records is k k.idle b e (0, sym (append-nil p.records))
        (subst (λ (l : List Record). Judges env p.records l (take n book.hand) answers) (ap (λ (l : List Record). p.records ++ l) none ∙ append-nil p.records) r.judges)
        (sound_front env.place p.records p.block k.sound) ([], sym (append-nil p.records)) (sym (take-append-drop n book.hand)) refl refl refl refl

  -- an upload more is taken into hand
  pub settles_held : (start : ℕ) (p : Pages Record) (taken took : List Upload) (book new : BookView) (u : Upload) → Keeps env start p taken book → p.fate ≢ None → new ≡ held u book → took ≡ taken ++ u ∷ []
      → Keeps env start p took new × Turned env p p taken took book new
  settles_held start p taken took book new u k told is e =
      subst (λ (b : BookView). Keeps env start p took b × Turned env p p taken took book b) (sym is) (go p.fate refl)
    where
      turned : Turned env p p taken took book (held u book)
      turned = record { more = u ∷ []; us = []; told = []; takes = e; hand = refl; answers = sym (append-nil book.answers); judges = judges_none env p.records; grows = ([], sym (append-nil p.records)) }

      go : (f : Option Bool) → p.fate ≡ f → Keeps env start p took (held u book) × Turned env p p taken took book (held u book)
      go None n = absurd (told n)
      go (Some b) f =
          let rest = k.settled b f in (
            record {
              opened = k.opened;
              sound = k.sound;
              block = subst (λ (n : ℕ). Judges env p.records (p.records ++ p.block) (take n (book.hand ++ u ∷ [])) book.block_answers) (sym rest.0)
                  (subst (λ (n : ℕ). Judges env p.records (p.records ++ p.block) (take n book.hand) book.block_answers) rest.0 k.block);
              idle = k.idle;
              settled = k.settled;
              start_within = k.start_within;
              since = since_turned start p p taken took book (held u book) k.start_within turned k.since;
            },
            turned,
          )

  -- the answers are handed out
  pub keeps_emptied : (start : ℕ) (p : Pages Record) (taken : List Upload) (book : BookView) → Keeps env start p taken book → Keeps env start p taken (emptied book)
  keeps_emptied start p taken book k = record {
    opened = k.opened;
    sound = k.sound;
    block = k.block;
    idle = k.idle;
    settled = k.settled;
    start_within = k.start_within;
    since = record {
      judged = k.since.judged;
      at_start = k.since.at_start;
      all_taken = k.since.all_taken;
      within = k.since.within;
      since = since_emptied env (reports_in (take start p.records)) (closes_in (take start p.records)) p.records (drop k.since.at_start k.since.judged) book.answers k.since.since;
    };
  }

  -- an opening
  pub keeps_first : (recs : List Record) (q : Pages Record) (taken : List Upload) (start : ℕ) → IsPlace env.place → Sound env.place recs → start ≡ length recs → taken ≡ []
      → IsBack (opener_of env.place) (reopening (opener_of env.place) (first_pages recs)) q → Came (opener_of env.place) (first_pages recs) q → Keeps env start q taken no_book
  keeps_first recs q taken start is s at none back came =
      subst (λ (i : ℕ). Keeps env i q taken no_book) (sym at) (record {
        opened = subst (λ (l : List Record). Mem (opener_of env.place) l) (sym last) (mem_last (opener_of env.place) (restarts (opener_of env.place) back.0 (reopening (opener_of env.place) (first_pages recs))).records);
        sound = sound_opens env.place q.records (q.records ++ q.block) is open_block (sound_opens env.place recs q.records is opens s);
        block = judges_opens env env.place q.records (q.records ++ q.block) open_block;
        idle = came.idle;
        settled = λ b e. (refl, refl);
        start_within = let n = ap length opens.1 ∙ length-append recs (replicate opens.0 (opener_of env.place)) in omega (arith, n);
        since = record {
          judged = [];
          at_start = 0;
          all_taken = none;
          within = omega arith;
          since = subst (λ (l : List Record). SinceStart env (reports_in l) (closes_in l) q.records [] []) (sym same)
              (since_judges env (reports_in recs) (closes_in recs) recs q.records [] [] [] [] (since_now env recs) (judges_opens env env.place recs q.records opens));
        };
      })
    where
      opens : Opens (opener_of env.place) recs q.records
      opens = known_opens (opener_of env.place) (first_pages recs) q false refl came

      known_by : (f : Option Bool) → q.fate ≡ f → CameBy (opener_of env.place) (first_pages recs) q (Some false) f → q.fate ≡ Some false
      known_by None e by = absurd by
      known_by (Some b) e by = e ∙ ap (λ (z : Bool). Some z) by.0

      known : q.fate ≡ Some false
      known = known_by q.fate refl came.by

      open_block : Opens (opener_of env.place) q.records (q.records ++ q.block)
      open_block = idle_opens (opener_of env.place) q false known came.idle

      last : q.records ≡ (restarts (opener_of env.place) back.0 (reopening (opener_of env.place) (first_pages recs))).records ++ opener_of env.place ∷ []
      last = ap (λ (z : Pages Record). z.records) back.1
          ∙ ap (λ (l : List Record). (restarts (opener_of env.place) back.0 (reopening (opener_of env.place) (first_pages recs))).records ++ l) (restarts_block (opener_of env.place) back.0 (reopening (opener_of env.place) (first_pages recs)) refl)

      same : take (length recs) q.records ≡ recs
      same = ap (λ (l : List Record). take (length recs) l) opens.1 ∙ take-append-le (length recs) recs (replicate opens.0 (opener_of env.place)) (omega arith) ∙ take_all (length recs) recs (omega arith)

-- ---- what became of a block

pub settled_few : (f : Option Bool) (b : BookView) (most : ℕ) → length b.hand ≤ most → length (settled_by f b).hand ≤ most
settled_few None b most h = h
settled_few (Some false) b most h = h
settled_few (Some true) b most h = let n = length-drop b.in_block b.hand in omega (arith, n, h)

-- its uploads are judged, and each has its answer
pub landed_told : (b : BookView) (n : ℕ) (answers : List Answer) → length answers ≡ length (take n b.hand) → n ≤ length b.hand
    → ((landed (proposed n answers b)).hand ≡ drop n b.hand) × (length (landed (proposed n answers b)).answers ≡ length b.answers + n)
landed_told b n answers e within =
    (refl, let a = length-append b.answers answers in let t = length-take-le n b.hand within in omega (arith, a, t, e))
