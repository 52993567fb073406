-- A journal's calls by what became of the block.
use Rattle.std.proofs.Common.{◌≡◌, ◌⊎◌, inl, inr, ◌+◌, List, [], ◌∷◌, ◌++◌, Bool, true, false, Option, Some, None, refl, sym, ap, subst, ◌∙◌, append_assoc, append-nil}
use Rattle.std.specs.Prelude.{replicate}
use Rattle.std.proofs.lemmas.List.{replicate-append-replicate}
use Rattle.part_journal.specs.Came.{Opens, CameBy, IsIdle, Came}
use Rattle.part_journal.specs.Pages.{Pages, decided, settled, begun, done, refused, first_pages, reopening, reopened, restarts, IsBack, Restarted, UnderWay}

module _ {R : Type 0} (x : R) where
  pub opens_none : (xs : List R) → Opens x xs xs
  opens_none xs = (0, sym (append-nil xs))

  pub opens_then : (xs ys zs : List R) → Opens x xs ys → Opens x ys zs → Opens x xs zs
  opens_then xs ys zs (m, a) (n, b) =
      (m + n, b ∙ ap (λ (l : List R). l ++ replicate n x) a ∙ append_assoc xs (replicate m x) (replicate n x) ∙ ap (λ (l : List R). xs ++ l) (replicate-append-replicate m n x))

  opens_along : (a b c d : List R) → a ≡ b → c ≡ d → Opens x a c → Opens x b d
  opens_along a b c d e f (n, is) = (n, sym f ∙ is ∙ ap (λ (l : List R). l ++ replicate n x) e)

  -- what is in hand is nothing or an Open
  pub idle_opens : (p : Pages R) (b : Bool) → p.fate ≡ Some b → IsIdle x p → Opens x p.records (p.records ++ p.block)
  idle_opens p b e idle = go p.block (idle b e) where
    go : (block : List R) → (block ≡ []) ⊎ (block ≡ x ∷ []) → Opens x p.records (p.records ++ block)
    go block (inl none) = (0, ap (λ (l : List R). p.records ++ l) none)
    go block (inr one) = (1, ap (λ (l : List R). p.records ++ l) one)

  pub came_same : (p : Pages R) → IsIdle x p → Came x p p
  came_same p idle = record { by = go p.fate; idle = idle } where
    go : (f : Option Bool) → CameBy x p p f f
    go None = (refl, refl)
    go (Some was) = (refl, opens_none p.records)

  came_is : (p q r : Pages R) → q ≡ r → Came x p q → Came x p r
  came_is p q r e c = subst (λ (z : Pages R). Came x p z) e c

  by_then : (p q r : Pages R) (f g h : Option Bool) → CameBy x p q f g → CameBy x q r g h → CameBy x p r f h
  by_then p q r None None None a b = (b.0 ∙ a.0, b.1 ∙ a.1)
  by_then p q r None None (Some true) a b =
      opens_along (q.records ++ q.block) (p.records ++ p.block) r.records r.records (ap (λ (l : List R). l ++ q.block) a.0 ∙ ap (λ (l : List R). p.records ++ l) a.1) refl b
  by_then p q r None None (Some false) a b = opens_along q.records p.records r.records r.records a.0 refl b
  by_then p q r None (Some g) None a b = absurd b
  by_then p q r None (Some true) (Some true) a b = opens_then (p.records ++ p.block) q.records r.records a b.1
  by_then p q r None (Some true) (Some false) a b = absurd (cc b.0)
  by_then p q r None (Some false) (Some true) a b = absurd (cc b.0)
  by_then p q r None (Some false) (Some false) a b = opens_then p.records q.records r.records a b.1
  by_then p q r (Some f) None h a b = absurd a
  by_then p q r (Some f) (Some g) None a b = absurd b
  by_then p q r (Some f) (Some g) (Some h) a b = (b.0 ∙ a.0, opens_then p.records q.records r.records a.1 b.1)

  -- one call behind another
  pub came_then : (p q r : Pages R) → Came x p q → Came x q r → Came x p r
  came_then p q r a b = record { by = by_then p q r p.fate q.fate r.fate a.by b.by; idle = b.idle }

  -- a known fate stays, and some Opens are added
  pub known_opens : (p q : Pages R) (b : Bool) → p.fate ≡ Some b → Came x p q → Opens x p.records q.records
  known_opens p q b e c = go p.fate q.fate e c.by where
    go : (f g : Option Bool) → f ≡ Some b → CameBy x p q f g → Opens x p.records q.records
    go None g f by = absurd (cc f)
    go (Some a) None f by = absurd by
    go (Some a) (Some d) f by = by.1

  -- ---- one step

  settles : (kept : Bool) (rs bs : List R) (o : Bool) (f : Option Bool) → ((b : Bool) → f ≡ Some b → Opens x rs (rs ++ bs))
      → Came x (record { records = rs; block = bs; opened = o; fate = f }) (settled kept (record { records = rs; block = bs; opened = o; fate = f }))
  settles true rs bs o None opens = record { by = opens_none (rs ++ bs); idle = λ b e. inl refl }
  settles false rs bs o None opens = record { by = opens_none rs; idle = λ b e. inl refl }
  settles true rs bs o (Some was) opens = record { by = (refl, opens was refl); idle = λ b e. inl refl }
  settles false rs bs o (Some was) opens = record { by = (refl, opens_none rs); idle = λ b e. inl refl }

  pub came_settled : (kept : Bool) (p : Pages R) → IsIdle x p → Came x p (settled kept p)
  came_settled kept p idle = settles kept p.records p.block p.opened p.fate (λ b e. idle_opens p b e idle)

  known_by : (p q : Pages R) (f : Option Bool) (was : Bool) → f ≡ Some was → Opens x p.records q.records → CameBy x p q f f
  known_by p q None was e o = absurd (cc e)
  known_by p q (Some b) was e o = (refl, o)

  came_reopening : (p : Pages R) (was : Bool) → p.fate ≡ Some was → Came x p (reopening x p)
  came_reopening p was e = record { by = known_by p (reopening x p) p.fate was e (opens_none p.records); idle = λ b f. inr refl }

  came_reopened : (p : Pages R) (was : Bool) → p.fate ≡ Some was → IsIdle x p → Came x p (reopened p)
  came_reopened p was e idle = record { by = known_by p (reopened p) p.fate was e (idle_opens p was e idle); idle = λ b f. inl refl }

  decided_known : (kept : Bool) (f : Option Bool) → (b : Bool) × (decided kept f ≡ Some b)
  decided_known kept None = (kept, refl)
  decided_known kept (Some was) = (was, refl)

  settled_known : (kept : Bool) (p : Pages R) → (b : Bool) × ((settled kept p).fate ≡ Some b)
  settled_known true p = decided_known true p.fate
  settled_known false p = decided_known false p.fate

  restarts_known : (more : List Bool) (p : Pages R) → (b : Bool) × (p.fate ≡ Some b) → (b : Bool) × ((restarts x more p).fate ≡ Some b)
  restarts_known [] p k = k
  restarts_known (kept ∷ more) p k = restarts_known more (reopening x (settled kept p)) (settled_known kept p)

  -- a block whose fate was open is settled by the first restart
  restarts_stay : (more : List Bool) (p : Pages R) (b : Bool) → p.fate ≡ Some b → (restarts x more p).fate ≡ Some b
  restarts_stay [] p b e = e
  restarts_stay (kept ∷ more) p b e = restarts_stay more (reopening x (settled kept p)) b (settled_stays kept e) where
    settled_stays : (again : Bool) → p.fate ≡ Some b → (settled again p).fate ≡ Some b
    settled_stays true was = ap (λ (f : Option Bool). decided true f) was
    settled_stays false was = ap (λ (f : Option Bool). decided false f) was

  pub restarted_fate : (kept : Bool) (xs : List R) (p q : Pages R) → Restarted x kept (begun xs p) q → q.fate ≡ Some kept
  restarted_fate true xs p q (more, e) = ap (λ (z : Pages R). z.fate) e ∙ restarts_stay more (reopening x (settled true (begun xs p))) true refl
  restarted_fate false xs p q (more, e) = ap (λ (z : Pages R). z.fate) e ∙ restarts_stay more (reopening x (settled false (begun xs p))) false refl

  -- ---- whole calls

  came_restarts : (more : List Bool) (p : Pages R) → IsIdle x p → Came x p (restarts x more p)
  came_restarts [] p idle = came_same p idle
  came_restarts (kept ∷ more) p idle =
      let s : Pages R = settled kept p in
      let a = came_settled kept p idle in
      let k = settled_known kept p in
      let b = came_reopening s k.0 k.1 in
      came_then p (reopening x s) (restarts x more (reopening x s)) (came_then p s (reopening x s) a b) (came_restarts more (reopening x s) b.idle)

  -- an Open is in hand and comes to count
  pub came_is_back : (p q : Pages R) → (b : Bool) × (p.fate ≡ Some b) → IsIdle x p → IsBack x p q → Came x p q
  came_is_back p q known idle (more, e) =
      let a = came_restarts more p idle in
      let k = restarts_known more p known in
      came_is p (reopened (restarts x more p)) q (sym e) (came_then p (restarts x more p) (reopened (restarts x more p)) a (came_reopened (restarts x more p) k.0 k.1 a.idle))

  -- a restart that comes back
  pub came_back : (kept : Bool) (p q : Pages R) → IsIdle x p → Restarted x kept p q → Came x p q
  came_back kept p q idle back =
      let s : Pages R = settled kept p in
      let a = came_settled kept p idle in
      let k = settled_known kept p in
      let b = came_reopening s k.0 k.1 in
      came_then p (reopening x s) q (came_then p s (reopening x s) a b) (came_is_back (reopening x s) q k b.idle back)

  -- one that is refused on the way
  pub came_under_way : (p q : Pages R) → IsIdle x p → UnderWay x p q → Came x p q
  came_under_way p q idle (more, inl e) = came_is p (restarts x more p) q (sym e) (came_restarts more p idle)
  came_under_way p q idle (more, inr (kept, e)) =
      let a = came_restarts more p idle in
      came_is p (settled kept (restarts x more p)) q (sym e) (came_then p (restarts x more p) (settled kept (restarts x more p)) a (came_settled kept (restarts x more p) a.idle))

  -- an append has just begun
  pub begun_idle : (xs : List R) (p : Pages R) → IsIdle x (begun xs p)
  begun_idle xs p b e = absurd (cc e)

  -- an append without a stop, and one that is refused before
  pub came_done : (xs : List R) (p q : Pages R) → q ≡ done (begun xs p) → Came x (begun xs p) q
  came_done xs p q e = came_is (begun xs p) (done (begun xs p)) q (sym e) (record { by = opens_none (p.records ++ xs); idle = λ b f. inl refl })

  pub came_refused : (xs : List R) (p q : Pages R) → p.block ≡ [] → q ≡ refused p → Came x (begun xs p) q
  came_refused xs p q none e = came_is (begun xs p) (refused p) q (sym e) (record { by = opens_none p.records; idle = λ b f. inl none })

  -- an opening
  pub came_first : (xs : List R) (q : Pages R) → IsBack x (reopening x (first_pages xs)) q → Came x (first_pages xs) q
  came_first xs q back =
      let p : Pages R = first_pages xs in
      let a = came_reopening p false refl in
      came_then p (reopening x p) q a (came_is_back (reopening x p) q (false, refl) a.idle back)
