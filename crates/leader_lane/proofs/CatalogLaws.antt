-- The catalog along its calls.
use Rattle.std.proofs.Common.{◌≡◌, ◌≢◌, ℕ, zero, suc, ◌+◌, ◌≤◌, ◌<◌, List, [], ◌∷◌, ◌++◌, length, map, take, drop, get_or, min, replicate, Bool, true, false, Option, Some, None, refl, sym, ap, subst, ◌∙◌, append_assoc, append-nil, arith}
use Rattle.std.proofs.lemmas.List.{map-append, length-append, take_all, take_more, take-append-drop}
use Rattle.std.proofs.Math.Seq.{drop-append_seam}
use Rattle.dap_messages.specs.declared.report.Report.{Report as Told}
use Rattle.lane_records.specs.declared.record.Record.{Record}
use Rattle.lane_records.specs.declared.record.Record.TheVariants.{Accept}
use Rattle.legal_journals.specs.LeaderIndexed.{LeaderIndexes}
use Rattle.legal_journals.specs.declared.leader_index.LeaderIndex.{LeaderIndex}
use Rattle.legal_journals.specs.Reports.{Report}
use Rattle.part_journal.specs.Came.{CameBy, Came}
use Rattle.part_journal.specs.CameLaws.{opens_then}
use Rattle.part_journal.specs.Pages.{Pages}
use Rattle.leader_lane.specs.declared.catalog.Catalog.{Catalog}
use Rattle.leader_lane.specs.Catalog.{key_of, Lists, ListsBy}

-- ---- keys

-- a list that ends as a mapped one does
map_snoc : {A B : Type 0} (f : A → B) (rs : List A) (ys : List B) (y : B) → ys ++ y ∷ [] ≡ map f rs → (front : List A) × (a : A) × (rs ≡ front ++ a ∷ []) × (ys ≡ map f front) × (y ≡ f a)
map_snoc f [] [] y e = absurd (cc e)
map_snoc f [] (z ∷ ys) y e = absurd (cc e)
map_snoc f (r ∷ []) [] y e = let same : y ≡ f r = cc e in ([], r, refl, refl, same)
map_snoc f (r ∷ q ∷ rs) [] y e = let no : [] ≡ map f (q ∷ rs) = cc e in absurd (cc no)
map_snoc {A} {B} f (r ∷ rs) (z ∷ ys) y e =
    let tail : ys ++ y ∷ [] ≡ map f rs = cc e in
    let head : z ≡ f r = cc e in
    let rec = map_snoc f rs ys y tail in
    (r ∷ rec.0, rec.1, ap (λ (l : List A). r ∷ l) rec.2, ap (λ (l : List B). z ∷ l) rec.3 ∙ ap (λ (b : B). b ∷ map f rec.0) head, rec.4)

none_mapped : {A B : Type 0} (f : A → B) (rs : List A) → [] ≡ map f rs → rs ≡ []
none_mapped f [] e = refl
none_mapped f (r ∷ rs) e = absurd (cc e)

-- the next of a list
pub take_next : {X : Type 0} (xs : List X) (i : ℕ) (x : X) → x ≡ get_or xs i x → i < length xs → take i xs ++ x ∷ [] ≡ take (i + 1) xs
take_next {X} xs i x is h = ap (λ (y : X). take i xs ++ y ∷ []) is ∙ sym (take_more xs i x h)

-- ---- calls

pub lists_none : (c : Catalog) → LeaderIndexes c.index [] → c.entered.items ≡ [] → Lists c [] []
lists_none c i e = record { indexed = i; keys = ([], refl, e) }

pub lists_more : (c d : Catalog) (records block : List Record) (x : Record) (key : Report) (r : Told) → x ≡ Accept r → key ≡ key_of r → LeaderIndexes d.index ((records ++ block) ++ x ∷ []) → d.entered.items ≡ c.entered.items ++ key ∷ []
    → Lists c records block → Lists d records (block ++ x ∷ [])
lists_more c d records block x key r is at i e h = record {
  indexed = subst (λ (l : List Record). LeaderIndexes d.index l) (append_assoc records block (x ∷ [])) i;
  keys = (
    h.keys.0 ++ r ∷ [],
    ap (λ (l : List Record). l ++ x ∷ []) h.keys.1 ∙ ap (λ (y : Record). map Accept h.keys.0 ++ y ∷ []) is ∙ sym (map-append Accept h.keys.0 (r ∷ [])),
    e ∙ ap (λ (l : List Report). l ++ key ∷ []) h.keys.2 ∙ ap (λ (k : Report). map key_of h.keys.0 ++ k ∷ []) at ∙ sym (map-append key_of h.keys.0 (r ∷ [])),
  );
}

pub lists_kept : (c d : Catalog) (records block : List Record) → LeaderIndexes d.index (records ++ block) → d.entered.items ≡ c.entered.items → Lists c records block → Lists d records block
lists_kept c d records block i e h = record { indexed = i; keys = (h.keys.0, h.keys.1, e ∙ h.keys.2) }

pub lists_landed : (c d : Catalog) (records block : List Record) → d.index ≡ c.index → d.entered.items ≡ [] → Lists c records block → Lists d (records ++ block) []
lists_landed c d records block same e h = record {
  indexed = subst (λ (l : List Record). LeaderIndexes d.index l) (sym (append-nil (records ++ block))) (subst (λ (i : LeaderIndex). LeaderIndexes i (records ++ block)) (sym same) h.indexed);
  keys = ([], refl, e);
}

-- the last of the block is taken back
pub lists_less : (c d : Catalog) (records block : List Record) (keys : List Report) (key : Report) → c.entered.items ≡ keys ++ key ∷ [] → d.entered.items ≡ keys
    → ((l : List Record) (r : Told) → r.name ≡ key.0 → r.id ≡ key.1 → LeaderIndexes c.index (l ++ Accept r ∷ []) → LeaderIndexes d.index l)
    → Lists c records block → (b : List Record) × Lists d records b
lists_less c d records block keys key e f back h =
    let s = map_snoc key_of h.keys.0 keys key (sym e ∙ h.keys.2) in
    let is : block ≡ map Accept s.0 ++ Accept s.1 ∷ [] = h.keys.1 ∙ ap (map Accept) s.2 ∙ map-append Accept s.0 (s.1 ∷ []) in
    let at : records ++ block ≡ (records ++ map Accept s.0) ++ Accept s.1 ∷ [] = ap (λ (l : List Record). records ++ l) is ∙ sym (append_assoc records (map Accept s.0) (Accept s.1 ∷ [])) in (
      map Accept s.0,
      record {
        indexed = back (records ++ map Accept s.0) s.1 (ap (λ (k : Report). k.0) (sym s.4)) (ap (λ (k : Report). k.1) (sym s.4)) (subst (λ (l : List Record). LeaderIndexes c.index l) at h.indexed);
        keys = (s.0, refl, f ∙ s.3);
      },
    )

-- nothing of the block is left
pub lists_empty : (c d : Catalog) (records block : List Record) → d.index ≡ c.index → c.entered.items ≡ [] → d.entered.items ≡ [] → Lists c records block → Lists d records []
lists_empty c d records block same e f h =
    let none : block ≡ [] = h.keys.1 ∙ ap (map Accept) (none_mapped key_of h.keys.0 (sym e ∙ h.keys.2)) in
    let k : Lists c records [] = subst (λ (l : List Record). Lists c records l) none h in
    record { indexed = subst (λ (i : _). LeaderIndexes i (records ++ [])) (sym same) k.indexed; keys = ([], refl, f) }

none_accepts : (rs : List Told) → [] ≡ map Accept rs → rs ≡ []
none_accepts rs a = none_mapped Accept rs a

-- one record more is taken in
pub lists_next : (c d : Catalog) (seen : List Record) (x : Record) → LeaderIndexes d.index (seen ++ x ∷ []) → d.entered.items ≡ c.entered.items → Lists c seen [] → Lists d (seen ++ x ∷ []) []
lists_next c d seen x ix e h = record {
  indexed = subst (λ (l : List Record). LeaderIndexes d.index l) (sym (append-nil (seen ++ x ∷ []))) ix;
  keys = ([], refl, e ∙ h.keys.2 ∙ ap (map key_of) (none_accepts h.keys.0 h.keys.1));
}

-- what is behind the records that it has
rest_is : (records seen more rest : List Record) (from len : ℕ) → records ≡ seen ++ more → len ≡ length seen → from ≡ min len (length records) → rest ≡ drop from records → rest ≡ more
rest_is records seen more rest from len e l m d =
    let n : length records ≡ length seen + length more = ap length e ∙ length-append seen more in
    let at : from ≡ length seen = omega (arith, n, l, m) in
    d ∙ ap (λ (k : ℕ). drop k records) at ∙ ap (λ (r : List Record). drop (length seen) r) e ∙ drop-append_seam seen more

-- all of it is taken in
pub caught_up : (d : Catalog) (records seen more rest : List Record) (from len i : ℕ) → records ≡ seen ++ more → len ≡ length seen → from ≡ min len (length records) → rest ≡ drop from records → length rest ≤ i
    → Lists d (seen ++ take i rest) [] → Lists d records []
caught_up d records seen more rest from len i e l m is end h =
    let r = rest_is records seen more rest from len e l m is in
    subst (λ (k : List Record). Lists d k []) (ap (λ (k : List Record). seen ++ k) (take_all i rest end ∙ r) ∙ sym e) h

-- some of it
pub caught_some : (d : Catalog) (records seen more rest : List Record) (from len i : ℕ) → records ≡ seen ++ more → len ≡ length seen → from ≡ min len (length records) → rest ≡ drop from records
    → Lists d (seen ++ take i rest) [] → (some behind : List Record) × (more ≡ some ++ behind) × Lists d (seen ++ some) []
caught_some d records seen more rest from len i e l m is h =
    let r = rest_is records seen more rest from len e l m is in
    (take i rest, drop i rest, sym r ∙ sym (take-append-drop i rest), h)

-- ---- along a journal's calls

module _ (opener : Record) where
  -- a journal's call, with the catalog settled by what became of the block
  pub lists_came : (c d : Catalog) (p q : Pages Record) → Came opener p q → ListsBy opener c p p.fate
      → (q.fate ≡ Some true → (records block : List Record) → Lists c records block → Lists d (records ++ block) [])
      → (q.fate ≡ Some false → (records block : List Record) → Lists c records block → Lists d records [])
      → (q.fate ≡ None → d ≡ c)
      → ListsBy opener d q q.fate
  lists_came c d p q came h land lose stay = go p.fate q.fate refl came.by h where
    go : (f g : Option Bool) → q.fate ≡ g → CameBy opener p q f g → ListsBy opener c p f → ListsBy opener d q g
    go None None e by l =
        subst (λ (z : Catalog). Lists z q.records q.block) (sym (stay e))
        (subst (λ (m : List Record). Lists c m q.block) (sym by.0) (subst (λ (m : List Record). Lists c p.records m) (sym by.1) l))
    go None (Some true) e by l = (p.records ++ p.block, by, land e p.records p.block l)
    go None (Some false) e by l = (p.records, by, lose e p.records p.block l)
    go (Some a) None e by l = absurd by
    go (Some a) (Some true) e by (seen, opens, l) =
        (seen, opens_then opener seen p.records q.records opens by.1, subst (λ (m : List Record). Lists d m []) (append-nil seen) (land e seen [] l))
    go (Some a) (Some false) e by (seen, opens, l) = (seen, opens_then opener seen p.records q.records opens by.1, lose e seen [] l)

  -- a known fate stays, and some Opens are added
  pub lists_later : (c : Catalog) (p q : Pages Record) (b : Bool) → p.fate ≡ Some b → Came opener p q → ListsBy opener c p (Some b) → ListsBy opener c q q.fate
  lists_later c p q b known came (seen, opens, l) = go q.fate (subst (λ (f : Option Bool). CameBy opener p q f q.fate) known came.by) where
    go : (g : Option Bool) → CameBy opener p q (Some b) g → ListsBy opener c q g
    go None by = absurd by
    go (Some d) by = (seen, opens_then opener seen p.records q.records opens by.1, l)

  split_times : (n : ℕ) (xs ys : List Record) → replicate n opener ≡ xs ++ ys → (j : ℕ) × (ys ≡ replicate j opener)
  split_times n [] ys e = (n, sym e)
  split_times zero (x ∷ xs) ys e = absurd (cc e)
  split_times (suc n) (x ∷ xs) ys e = let tail : replicate n opener ≡ xs ++ ys = cc e in split_times n xs ys tail

  -- some Opens more are taken in
  pub lists_some : (c d : Catalog) (p : Pages Record) (known : Bool) → p.fate ≡ Some known
      → ((seen more : List Record) → Lists c seen [] → p.records ≡ seen ++ more → (some rest : List Record) × (more ≡ some ++ rest) × Lists d (seen ++ some) [])
      → ListsBy opener c p p.fate → ListsBy opener d p p.fate
  lists_some c d p known e call h =
      subst (λ (f : Option Bool). ListsBy opener d p f) (sym e) (go (subst (λ (f : Option Bool). ListsBy opener c p f) e h)) where
        go : ListsBy opener c p (Some known) → ListsBy opener d p (Some known)
        go (seen, (n, is), l) =
            let s = call seen (replicate n opener) l is in
            let t = split_times n s.0 s.1 s.2 in
            (seen ++ s.0, (t.0, is ∙ ap (λ (m : List Record). seen ++ m) (s.2 ∙ ap (λ (m : List Record). s.0 ++ m) t.1) ∙ sym (append_assoc seen s.0 (replicate t.0 opener))), s.3)

  -- what is there to be taken in
  pub lists_behind : (c : Catalog) (p : Pages Record) → p.fate ≢ None → ListsBy opener c p p.fate → (seen more : List Record) × (p.records ≡ seen ++ more) × Lists c seen []
  lists_behind c p told h = go p.fate told h where
    go : (f : Option Bool) → f ≢ None → ListsBy opener c p f → (seen more : List Record) × (p.records ≡ seen ++ more) × Lists c seen []
    go None t l = absurd (t refl)
    go (Some b) t (seen, (n, is), l) = (seen, replicate n opener, is, l)

  -- the catalog of all records
  pub lists_all : (c : Catalog) (p : Pages Record) → p.fate ≢ None → Lists c p.records [] → ListsBy opener c p p.fate
  lists_all c p told h = go p.fate told where
    go : (f : Option Bool) → f ≢ None → ListsBy opener c p f
    go None t = absurd (t refl)
    go (Some b) t = (p.records, (0, sym (append-nil p.records)), h)
