-- What is kept of a batch, by the entries of the ordered map.
use Rattle.std.proofs.Common.{◌≡◌, ℕ, List, Bool, true, false, Option, Some, None, Result, Ok, Err, OnOk, OnErr, IsSome, cond, inl, inr, ◌⊎◌, sym, ap, ◌∙◌, refl, subst}
use Rattle.std.specs.Prelude.{unwrap_or}
use Rattle.std.specs.Ordering.{nat_cmp, is_eq}
use Rattle.std.specs.declared.cmp.Ordering.{Ordering}
use Rattle.std.specs.declared.cmp.Ordering.TheVariants.{Less, Equal, Greater}
use Rattle.std.specs.Cmp.{IsTotalOrder, nat_cmp_total, tied_itself}
use Rattle.std.specs.Cmp.Lexicographic.{slice_cmp, nat_list_cmp_total}
use Rattle.std.specs.Map.{lookup, set_value}
use Rattle.std.proofs.lemmas.Map.Steps.{set_value_same}
use Rattle.std.specs.BTreeMap.{BTreeMap}
use Rattle.std.specs.FinMap as map
use Rattle.dap_batch.specs.MapLaws.{pair-same, pair-total, get-lookup, inserted}
use Rattle.batch_shards.specs.declared.bucket.Bucket.{Bucket}
use Rattle.batch_shards.specs.declared.bucket.BucketFault.{BucketFault}
use Rattle.batch_shards.specs.declared.bucket.BucketFault.TheVariants.{Closed, NoMemory}
use Rattle.field_laws.specs.Vector.{add_each}
use Rattle.vdaf_api.specs.declared.space.Space.{Space}
use Rattle.vdaf_api.specs.Vectors.{SpaceLaws, IsOut}
use Rattle.vdaf_api.specs.SumLaws.{vector-plus}
use Rattle.batch_shards.specs.Bucket.{nothing, closed_for_good, sum_with, IsSum, Opens}
use Rattle.batch_shards.specs.Batches.{Batch, Kept, batch_order, bucket_of, changed}

pub batch_order-total : IsTotalOrder batch_order
batch_order-total = pair-total nat_list_cmp_total nat_cmp_total

pub batch_order-same : map.IsAntisymmetric batch_order
batch_order-same = pair-same (slice_cmp nat_cmp) nat_cmp (map.slice_cmp-IsAntisymmetric map.nat_cmp-IsAntisymmetric) map.nat_cmp-IsAntisymmetric

abbrev pub Entries : Type 0
Entries = List (Batch × Bucket)

-- what the entries have of a batch
abbrev pub entry_of : Entries → List ℕ → ℕ → Option Bucket
entry_of es name start = lookup (λ k. is_eq (batch_order (name, start) k)) es

kept-get : (es : Entries) (kept : Kept) (name : List ℕ) (start : ℕ) → map.from_entries es ≡ kept → map.get kept (name, start) ≡ entry_of es name start
kept-get es kept name start is = ap (λ m. map.get m (name, start)) (sym is) ∙ get-lookup batch_order-total (name, start) es

pub held : (es : Entries) (kept : Kept) (name : List ℕ) (start : ℕ) (b : Bucket) → map.from_entries es ≡ kept → Some b ≡ entry_of es name start
    → bucket_of kept name start ≡ b
held es kept name start b is found = ap (λ o. unwrap_or o nothing) (kept-get es kept name start is ∙ sym found)

pub not_held : (es : Entries) (kept : Kept) (name : List ℕ) (start : ℕ) → map.from_entries es ≡ kept → None ≡ entry_of es name start
    → bucket_of kept name start ≡ nothing
not_held es kept name start is none = ap (λ o. unwrap_or o nothing) (kept-get es kept name start is ∙ sym none)

pub absent : (es : Entries) (kept : Kept) (name : List ℕ) (start : ℕ) → map.from_entries es ≡ kept → None ≡ entry_of es name start
    → map.get kept (name, start) ≡ None
absent es kept name start is none = kept-get es kept name start is ∙ sym none

-- a map from which nothing was lent is as it was
pub not_lent : (m n : BTreeMap Batch Bucket) (kept : Kept) → n ≡ m → map.from_entries m.entries ≡ kept → map.from_entries {R = batch_order} n.entries ≡ kept
not_lent m n kept same is = ap (λ (x : BTreeMap Batch Bucket). map.from_entries {R = batch_order} x.entries) same ∙ is

-- the batches after one of them is changed in its place
pub written : (es after : Entries) (kept : Kept) (name : List ℕ) (start : ℕ) (b : Bucket) → map.from_entries es ≡ kept
    → ((q : Batch) → lookup (λ k. is_eq (batch_order q k)) after ≡ cond (is_eq (batch_order (name, start) q)) (Some b) (lookup (λ k. is_eq (batch_order q k)) es))
    → map.from_entries after ≡ changed kept name start b
written es after kept name start b is updates =
    inserted batch_order-total batch_order-same es after (name, start) b updates ∙ ap (λ m. changed m name start b) is

-- and where what was there is changed by a function
pub changed_by : (f : Bucket → Bucket) (es after : Entries) (kept : Kept) (name : List ℕ) (start : ℕ) (b c : Bucket) → map.from_entries es ≡ kept → Some b ≡ entry_of es name start
    → ((q : Batch) → lookup (λ k. is_eq (batch_order q k)) after ≡ cond (is_eq (batch_order (name, start) q)) (Some c) (lookup (λ k. is_eq (batch_order q k)) es))
    → c ≡ f b → map.from_entries after ≡ changed kept name start (f (bucket_of kept name start))
changed_by f es after kept name start b c is found updates by =
    written es after kept name start c is updates ∙ ap (changed kept name start) (by ∙ ap f (sym (held es kept name start b is found)))

-- and where it was written as it was
pub rewritten : (es after : Entries) (kept : Kept) (name : List ℕ) (start : ℕ) (b c : Bucket) → map.from_entries es ≡ kept → Some b ≡ entry_of es name start
    → after ≡ set_value (λ k. is_eq (batch_order (name, start) k)) es c → c ≡ b → map.from_entries after ≡ kept
rewritten es after kept name start b c is found wrote same =
    let test : Batch → Bool = λ k. is_eq (batch_order (name, start) k) in
    ap map.from_entries (wrote ∙ ap (set_value test es) same ∙ set_value_same test es b (sym found)) ∙ is

pub some-found : (o : Option Bucket) (b : Bucket) → Some b ≡ o → IsSome o
some-found o b e = subst IsSome e refl

pub on-ok : {E P Q : Type 0} (r : Result (Unit {0}) E) → (P → Q) → OnOk r P → OnOk r Q
on-ok (Ok done) f p = f p
on-ok (Err fault) f p = tt

pub on-err : {E P Q : Type 0} (r : Result (Unit {0}) E) → (P → Q) → OnErr r P → OnErr r Q
on-err (Ok done) f p = tt
on-err (Err fault) f p = f p

pub on-any : {E P : Type 0} (r : Result (Unit {0}) E) → P → OnErr r P
on-any (Ok done) p = tt
on-any (Err fault) p = p

-- a new bucket isn't closed
pub opens-new : (r : Result (Unit {0}) BucketFault) (b : Bucket) → b ≡ nothing → (r ≡ Err Closed → ⊥) → Opens r b.closed
opens-new r b is never = subst (λ (x : Bucket). Opens r x.closed) (sym is) (go r never)
  where
    go : (r : Result (Unit {0}) BucketFault) → (r ≡ Err Closed → ⊥) → Opens r false
    go (Ok done) h = refl
    go (Err Closed) h = absurd (h refl)
    go (Err NoMemory) h = refl

pub closed_for_good-same : (b : Bucket) → b.closed ≡ true → closed_for_good b ≡ b
closed_for_good-same b e = let k = sym e in λ i. record { reports = b.reports; rejected = b.rejected; checksum = b.checksum; sum = b.sum; closed = k i }

pub not_closed : (b : Bucket) → b ≡ nothing → b.closed ≡ true → ⊥
not_closed b is e = let k : false ≡ true = sym (ap (λ (x : Bucket). x.closed) is) ∙ e in cc

-- a sum with one out share more is an out share
pub sum-out : {s : Space} → SpaceLaws s → (sum : Option (List ℕ)) (out : List ℕ) → IsSum s sum → IsOut s out → IsSum s (sum_with s sum out)
sum-out laws None out held is = is
sum-out {s} laws (Some sum) out held is = (add_each s.modulus held.0 is.0, vector-plus laws sum out held.0 is.0 held.1 is.1)

pub bucket_of-changed : (kept : Kept) (name : List ℕ) (start : ℕ) (b : Bucket) → bucket_of (changed kept name start b) name start ≡ b
bucket_of-changed kept name start b =
    let key : Batch = (name, start) in
    ap (λ o. unwrap_or o nothing)
    (map.get-insert batch_order-total kept key b key ∙ ap (λ (r : Ordering). cond (is_eq r) (Some b) (map.get kept key)) (tied_itself batch_order-total key))

pub bucket_of-other : (kept : Kept) (name other : List ℕ) (start later : ℕ) (b : Bucket) → ((name ≡ other → ⊥) ⊎ (start ≡ later → ⊥))
    → bucket_of (changed kept name start b) other later ≡ bucket_of kept other later
bucket_of-other kept name other start later b apart =
    ap (λ o. unwrap_or o nothing) (map.get-insert batch_order-total kept (name, start) b (other, later) ∙ go (batch_order (other, later) (name, start)) refl)
  where
    differ : ((name ≡ other → ⊥) ⊎ (start ≡ later → ⊥)) → ◌≡◌ {A = Batch} (other, later) (name, start) → ⊥
    differ (inl names) e = names (sym (ap (λ (x : Batch). x.0) e))
    differ (inr starts) e = starts (sym (ap (λ (x : Batch). x.1) e))

    go : (r : Ordering) → batch_order (other, later) (name, start) ≡ r → cond (is_eq r) (Some b) (map.get kept (other, later)) ≡ map.get kept (other, later)
    go Less e = refl
    go Equal e = absurd (differ apart (batch_order-same (other, later) (name, start) e))
    go Greater e = refl

-- a sum is an out share after a bucket was kept or wasn't
pub kept-out : (s : Space) (r : Result (Unit {0}) BucketFault) (kept new : Kept) (name : List ℕ) (start : ℕ) (b : Bucket)
    → OnOk r (new ≡ changed kept name start b) → OnErr r (new ≡ kept) → IsSum s b.sum → IsSum s (bucket_of kept name start).sum → IsSum s (bucket_of new name start).sum
kept-out s (Ok done) kept new name start b ok err one old =
    subst (λ (x : Bucket). IsSum s x.sum) (sym (ap (λ m. bucket_of m name start) ok ∙ bucket_of-changed kept name start b)) one
kept-out s (Err fault) kept new name start b ok err one old = subst (λ (m : Kept). IsSum s (bucket_of m name start).sum) (sym err) old

pub bucket_of-empty : (name : List ℕ) (start : ℕ) → bucket_of map.empty name start ≡ nothing
bucket_of-empty name start = ap (λ o. unwrap_or o nothing) (map.get-empty batch_order (name, start))

-- a change that keeps the sum
pub kept-sum : {E : Type 0} (r : Result (Unit {0}) E) (kept new : Kept) (name : List ℕ) (start : ℕ) (b : Bucket)
    → OnOk r (new ≡ changed kept name start b) → OnErr r (new ≡ kept) → b.sum ≡ (bucket_of kept name start).sum → (bucket_of new name start).sum ≡ (bucket_of kept name start).sum
kept-sum (Ok done) kept new name start b ok err same = ap (λ (m : Kept). (bucket_of m name start).sum) ok ∙ ap (λ (x : Bucket). x.sum) (bucket_of-changed kept name start b) ∙ same
kept-sum (Err fault) kept new name start b ok err same = ap (λ (m : Kept). (bucket_of m name start).sum) err
