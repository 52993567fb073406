-- A batch as the list of its reports.
use Rattle.std.proofs.Common.{◌≡◌, ℕ, ◌+◌, List, [], ◌∷◌, ◌++◌, length, Bool, Some, sym, ap, ◌∙◌, refl, arith}
use Rattle.std.specs.Prelude.{min}
use Rattle.std.proofs.lemmas.List.{map-append}
use Rattle.std.proofs.Math.ListN.{length-append}
use Rattle.sha2.specs.Sha256.{sha256}
use Rattle.dap_batch.specs.Checksum.{checksum_of, xor_bytes}
use Rattle.dap_batch.specs.ChecksumLaws.{checksum_of-push, checksum_of-middle}
use Rattle.vdaf_api.specs.declared.space.Space.{Space}
use Rattle.vdaf_api.specs.Vectors.{SpaceLaws, IsOut, plus, zero_share}
use Rattle.vdaf_api.specs.Totals.{total}
use Rattle.vdaf_api.specs.SumLaws.{plus_comm, plus_assoc, plus-zero}
use Rattle.batch_shards.specs.Bucket.{most, one_more, sum_with, sum_or_zero, with_report}
use Rattle.batch_shards.specs.Reports.{Report, ids, outs, sum_of, tally}

one_more-min : (n : ℕ) → one_more (min n most) ≡ min (n + 1) most
one_more-min n = omega arith

total-push : {s : Space} → SpaceLaws s → (xs : List (List ℕ)) (y : List ℕ) → total s (xs ++ y ∷ []) ≡ plus s (total s xs) y
total-push {s} laws [] y = plus_comm s y (zero_share s)
total-push {s} laws (x ∷ xs) y = ap (plus s x) (total-push laws xs y) ∙ sym (plus_assoc laws x (total s xs) y)

total-one : {s : Space} → SpaceLaws s → (y : List ℕ) → IsOut s y → total s (y ∷ []) ≡ y
total-one {s} laws y out = plus_comm s y (zero_share s) ∙ plus-zero laws y out.0 out.1

sum_of-push : {s : Space} → SpaceLaws s → (xs : List (List ℕ)) (y : List ℕ) → IsOut s y → sum_with s (sum_of s xs) y ≡ sum_of s (xs ++ y ∷ [])
sum_of-push laws [] y out = ap Some (sym (total-one laws y out))
sum_of-push laws (x ∷ xs) y out = ap Some (sym (total-push laws (x ∷ xs) y))

pub tally-push : {s : Space} → SpaceLaws s → (rs : List Report) (rejected : ℕ) (closed : Bool) (r : Report) → IsOut s r.out
    → with_report s r.id r.out (tally s rs rejected closed) ≡ tally s (rs ++ r ∷ []) rejected closed
tally-push {s} laws rs rejected closed r out =
    let count : one_more (min (length rs) most) ≡ min (length (rs ++ r ∷ [])) most = one_more-min (length rs) ∙ ap (λ n. min n most) (sym (length-append rs (r ∷ []))) in
    let checksum : xor_bytes (checksum_of (ids rs)) (sha256 r.id) ≡ checksum_of (ids (rs ++ r ∷ [])) =
    sym (checksum_of-push (ids rs) r.id) ∙ ap checksum_of (sym (map-append (λ (x : Report). x.id) rs (r ∷ []))) in
    let sum : sum_with s (sum_of s (outs rs)) r.out ≡ sum_of s (outs (rs ++ r ∷ [])) =
    sum_of-push laws (outs rs) r.out out ∙ ap (sum_of s) (sym (map-append (λ (x : Report). x.out) rs (r ∷ []))) in
    λ i. record { reports = count i; rejected = min rejected most; checksum = checksum i; sum = sum i; closed = closed }

pub sum_of-total : (s : Space) (xs : List (List ℕ)) → sum_or_zero s (sum_of s xs) ≡ total s xs
sum_of-total s [] = refl
sum_of-total s (x ∷ xs) = refl

swapped : {s : Space} → SpaceLaws s → (a b c : List ℕ) → plus s a (plus s b c) ≡ plus s b (plus s a c)
swapped {s} laws a b c = sym (plus_assoc laws a b c) ∙ ap (λ l. plus s l c) (plus_comm s a b) ∙ plus_assoc laws b a c

total-middle : {s : Space} → SpaceLaws s → (x : List ℕ) (before after : List (List ℕ)) → total s (before ++ x ∷ after) ≡ total s (x ∷ (before ++ after))
total-middle laws x [] after = refl
total-middle {s} laws x (y ∷ before) after = ap (plus s y) (total-middle laws x before after) ∙ swapped laws y x (total s (before ++ after))

sum_of-middle : {s : Space} → SpaceLaws s → (x : List ℕ) (before after : List (List ℕ)) → sum_of s (before ++ x ∷ after) ≡ sum_of s (x ∷ (before ++ after))
sum_of-middle laws x [] after = refl
sum_of-middle laws x (y ∷ before) after = ap Some (total-middle laws x (y ∷ before) after)

pub tally-middle : {s : Space} → SpaceLaws s → (before after : List Report) (r : Report) (rejected : ℕ) (closed : Bool)
    → tally s (before ++ r ∷ after) rejected closed ≡ tally s (r ∷ (before ++ after)) rejected closed
tally-middle {s} laws before after r rejected closed =
    let long : length (before ++ r ∷ after) ≡ length (r ∷ (before ++ after)) = omega (arith, length-append before (r ∷ after), length-append before after) in
    let count = ap (λ n. min n most) long in
    let checksum : checksum_of (ids (before ++ r ∷ after)) ≡ checksum_of (ids (r ∷ (before ++ after))) =
    ap checksum_of (map-append (λ (x : Report). x.id) before (r ∷ after)) ∙ checksum_of-middle r.id (ids before) (ids after)
    ∙ ap (λ l. checksum_of (r.id ∷ l)) (sym (map-append (λ (x : Report). x.id) before after)) in
    let sum : sum_of s (outs (before ++ r ∷ after)) ≡ sum_of s (outs (r ∷ (before ++ after))) =
    ap (sum_of s) (map-append (λ (x : Report). x.out) before (r ∷ after)) ∙ sum_of-middle laws r.out (outs before) (outs after)
    ∙ ap (λ l. sum_of s (r.out ∷ l)) (sym (map-append (λ (x : Report). x.out) before after)) in
    λ i. record { reports = count i; rejected = min rejected most; checksum = checksum i; sum = sum i; closed = closed }
