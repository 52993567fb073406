-- Lemmas: numbers of what was told in two parts.
use Rattle.std.proofs.Common.{◌≡◌, ℕ, ◌+◌, List, [], ◌∷◌, ◌++◌, length, Option, Some, None, refl, sym, ap, ◌∙◌}
use Rattle.std.proofs.lemmas.List.Elements.{filter_map-append}
use Rattle.std.proofs.Math.ListN.{length-append}
use Rattle.dap_batch.specs.Checksum.{checksum_of, xor_bytes}
use Rattle.dap_batch.specs.ChecksumLaws.{checksum_of-append}
use Rattle.dap_messages.specs.declared.item.Tagged.{Tagged}
use Rattle.lane_records.specs.declared.outcome.Outcome.{Outcome}
use Rattle.legal_journals.specs.Told.{failed_ids, finished_ids, if_failed, if_finished, share_of, shares}
use Rattle.vdaf_api.specs.declared.space.Space.{Space}
use Rattle.vdaf_api.specs.Vectors.{plus, vector, zero_share, SpaceLaws}
use Rattle.vdaf_api.specs.Totals.{total}
use Rattle.vdaf_api.specs.SumLaws.{plus_assoc, plus_comm, plus-none, plus-zero, vector-empty, vector-plus, vector-zero}

pub finished-append : (told more : List (Tagged Outcome)) → finished_ids (told ++ more) ≡ finished_ids told ++ finished_ids more
finished-append told more = filter_map-append (λ (o : Tagged Outcome). if_finished o.id o.body) told more

pub failed-append : (told more : List (Tagged Outcome)) → failed_ids (told ++ more) ≡ failed_ids told ++ failed_ids more
failed-append told more = filter_map-append (λ (o : Tagged Outcome). if_failed o.id o.body) told more

pub finished-count : (told more : List (Tagged Outcome)) → length (finished_ids (told ++ more)) ≡ length (finished_ids told) + length (finished_ids more)
finished-count told more = ap length (finished-append told more) ∙ length-append (finished_ids told) (finished_ids more)

pub failed-count : (told more : List (Tagged Outcome)) → length (failed_ids (told ++ more)) ≡ length (failed_ids told) + length (failed_ids more)
failed-count told more = ap length (failed-append told more) ∙ length-append (failed_ids told) (failed_ids more)

pub finished-checksum : (told more : List (Tagged Outcome)) → checksum_of (finished_ids (told ++ more)) ≡ xor_bytes (checksum_of (finished_ids told)) (checksum_of (finished_ids more))
finished-checksum told more = ap checksum_of (finished-append told more) ∙ checksum_of-append (finished_ids told) (finished_ids more)

-- noughts change no sum, also one of which a part is no out share
zero-total : {s : Space} → SpaceLaws s → (xs : List (List ℕ)) → plus s (zero_share s) (total s xs) ≡ total s xs
zero-total {s} laws [] = plus-zero laws (zero_share s) _ (vector-zero laws)
zero-total {s} laws (x ∷ xs) = go (vector s x) (vector s (total s xs)) refl refl
  where
    no_sum : plus s x (total s xs) ≡ [] → plus s (zero_share s) (plus s x (total s xs)) ≡ plus s x (total s xs)
    no_sum e = ap (plus s (zero_share s)) e ∙ plus_comm s (zero_share s) [] ∙ plus-none s [] (zero_share s) (vector-empty laws) ∙ sym e

    go : (o q : Option (List ℕ)) → vector s x ≡ o → vector s (total s xs) ≡ q → plus s (zero_share s) (plus s x (total s xs)) ≡ plus s x (total s xs)
    go None q e f = no_sum (plus-none s x (total s xs) e)
    go (Some a) None e f = no_sum (plus_comm s x (total s xs) ∙ plus-none s (total s xs) x f)
    go (Some a) (Some b) e f = plus-zero laws (plus s x (total s xs)) _ (vector-plus laws x (total s xs) a b e f)

total-append : {s : Space} → SpaceLaws s → (xs ys : List (List ℕ)) → total s (xs ++ ys) ≡ plus s (total s xs) (total s ys)
total-append laws [] ys = sym (zero-total laws ys)
total-append {s} laws (x ∷ xs) ys = ap (plus s x) (total-append laws xs ys) ∙ sym (plus_assoc laws x (total s xs) (total s ys))

pub share-append : {s : Space} → SpaceLaws s → (told more : List (Tagged Outcome)) → total s (shares (told ++ more)) ≡ plus s (total s (shares told)) (total s (shares more))
share-append {s} laws told more =
    ap (total s) (filter_map-append (λ (o : Tagged Outcome). share_of o.body) told more) ∙ total-append laws (shares told) (shares more)
