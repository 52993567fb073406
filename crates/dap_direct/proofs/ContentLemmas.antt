-- The contents of a bucket, one report after another.
use Rattle.std.proofs.Common.{◌≡◌, ℕ, ◌+◌, ◌≤◌, List, [], ◌∷◌, ◌++◌, length, Bool, cond, true, false, ◌&&◌, is_none, Option, Some, None, sym, ap, ◌∙◌, arith, append-nil, append_assoc, length-append, ◌<◌}
use Rattle.std.specs.Option.{option_to_list}
use Rattle.vdaf_api.specs.Functions.{Functions}
use Rattle.vdaf_api.specs.declared.kind.Kind.{Kind}
use Rattle.dap_tasks.specs.Task.{PlainTask}
use Rattle.dap_messages.specs.declared.report.Report.{Report}
use Rattle.dap_model.specs.BatchLaws.{batch-few}
use Rattle.dap_model.specs.State.{content_of, contents_in, in_bucket, rejected_in, batch_contents, batch_rejected}
use Rattle.dap_bytes.specs.declared.span.Span.{Span}
use Rattle.dap_bytes.specs.Spans.{bucket_at, buckets_of}
use Rattle.std.specs.List.{flat_map, sum_by}
use Rattle.std.proofs.lemmas.List.{flat_map_more}
use Rattle.std.proofs.lemmas.List.Sums.{sum_by_push}
use Rattle.std.proofs.lemmas.List.FromFn.{map-range_with_len_more}

module _ (f : Kind → Functions) (task : PlainTask) (start : ℕ) where
  -- what a report adds to the contents and to the number of the rejected ones
  abbrev pub adds : Report → List (List ℕ)
  adds a = cond (in_bucket task start a) (option_to_list (content_of f task a)) []

  abbrev pub bars : Report → ℕ
  bars a = cond (in_bucket task start a && is_none (content_of f task a)) 1 0

  pub contents-push : (xs : List Report) (a : Report) → contents_in f task start (xs ++ a ∷ []) ≡ contents_in f task start xs ++ adds a
  contents-push [] a = append-nil (adds a)
  contents-push (x ∷ xs) a = ap (λ l. adds x ++ l) (contents-push xs a) ∙ sym (append_assoc (adds x) (contents_in f task start xs) (adds a))

  pub rejected-push : (xs : List Report) (a : Report) → rejected_in f task start (xs ++ a ∷ []) ≡ rejected_in f task start xs + bars a
  rejected-push [] a = omega arith
  rejected-push (x ∷ xs) a = omega (arith, rejected-push xs a)

  adds_few : (b : Bool) (o : Option (List ℕ)) → length (cond b (option_to_list o) []) ≤ 1
  adds_few true (Some v) = omega arith
  adds_few true None = omega arith
  adds_few false o = omega arith

  pub contents_few : (xs : List Report) → length (contents_in f task start xs) ≤ length xs
  contents_few [] = omega arith
  contents_few (x ∷ xs) =
      omega (arith, length-append (adds x) (contents_in f task start xs), adds_few (in_bucket task start x) (content_of f task x), contents_few xs)

  bars_few : (b : Bool) → cond b 1 0 ≤ 1
  bars_few true = omega arith
  bars_few false = omega arith

  pub rejected_few : (xs : List Report) → rejected_in f task start xs ≤ length xs
  rejected_few [] = omega arith
  rejected_few (x ∷ xs) = omega (arith, bars_few (in_bucket task start x && is_none (content_of f task x)), rejected_few xs)

-- ---- a batch, one bucket after the other

-- the first buckets of a batch
abbrev pub first_of : Span → ℕ → Span
first_of span n = record { start = span.start; buckets = n }

module _ (f : Kind → Functions) (task : PlainTask) (span : Span) (accepted : List Report) where
  starts-more : (n : ℕ) → buckets_of (first_of span (n + 1)) task.precision ≡ buckets_of (first_of span n) task.precision ++ bucket_at span task.precision n ∷ []
  starts-more n = map-range_with_len_more (bucket_at span task.precision) 0 n n (omega arith)

  pub batch_contents-more : (n : ℕ)
      → batch_contents f task (first_of span n) accepted ++ contents_in f task (bucket_at span task.precision n) accepted ≡ batch_contents f task (first_of span (n + 1)) accepted
  batch_contents-more n =
      let own : ℕ → List (List ℕ) = λ start. contents_in f task start accepted in
      flat_map_more own [] (buckets_of (first_of span n) task.precision) (bucket_at span task.precision n) ∙ ap (flat_map own) (sym (starts-more n))

  pub batch_rejected-more : (n : ℕ)
      → batch_rejected f task (first_of span n) accepted + rejected_in f task (bucket_at span task.precision n) accepted ≡ batch_rejected f task (first_of span (n + 1)) accepted
  batch_rejected-more n =
      let own : ℕ → ℕ = λ start. rejected_in f task start accepted in
      sym (sum_by_push own (buckets_of (first_of span n) task.precision) (bucket_at span task.precision n)) ∙ ap (sum_by own) (sym (starts-more n))

  -- the first buckets and one more have no more reports than there are
  pub more-few : (n : ℕ) → 0 < task.precision
      → length (batch_contents f task (first_of span n) accepted) + length (contents_in f task (bucket_at span task.precision n) accepted)
      + (batch_rejected f task (first_of span n) accepted + rejected_in f task (bucket_at span task.precision n) accepted) ≤ length accepted
  more-few n some =
      omega (
        arith,
        batch-few f task (first_of span (n + 1)) accepted some,
        batch_rejected-more n,
        ap (λ (l : List (List ℕ)). length l) (batch_contents-more n),
        length-append (batch_contents f task (first_of span n) accepted) (contents_in f task (bucket_at span task.precision n) accepted),
      )
