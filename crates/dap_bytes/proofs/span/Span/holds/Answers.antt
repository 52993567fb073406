use Rattle.std.proofs.Common.{rules, nat_eq, ◌∙◌, refl, arith}
use Rattle.std.proofs.lemmas.Iterator.{YieldsList-from_range}
use Rattle.std.proofs.lemmas.Iterator.Search.{any_from_yields_List}
use Rattle.std.specs.List.{range_with_len}
use Rattle.dap_bytes.specs.SpanLaws.{holds_bucket-numbers}
use Rattle.dap_bytes.specs.Spans.{bucket_at}
use Rattle.dap_bytes.proofs.span.Span.holds.Goals as goal

pub returns : goal.returns
returns c =
    let span = c.args.self.now in
    any_from_yields_List (λ i. nat_eq c.args.start (bucket_at span c.args.precision i)) _ _ c.any.result c.any.ensures.ran
    (YieldsList-from_range 0 span.buckets span.buckets refl (omega arith)) (λ x b q k. search (rules))
    ∙ holds_bucket-numbers span c.args.precision c.args.start
