-- The two texts of a collection of one bucket.
use Rattle.std.proofs.Common.{◌≡◌, ◌⊎◌, ℕ, List, [], ◌∷◌, ◌++◌, codes, Some, refl, ap, ◌∙◌, inl, inr, arith}
use Rattle.std.specs.Fmt.{decimal}
use Rattle.std.specs.List.{join_with_byte}
use Rattle.dap_bytes.specs.Spans.{one_bucket}
use Rattle.dap_script.proofs.LineLaws.{line_of-spelled, line_spelled}
use Rattle.dap_script.specs.Line.{line_of}
use Rattle.dap_script.specs.Spelling.{AreWordsOf, CollectsOne, IsWritten, SpellsLine, words_of}
use Rattle.dap_script.specs.declared.line.Line.TheVariants.{Collect}

pub one-collected : (text name : List ℕ) (start : ℕ) → line_of text ≡ Some (Collect name (one_bucket start)) → CollectsOne text name start
one-collected text name start e = by (line_spelled text (Collect name (one_bucket start)) e) where
  by : SpellsLine text (Collect name (one_bucket start)) → CollectsOne text name start
  by (inl w) = record { is_name = w.in_range.0; is_time = w.in_range.1; with_or_without = words w.are_words } where
    words : AreWordsOf w.words (Collect name (one_bucket start))
        → (text ≡ join_with_byte 32 (codes "collect" ∷ name ∷ decimal start ∷ []))
        ⊎ (text ≡ join_with_byte 32 (codes "collect" ∷ name ∷ decimal start ∷ codes "1" ∷ []))
    words (inl same) = inl (w.joined ∙ ap (join_with_byte 32) same)
    words (inr one) = inr (w.joined ∙ ap (join_with_byte 32) one.with_one)
  by (inr comment) = cc comment.0

pub one-read : (text name : List ℕ) (start : ℕ) → CollectsOne text name start → line_of text ≡ Some (Collect name (one_bucket start))
one-read text name start c = line_of-spelled text (Collect name (one_bucket start)) (inl (by c.with_or_without)) where
  by : (text ≡ join_with_byte 32 (codes "collect" ∷ name ∷ decimal start ∷ []))
      ⊎ (text ≡ join_with_byte 32 (codes "collect" ∷ name ∷ decimal start ∷ codes "1" ∷ []))
      → IsWritten text (Collect name (one_bucket start))
  by (inl without) = record {
    words = words_of (Collect name (one_bucket start));
    are_words = inl refl;
    joined = without;
    in_range = (c.is_name, c.is_time, (omega arith, omega arith));
  }
  by (inr with_one) = record {
    words = words_of (Collect name (one_bucket start)) ++ codes "1" ∷ [];
    are_words = inr (record { name = name; start = start; collects = refl; with_one = refl });
    joined = with_one;
    in_range = (c.is_name, c.is_time, (omega arith, omega arith));
  }
