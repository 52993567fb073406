-- Lemmas: the sizes of a vector keep the laws of grammars.
use Rattle.std.proofs.Common.{◌≡◌, ℕ, ◌*◌, ◌≤◌, true, ◌&&◌, ◌++◌, length, Ok, refl, subst, ◌∙◌, append_assoc, arith, lit≤}
use Rattle.std.specs.Prelude.{nat_le}
use Rattle.std.proofs.lemmas.List.{length-append}
use Rattle.dap_bytes.specs.Cursor.{Reading, rest_of}
use Rattle.vdaf_api.specs.declared.kind.TheConstants.{MOST_INPUT, MOST_NUMBER_BITS, MOST_NUMBERS}
use Rattle.dap_messages.specs.Grammar.{Grammar, ◌>>=◌, byte}
use Rattle.dap_messages.specs.Lawful.{Lawful, Takes, further}
use Rattle.dap_messages.specs.Laws.{Takes-then, input_stays, further-then, rest_further, bind_ok, ok_is, and_parts, both_true, byte_lawful}
use Rattle.dap_messages.specs.FormLaws.{u16_lawful}
use Rattle.lane_records.specs.BoundsLaws.{restricted_lawful}
use Rattle.lane_records.specs.Sizes.{followed, vector_bits, vector_len, sizes}

followed_lawful : {A B : Type 0} (g : Grammar A) (h : A → Grammar B) (longest : ℕ) → Lawful g → ((x : A) → Lawful (h x)) → ((x : A) → (h x).most ≤ longest) → Lawful (followed g h longest)
followed_lawful {A} {B} g h longest lg lh few = record {
  takes = λ r p s i e.
      let a = bind_ok (g.read r) (λ x. (h x.0).read x.1 >>= λ y. Ok ((x.0, y.0), y.1)) (p, s) e in
      let b = bind_ok ((h a.0.0).read a.0.1) (λ y. Ok ((a.0.0, y.0), y.1)) (p, s) a.2 in
      let first = lg.takes r a.0.0 a.0.1 i a.1 in
      let second = (lh a.0.0).takes a.0.1 b.0.0 b.0.1 (input_stays r (g.spell a.0.0) a.0.1 i first.0) b.1 in
      let made : (A × B) × Reading = ((a.0.0, b.0.0), b.0.1) in
      subst (λ (q : (A × B) × Reading). Takes r (g.spell q.0.0 ++ (h q.0.0).spell q.0.1) q.1 × ((g.allowed q.0.0 && (h q.0.0).allowed q.0.1) ≡ true)) (ok_is made (p, s) b.2)
      (Takes-then r (g.spell a.0.0) a.0.1 ((h a.0.0).spell b.0.0) b.0.1 first.0 second.0, both_true (g.allowed a.0.0) ((h a.0.0).allowed b.0.0) first.1 second.1);
  again = λ p r rest a e.
      let parts = and_parts (g.allowed p.0) ((h p.0).allowed p.1) a in
      let whole_is : rest_of r ≡ g.spell p.0 ++ ((h p.0).spell p.1 ++ rest) = e ∙ append_assoc (g.spell p.0) ((h p.0).spell p.1) rest in
      let first = lg.again p.0 r ((h p.0).spell p.1 ++ rest) parts.0 whole_is in
      let second = (lh p.0).again p.1 (further (length (g.spell p.0)) r) rest parts.1 (rest_further r (g.spell p.0) ((h p.0).spell p.1 ++ rest) whole_is) in
      rw (first, second, further-then r (g.spell p.0) ((h p.0).spell p.1)) refl;
  within = λ p a.
      let parts = and_parts (g.allowed p.0) ((h p.0).allowed p.1) a in
      omega (arith, length-append (g.spell p.0) ((h p.0).spell p.1), lg.within p.0 parts.0, (lh p.0).within p.1 parts.1, few p.0);
}

bits_lawful : (n : ℕ) → Lawful (vector_bits n)
bits_lawful n = restricted_lawful (λ b. nat_le (n * b) MOST_INPUT) (byte 1 MOST_NUMBER_BITS) (byte_lawful 1 MOST_NUMBER_BITS)

pub sizes_lawful : Lawful sizes
sizes_lawful = followed_lawful vector_len vector_bits 1 (u16_lawful 1 MOST_NUMBERS (lit≤ tt)) bits_lawful (λ n. lit≤ tt)
