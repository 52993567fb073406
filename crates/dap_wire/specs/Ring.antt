-- Which ring an end is the end of.
use Rattle.std.specs.Prelude.{ℕ, refl}
use Rattle.std.specs.Coded.{Coded, code_by, coded×, coded_ℕ}
use denote.RawPtr.{Ptr, coded_ptr}
use Rattle.rtrb.specs.declared.producer.Producer.{Producer}
use Rattle.rtrb.specs.declared.consumer.Consumer.{Consumer}

-- a ring by the places of its memory and its names: two ends with the same `Ring` are the ends of one ring
pub record Ring : Type 0 where
  pub words : Ptr
  pub slots : Ptr
  pub names : ℕ × (ℕ × ℕ)

-- a ring is stored as the tuple of its fields
abbrev pub ring_code : Coded Ring
ring_code =
    code_by (Ptr × (Ptr × (ℕ × (ℕ × ℕ)))) (coded× coded_ptr (coded× coded_ptr (coded× coded_ℕ (coded× coded_ℕ coded_ℕ))))
    (λ r. (r.words, (r.slots, r.names)))
    (λ p. record { words = p.0; slots = p.1.0; names = p.1.1 })
    (λ _. refl)

module _ {T A P : Type 0} where
  -- the ring that a producer pushes into
  abbrev pub out_ring : Producer T A P → Ring
  out_ring p = record { words = p.end.words; slots = p.end.slots; names = p.end.names }

  -- the ring that a consumer pops from
  abbrev pub in_ring : Consumer T A P → Ring
  in_ring c = record { words = c.end.words; slots = c.end.slots; names = c.end.names }
