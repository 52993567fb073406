-- What the two ends of a ring know after two looks.
use Rattle.std.proofs.Common.{◌≡◌, ◌≤◌, arith, ◌∙◌}
use Rattle.std.specs.declared.alloc.Global.{Global}
use mathlib.Core.List.{IsPrefix}
use Rattle.rtrb.specs.declared.consumer.Consumer.{Consumer}
use Rattle.rtrb.specs.declared.producer.Producer.{Producer}
use Rattle.rtrb.specs.Ring.{ConsumerLooked, ProducerLooked, received, known_items, sent, known_free}
use Rattle.dap_wire.specs.Ring.{in_ring, out_ring}
use Rattle.dap_wire.specs.KeptLaws.{IsPrefix-trans}

pub looked_twice : {T P : Type 0} (a b d : Consumer T Global P) → ConsumerLooked a b → ConsumerLooked b d
    → (in_ring d ≡ in_ring a) × (received d ≡ received a) × IsPrefix (known_items a) (known_items d)
looked_twice a b d p q = (
  cc (p.0.0.0, p.0.0.1, p.0.0.2, q.0.0.0, q.0.0.1, q.0.0.2),
  q.1 ∙ p.1,
  IsPrefix-trans (known_items a) (known_items b) (known_items d) p.2 q.2,
)

pub put_twice : {T P : Type 0} (a b d : Producer T Global P) → ProducerLooked a b → ProducerLooked b d
    → (out_ring d ≡ out_ring a) × (sent d ≡ sent a) × (known_free a ≤ known_free d)
put_twice a b d p q = (
  cc (p.0.0.0, p.0.0.1, p.0.0.2, q.0.0.0, q.0.0.1, q.0.0.2),
  q.1 ∙ p.1,
  (let x = p.2 in let y = q.2 in omega arith),
)
