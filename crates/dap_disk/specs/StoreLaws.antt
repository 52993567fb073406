-- What is kept fits its type.
use Rattle.std.proofs.Common.{◌≡◌, inl, inr, ℕ, ◌<◌, ◌^◌, List, length, Some, Vec, sym, ◌∙◌, ap, arith}
use Rattle.std.proofs.lemmas.List.{nil_from_length}
use Rattle.std.proofs.lemmas.Bool.{cases_Bool}
use Rattle.std.specs.declared.alloc.Global.{Global}
use Rattle.dap_disk.specs.declared.event.Event.{Event}
use Rattle.dap_disk.specs.declared.store.Store.{Store}
use Rattle.dap_disk.specs.History.{held_after}

vec_fits : (v : Vec ℕ Global) → length v.items < 2 ^ 64
vec_fits v = (let ok = v.ok in let small = v.small in omega (arith, ok, small))

pub held_fits : (s : Store) (c : List ℕ) → Some (held_after s.first.items s.events.items) ≡ Some c → length c < 2 ^ 64
held_fits s c is =
    let same : held_after s.first.items s.events.items ≡ c = cc is in
    elim (cases_Bool s.live) [
      | inl live ↦ (let size = ap length (s.held live ∙ same) in let fits = vec_fits s.bytes in omega (arith, size, fits))
      | inr not_yet ↦
          (let none = nil_from_length s.events.items (s.empty not_yet) in
          let size = ap length (sym (ap (λ (es : List Event). held_after s.first.items es) none) ∙ same) in
          let fits = vec_fits s.first in omega (arith, size, fits))
    ]
