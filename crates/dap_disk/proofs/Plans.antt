-- Which call of a disk in memory is the next.
use Rattle.std.proofs.Common.{◌≡◌, ℕ, zero, suc, ◌+◌, ◌<◌, ◌^◌, Option, Some, None, Vec, refl, ◌∙◌, ap, arith}
use Rattle.std.specs.declared.alloc.Global.{Global}
use Rattle.dap_disk.specs.declared.image.Image.{Image}
use Rattle.dap_disk.specs.declared.image.Stop.{Stop}
use Rattle.dap_disk.specs.declared.plan.Plan.{Plan}
use Rattle.dap_disk.specs.Plan.{one_more, image_at, new_plan, stopped, next_stop, comes_back, restarted, after_calls, CallsCountFromOne}

stopped_calls : (image : Option Image) (p : Plan) → (stopped image p).calls ≡ p.calls
stopped_calls None p = refl
stopped_calls (Some image) p = refl

stopped_stops : (image : Option Image) (p : Plan) → (stopped image p).stops ≡ p.stops
stopped_stops None p = refl
stopped_stops (Some image) p = refl

made : (n : ℕ) (p : Plan) → p.calls ≡ 0 → n < 2 ^ 64 → (after_calls n p).calls ≡ n
made zero p none lt = none
made (suc n) p none lt =
    let before = made n p none (omega (arith, lt)) in
    let m = after_calls n p in
    stopped_calls (next_stop m) (record m { calls = one_more m.calls }) ∙ (omega (arith, before, lt))

listed : (n : ℕ) (p : Plan) → (after_calls n p).stops ≡ p.stops
listed zero p = refl
listed (suc n) p =
    let m = after_calls n p in
    stopped_stops (next_stop m) (record m { calls = one_more m.calls }) ∙ listed n p

restarted_next : (image : Option Image) (p : Plan) → next_stop (restarted image p) ≡ next_stop p
restarted_next None p = refl
restarted_next (Some image) p = refl

pub calls_count_from_one : CallsCountFromOne
calls_count_from_one = record {
  next = λ stops dead_from n fits.
      let p = new_plan stops dead_from in
      let many = made n p refl (omega (arith, fits)) in
      let next : one_more (after_calls n p).calls ≡ n + 1 = omega (arith, many, fits) in
      ap (λ (s : Vec Stop Global). image_at s.items (one_more (after_calls n p).calls)) (listed n p) ∙ ap (λ (call : ℕ). image_at stops.items call) next;
  restart = λ p. restarted_next (comes_back p) (record p { restarts = one_more p.restarts });
}
