use Rattle.std.proofs.Common.{ℕ, List, [], ◌∷◌, ◌++◌, subst, sym, arith}
use Rattle.std.specs.Prelude.{map}
use Rattle.std.specs.List.{IsDistinct}
use Rattle.std.specs.Str.{bytes_eq}
use Rattle.std.proofs.lemmas.List.Elements.{All-from_recursion}
use Rattle.dap_bytes.specs.Spans.{one_bucket}
use Rattle.dap_script.specs.Spelling.{IsInRange}
use Rattle.dap_script.specs.declared.line.Line.TheVariants.{Collect}
use Rattle.dap_tasks.specs.Task.{PlainTask}
use Rattle.dap_direct.proofs.tests.collected.Goals as goal

no_name : IsDistinct bytes_eq []
unfolding IsDistinct
no_name = tt

one_name : (name : List ℕ) → IsDistinct bytes_eq (name ∷ [])
unfolding IsDistinct
one_name name = (tt, tt)

pub printed_text-requires-clause-script : goal.printed_text-requires-clause-script
printed_text-requires-clause-script c = record {
  in_range = All-from_recursion IsInRange (Collect c.given.inside.name (one_bucket 0) ∷ [])
      ((c.as_bytes-bytes.ensures.name, omega arith, (omega arith, omega arith)), tt);
  distinct = no_name;
}

pub printed_text-requires-clause-names : goal.printed_text-requires-clause-names
printed_text-requires-clause-names c =
    subst (λ (ts : List PlainTask). IsDistinct bytes_eq (map (λ (task : PlainTask). task.name) ts ++ [])) (sym c.in_ok-vec.ensures.items) (one_name _)
