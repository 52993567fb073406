-- What a run answers.
use Rattle.std.specs.Prelude.{◌≡◌, ℕ, List, None, Some, Result, Ok, Err, Vec}
use Rattle.std.specs.declared.alloc.Global.{Global}
use Rattle.vdaf_api.specs.Functions.{Functions}
use Rattle.vdaf_api.specs.declared.kind.Kind.{Kind}
use Rattle.dap_script.specs.declared.line.Line.{Line}
use Rattle.dap_model.specs.Limits.{passed_in, text_before}
use Rattle.dap_model.specs.Run.{model_text}
use Rattle.dap_model.specs.State.{State}
use Rattle.dap_model.specs.declared.limits.Limits.{Limits}
use Rattle.dap_direct.specs.declared.fault.RunFault.{RunFault}
use Rattle.dap_direct.specs.declared.fault.RunFault.TheVariants.{Limit, NoMemory}

-- no limit is passed and this is the model's text, or one is passed with this line and this is the text of the segments
-- before it, or memory ran out
abbrev pub RunsTo : (Kind → Functions) → Limits → State → List Line → Result (Vec ℕ Global) RunFault → Type 0
RunsTo f limits opened lines (Ok text) =
    (passed_in f limits opened lines ≡ None) × (text.items ≡ model_text f opened lines)
RunsTo f limits opened lines (Err (Limit line limit text)) =
    (passed_in f limits opened lines ≡ Some (record { line = line; limit = limit }))
    × (text.items ≡ text_before f opened lines line)
RunsTo f limits opened lines (Err NoMemory) = Unit {0}
