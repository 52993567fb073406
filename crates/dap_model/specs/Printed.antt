-- How a printed line is spelled.
use Rattle.std.specs.Prelude.{ℕ, List, [], ◌∷◌, ◌++◌, codes}
use Rattle.std.specs.Fmt.{decimal}
use Rattle.std.specs.List.{flat_map}
use Rattle.vdaf_api.specs.declared.answer.Answer.{Answer}
use Rattle.vdaf_api.specs.declared.answer.Answer.TheVariants.{Count, Sum, Histogram, Vector}
use Rattle.dap_tasks.specs.declared.cause.Cause.{Cause}
use Rattle.dap_tasks.specs.declared.cause.Cause.TheVariants as cause
use Rattle.dap_script.specs.Spelling.{span_text}
use Rattle.dap_model.specs.declared.printed.Printed.{Printed}
use Rattle.dap_model.specs.declared.printed.Printed.TheVariants.{Collected, Small, Refused, Overlap}

-- the word of a cause
abbrev pub cause_word : Cause → List ℕ
cause_word cause.Task = codes "task"
cause_word cause.Form = codes "form"
cause_word cause.Value = codes "value"
cause_word cause.Early = codes "early"
cause_word cause.Expired = codes "expired"
cause_word cause.Conflict = codes "conflict"
cause_word cause.Collected = codes "collected"
cause_word cause.Start = codes "start"

-- numbers in decimal, each after a comma
abbrev pub after_commas : List ℕ → List ℕ
after_commas numbers = flat_map (λ n. codes "," ++ decimal n) numbers

-- numbers in decimal with a comma between any two
abbrev pub numbers_text : List ℕ → List ℕ
numbers_text [] = []
numbers_text (n ∷ more) = decimal n ++ after_commas more

-- how an answer is spelled, after the counts
abbrev pub answer_text : Answer → List ℕ
answer_text (Count n) = codes " count " ++ decimal n
answer_text (Sum n) = codes " sum " ++ decimal n
answer_text (Histogram numbers) = codes " histogram " ++ numbers_text numbers
answer_text (Vector numbers) = codes " vector " ++ numbers_text numbers

-- a line, without its end
abbrev pub line_text : Printed → List ℕ
line_text (Collected name span what) =
    codes "collected " ++ name ++ codes " " ++ span_text span ++ codes " reports " ++ decimal what.reports
    ++ codes " rejected " ++ decimal what.rejected ++ answer_text what.answer
line_text (Small name span reports) =
    codes "small " ++ name ++ codes " " ++ span_text span ++ codes " reports " ++ decimal reports
line_text (Refused line why) = codes "refused " ++ decimal line ++ codes " " ++ cause_word why
line_text (Overlap line other) =
    codes "refused " ++ decimal line ++ codes " overlap " ++ decimal other.start ++ codes " " ++ decimal other.buckets

-- a line with its end
abbrev pub spelling : Printed → List ℕ
spelling line = line_text line ++ 10 ∷ []

-- lines, one after another
abbrev pub text_of : List Printed → List ℕ
text_of lines = flat_map spelling lines
