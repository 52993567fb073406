-- What is told of reports, and what of one goes to the helper.
use Rattle.std.specs.Prelude.{ℕ, List, map, Option, option_map, Bool, ◌&&◌, nat_eq}
use Rattle.std.specs.List.{find}
use Rattle.std.specs.Str.{bytes_eq}
use Rattle.dap_messages.specs.declared.body.Half.{Half}
use Rattle.dap_messages.specs.declared.item.Tagged.{Tagged}
use Rattle.dap_messages.specs.declared.report.Report.{Report}
use Rattle.dap_messages.specs.Messages.{report}

-- of this task and with this identifier
abbrev pub has_key : List ℕ → List ℕ → Report → Bool
has_key name id r = bytes_eq r.name name && bytes_eq r.id id

-- the bytes of the first of these reports that is of this task and has this identifier, if there is one
abbrev pub known_in : List Report → List ℕ → List ℕ → Option (List ℕ)
known_in reports name id = option_map report.spell (find (has_key name id) reports)

-- their bytes are the same
abbrev pub is_same_report : Report → Report → Bool
is_same_report a b = bytes_eq (report.spell a) (report.spell b)

-- the same name, identifier, time, public share and sealed shares
abbrev pub has_fields_of : Report → Report → Bool
has_fields_of a b =
    bytes_eq a.name b.name && (bytes_eq a.id b.id && (nat_eq a.time b.time
    && (bytes_eq a.public b.public && (bytes_eq a.leader b.leader && bytes_eq a.helper b.helper))))

-- the identifiers of some reports, in their order
abbrev pub report_ids : List Report → List (List ℕ)
report_ids reports = map (λ r. r.id) reports

-- what the helper gets of a report
abbrev pub half_of : Report → Half
half_of r = record { time = r.time; public = r.public; helper = r.helper }

-- what the helper gets of some reports, each with its identifier
abbrev pub halves : List Report → List (Tagged Half)
halves reports = map (λ r. record { id = r.id; body = half_of r }) reports
