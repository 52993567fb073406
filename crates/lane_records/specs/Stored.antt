-- What records are made of, as tables of their fields.
use Rattle.std.specs.Prelude.{ℕ, ◌+◌, List, Option, Some, None, ◌==◌, if◌then◌else◌}
use Rattle.std.specs.Int.{w32}
use Rattle.vdaf_api.specs.declared.kind.Kind.{Kind}
use Rattle.vdaf_api.specs.declared.kind.Kind.TheVariants.{Count, Sum, Histogram, Vector}
use Rattle.vdaf_api.specs.declared.kind.TheConstants.{MOST_BITS}
use Rattle.vdaf_api.specs.declared.keys.SealKeys.{SealKeys}
use Rattle.dap_bytes.specs.declared.limits.TheConstants.{GREATEST_MINIMUM, GREATEST_PRECISION}
use Rattle.dap_messages.specs.declared.code.Code.{Code}
use Rattle.dap_messages.specs.declared.reply.TheConstants.{MOST_OUT}
use Rattle.dap_messages.specs.Grammar.{Grammar, number, byte, cells, any_text, nothing, ◌⊗◌, shaped, variant, bytes, name, by_first}
use Rattle.dap_messages.specs.Forms.{any_u32, time, checksum, code}
use Rattle.lane_records.specs.declared.outcome.Outcome.{Outcome}
use Rattle.lane_records.specs.declared.outcome.Outcome.TheVariants.{Finished, Failed}
use Rattle.lane_records.specs.declared.closed.Closed.{Closed}
use Rattle.lane_records.specs.declared.stored.StoredTask.{StoredTask}
use Rattle.lane_records.specs.declared.format.Format.{Format}
use Rattle.lane_records.specs.declared.format.Format.TheVariants.{One, Two}
use Rattle.lane_records.specs.Formats.{in_format}
use Rattle.lane_records.specs.Bounds.{bounds}
use Rattle.lane_records.specs.Sizes.{sizes}

-- ---- outcomes

-- the out share of a finished report
abbrev pub out_of : Outcome → Option (List ℕ)
out_of (Finished share) = Some share
out_of (Failed c) = None

-- the code of a failed one
abbrev pub code_in : Outcome → Option Code
code_in (Finished share) = None
code_in (Failed c) = Some c

-- the first byte of an outcome
abbrev pub first_of_outcome : Outcome → ℕ
first_of_outcome (Finished share) = 1
first_of_outcome (Failed c) = 2

-- 01 and an out share, or 02 and a code
abbrev pub outcome_by : ℕ → Option (Grammar Outcome)
outcome_by b =
    if b == 1 then Some (variant Finished out_of (bytes MOST_OUT)) else
    (if b == 2 then Some (variant Failed code_in code) else None)

-- an outcome by its first byte
abbrev pub outcome : Grammar Outcome
outcome = by_first first_of_outcome outcome_by (4 + MOST_OUT)

-- ---- what a lane had of a batch

-- count, rejected, checksum, share
abbrev pub closed : Grammar Closed
closed =
    shaped (λ p. record { count = p.0; rejected = p.1.0; checksum = p.1.1.0; share = p.1.1.1 }) (λ c. (c.count, (c.rejected, (c.checksum, c.share))))
    (any_u32 ⊗ any_u32 ⊗ checksum ⊗ bytes MOST_OUT)

-- ---- tasks

-- that a kind is a count
abbrev pub counts_of : Kind → Option (Unit {0})
counts_of Count = Some tt
counts_of (Sum bits) = None
counts_of (Histogram bs) = None
counts_of (Vector len bits) = None

-- the bits of a sum
abbrev pub bits_of : Kind → Option ℕ
bits_of Count = None
bits_of (Sum bits) = Some bits
bits_of (Histogram bs) = None
bits_of (Vector len bits) = None

-- the bounds of a histogram
abbrev pub bounds_of : Kind → Option (List ℕ)
bounds_of Count = None
bounds_of (Sum bits) = None
bounds_of (Histogram bs) = Some bs
bounds_of (Vector len bits) = None

-- how many numbers a vector has, and of how many bits
abbrev pub sizes_of : Kind → Option (ℕ × ℕ)
sizes_of Count = None
sizes_of (Sum bits) = None
sizes_of (Histogram bs) = None
sizes_of (Vector len bits) = Some (len, bits)

-- the byte of a kind
abbrev pub first_of_kind : Kind → ℕ
first_of_kind Count = 0
first_of_kind (Sum bits) = 1
first_of_kind (Histogram bs) = 2
first_of_kind (Vector len bits) = 3

-- in format 2: 03 and the sizes of a vector
abbrev pub newer_by : Format → ℕ → Option (Grammar Kind)
newer_by One b = None
newer_by Two b = if b == 3 then Some (variant (λ p. Vector p.0 p.1) sizes_of sizes) else None

-- 00; 01 and the bits; 02 and the bounds in the format; or a kind that format 1 doesn't know
abbrev pub kind_by : Format → ℕ → Option (Grammar Kind)
kind_by f b =
    if b == 0 then Some (variant (λ _. Count) counts_of nothing) else
    (if b == 1 then Some (variant Sum bits_of (byte 1 MOST_BITS)) else
    (if b == 2 then Some (variant Histogram bounds_of (bounds f)) else newer_by f b))

-- a kind by its byte, in the format
abbrev pub kind : Format → Grammar Kind
kind f = by_first first_of_kind (kind_by f) (bounds f).most

-- that there is no expiry
abbrev pub never : Option ℕ → Option (Unit {0})
never None = Some tt
never (Some t) = None

-- the byte of an expiry
abbrev pub first_of_expiry : Option ℕ → ℕ
first_of_expiry None = 0
first_of_expiry (Some t) = 1

-- 00, or 01 and a time
abbrev pub expiry_by : ℕ → Option (Grammar (Option ℕ))
expiry_by b =
    if b == 0 then Some (variant (λ _. None) never nothing) else
    (if b == 1 then Some (variant Some (λ e. e) time) else None)

-- an expiry by its byte
abbrev pub any_expiry : Grammar (Option ℕ)
any_expiry = by_first first_of_expiry expiry_by 8

-- from when on a task takes no report, if ever: in format 1 never, in no bytes
abbrev pub expiry : Format → Grammar (Option ℕ)
expiry One = variant (λ _. None) never nothing
expiry Two = any_expiry

-- a key
abbrev pub key : Grammar (List ℕ)
key = cells 16 any_text

-- the keys of the cipher and of the tag
abbrev pub keys : Grammar SealKeys
keys = shaped (λ p. record { enc = p.0; mac = p.1 }) (λ k. (k.enc, k.mac)) (key ⊗ key)

-- what a task's fields are besides their format
abbrev pub TaskFields : Type 0
TaskFields = List ℕ × (Kind × (ℕ × (ℕ × (Option ℕ × (List ℕ × SealKeys)))))

-- name, kind, minimum, precision, expiry, the key that reports are verified with, the node's own keys
abbrev pub task_fields : Format → Grammar TaskFields
task_fields f = name ⊗ kind f ⊗ number w32 1 GREATEST_MINIMUM ⊗ number w32 1 GREATEST_PRECISION ⊗ expiry f ⊗ key ⊗ keys

-- the fields of a task
abbrev pub fields_of : StoredTask → TaskFields
fields_of t = (t.name, (t.kind, (t.min, (t.precision, (t.expires, (t.verify, t.keys))))))

-- the task of these fields, in a format
abbrev pub task_of : Format → TaskFields → StoredTask
task_of f p = record {
  format = f;
  name = p.0;
  kind = p.1.0;
  min = p.1.1.0;
  precision = p.1.1.1.0;
  expires = p.1.1.1.1.0;
  verify = p.1.1.1.1.1.0;
  keys = p.1.1.1.1.1.1;
}

-- a task of a format, by its fields
abbrev pub stored : Format → Grammar StoredTask
stored f = variant (task_of f) (λ t. in_format f t.format (fields_of t)) (task_fields f)
