-- Lemmas: what records are made of keeps the laws of grammars.
use Rattle.std.proofs.Common.{◌≡◌, ℕ, ◌+◌, true, List, Option, Some, None, refl, sym, ap, ◌∙◌, lit≤}
use Rattle.std.specs.Int.{w32}
use Rattle.vdaf_api.specs.declared.kind.Kind.{Kind}
use Rattle.vdaf_api.specs.declared.kind.Kind.TheVariants.{Count, Sum, Histogram, Vector}
use Rattle.vdaf_api.specs.declared.kind.TheConstants.{MOST_BITS}
use Rattle.dap_bytes.specs.declared.limits.TheConstants.{GREATEST_MINIMUM, GREATEST_PRECISION}
use Rattle.dap_messages.specs.declared.code.Code.{Code}
use Rattle.dap_messages.specs.declared.reply.TheConstants.{MOST_OUT}
use Rattle.dap_messages.specs.Grammar.{Grammar, number, byte, any_text, nothing, ◌⊗◌, variant, allowed_some, spell_some, bytes, name}
use Rattle.dap_messages.specs.Lawful.{Lawful}
use Rattle.dap_messages.specs.Laws.{byte_lawful, cells_lawful, nothing_lawful, then_lawful, shaped_lawful, variant_lawful, by_first_lawful, IsChoice, choice, one_of, none_of, some_is}
use Rattle.dap_messages.specs.Forms.{any_u32, time, checksum, code}
use Rattle.dap_messages.specs.FormLaws.{u32_lawful, time_lawful, any_u32_lawful, bytes_lawful, name_lawful, code_lawful}
use Rattle.lane_records.specs.declared.outcome.Outcome.{Outcome}
use Rattle.lane_records.specs.declared.outcome.Outcome.TheVariants.{Finished, Failed}
use Rattle.lane_records.specs.Bounds.{bounds}
use Rattle.lane_records.specs.BoundsLaws.{bounds_lawful}
use Rattle.lane_records.specs.Sizes.{sizes}
use Rattle.lane_records.specs.SizesLaws.{sizes_lawful}
use Rattle.lane_records.specs.declared.stored.StoredTask.{StoredTask}
use Rattle.lane_records.specs.declared.format.Format.{Format}
use Rattle.lane_records.specs.declared.format.Format.TheVariants.{One, Two}
use Rattle.lane_records.specs.Formats.{in_format}
use Rattle.lane_records.specs.FormatLaws.{in_format-same, in_format-only}
use Rattle.lane_records.specs.Stored.{out_of, code_in, first_of_outcome, outcome_by, outcome, closed, counts_of, bits_of, bounds_of, sizes_of, first_of_kind, newer_by, kind_by, kind, never, first_of_expiry, expiry_by, expiry, key, keys, TaskFields, task_fields, fields_of, task_of, stored}

-- ---- outcomes

finished_only : (o : Outcome) (share : List ℕ) → out_of o ≡ Some share → Finished share ≡ o
finished_only (Finished s) share e = ap Finished (sym (some_is s share e))
finished_only (Failed c) share e = absurd cc

failed_only : (o : Outcome) (c : Code) → code_in o ≡ Some c → Failed c ≡ o
failed_only (Finished s) c e = absurd cc
failed_only (Failed d) c e = ap Failed (sym (some_is d c e))

outcome_choices : (b : ℕ) (g : Grammar Outcome) → outcome_by b ≡ Some g → IsChoice first_of_outcome (4 + MOST_OUT) b g
outcome_choices b g =
    one_of first_of_outcome (4 + MOST_OUT) b 1 _ _ g (choice first_of_outcome (4 + MOST_OUT) 1 Finished out_of (bytes MOST_OUT) (λ x. refl) finished_only (λ x. refl) (bytes_lawful MOST_OUT (lit≤ tt)) (lit≤ tt))
    (one_of first_of_outcome (4 + MOST_OUT) b 2 _ _ g (choice first_of_outcome (4 + MOST_OUT) 2 Failed code_in code (λ x. refl) failed_only (λ x. refl) code_lawful (lit≤ tt))
    (none_of first_of_outcome (4 + MOST_OUT) b g))

pub outcome_lawful : Lawful outcome
outcome_lawful = by_first_lawful first_of_outcome outcome_by (4 + MOST_OUT) outcome_choices

-- ---- what a lane had of a batch

pub closed_lawful : Lawful closed
closed_lawful =
    shaped_lawful _ _ (any_u32 ⊗ any_u32 ⊗ checksum ⊗ bytes MOST_OUT) (λ p. refl) (λ c. refl)
    (then_lawful any_u32 (any_u32 ⊗ checksum ⊗ bytes MOST_OUT) any_u32_lawful
    (then_lawful any_u32 (checksum ⊗ bytes MOST_OUT) any_u32_lawful
    (then_lawful checksum (bytes MOST_OUT) (cells_lawful 32 any_text) (bytes_lawful MOST_OUT (lit≤ tt)))))

-- ---- tasks

count_only : (k : Kind) (u : Unit {0}) → counts_of k ≡ Some u → Count ≡ k
count_only Count u e = refl
count_only (Sum b) u e = absurd cc
count_only (Histogram bs) u e = absurd cc
count_only (Vector l b) u e = absurd cc

sum_only : (k : Kind) (b : ℕ) → bits_of k ≡ Some b → Sum b ≡ k
sum_only Count b e = absurd cc
sum_only (Sum a) b e = ap Sum (sym (some_is a b e))
sum_only (Histogram bs) b e = absurd cc
sum_only (Vector l c) b e = absurd cc

histogram_only : (k : Kind) (bs : List ℕ) → bounds_of k ≡ Some bs → Histogram bs ≡ k
histogram_only Count bs e = absurd cc
histogram_only (Sum b) bs e = absurd cc
histogram_only (Histogram cs) bs e = ap Histogram (sym (some_is cs bs e))
histogram_only (Vector l b) bs e = absurd cc

vector_only : (k : Kind) (p : ℕ × ℕ) → sizes_of k ≡ Some p → Vector p.0 p.1 ≡ k
vector_only Count p e = absurd cc
vector_only (Sum b) p e = absurd cc
vector_only (Histogram bs) p e = absurd cc
vector_only (Vector l b) p e = let made : ℕ × ℕ = (l, b) in ap (λ (q : ℕ × ℕ). Vector q.0 q.1) (sym (some_is made p e))

newer_choices : (f : Format) (b : ℕ) (g : Grammar Kind) → newer_by f b ≡ Some g → IsChoice first_of_kind (bounds f).most b g
newer_choices One b g = none_of first_of_kind (bounds One).most b g
newer_choices Two b g =
    one_of first_of_kind (bounds Two).most b 3 _ _ g (choice first_of_kind (bounds Two).most 3 (λ p. Vector p.0 p.1) sizes_of sizes (λ x. refl) vector_only (λ x. refl) sizes_lawful (lit≤ tt))
    (none_of first_of_kind (bounds Two).most b g)

kind_choices : (f : Format) (b : ℕ) (g : Grammar Kind) → kind_by f b ≡ Some g → IsChoice first_of_kind (bounds f).most b g
kind_choices f b g =
    one_of first_of_kind (bounds f).most b 0 _ _ g (choice first_of_kind (bounds f).most 0 (λ _. Count) counts_of nothing (λ x. refl) count_only (λ x. refl) nothing_lawful (lit≤ tt))
    (one_of first_of_kind (bounds f).most b 1 _ _ g (choice first_of_kind (bounds f).most 1 Sum bits_of (byte 1 MOST_BITS) (λ x. refl) sum_only (λ x. refl) (byte_lawful 1 MOST_BITS) (lit≤ tt))
    (one_of first_of_kind (bounds f).most b 2 _ _ g (choice first_of_kind (bounds f).most 2 Histogram bounds_of (bounds f) (λ x. refl) histogram_only (λ x. refl) (bounds_lawful f) (lit≤ tt))
    (newer_choices f b g)))

pub kind_lawful : (f : Format) → Lawful (kind f)
kind_lawful f = by_first_lawful first_of_kind (kind_by f) (bounds f).most (kind_choices f)

never_only : (e : Option ℕ) (u : Unit {0}) → never e ≡ Some u → (let n : Option ℕ = None in n) ≡ e
never_only None u p = refl
never_only (Some t) u p = absurd cc

never_lawful : Lawful (variant (λ _. None) never nothing)
never_lawful = variant_lawful (λ _. None) never nothing (λ x. refl) never_only nothing_lawful

expiry_choices : (b : ℕ) (g : Grammar (Option ℕ)) → expiry_by b ≡ Some g → IsChoice first_of_expiry 8 b g
expiry_choices b g =
    one_of first_of_expiry 8 b 0 _ _ g (choice first_of_expiry 8 0 (λ _. None) never nothing (λ x. refl) never_only (λ x. refl) nothing_lawful (lit≤ tt))
    (one_of first_of_expiry 8 b 1 _ _ g (choice first_of_expiry 8 1 Some (λ e. e) time (λ x. refl) (λ e t p. sym p) (λ x. refl) time_lawful (lit≤ tt))
    (none_of first_of_expiry 8 b g))

pub expiry_lawful : (f : Format) → Lawful (expiry f)
expiry_lawful One = never_lawful
expiry_lawful Two = by_first_lawful first_of_expiry expiry_by 8 expiry_choices

pub keys_lawful : Lawful keys
keys_lawful = shaped_lawful _ _ (key ⊗ key) (λ p. refl) (λ k. refl) (then_lawful key key (cells_lawful 16 any_text) (cells_lawful 16 any_text))

pub task_fields_lawful : (f : Format) → Lawful (task_fields f)
task_fields_lawful f =
    then_lawful name (kind f ⊗ number w32 1 GREATEST_MINIMUM ⊗ number w32 1 GREATEST_PRECISION ⊗ expiry f ⊗ key ⊗ keys) name_lawful
    (then_lawful (kind f) (number w32 1 GREATEST_MINIMUM ⊗ number w32 1 GREATEST_PRECISION ⊗ expiry f ⊗ key ⊗ keys) (kind_lawful f)
    (then_lawful (number w32 1 GREATEST_MINIMUM) (number w32 1 GREATEST_PRECISION ⊗ expiry f ⊗ key ⊗ keys) (u32_lawful 1 GREATEST_MINIMUM (lit≤ tt))
    (then_lawful (number w32 1 GREATEST_PRECISION) (expiry f ⊗ key ⊗ keys) (u32_lawful 1 GREATEST_PRECISION (lit≤ tt))
    (then_lawful (expiry f) (key ⊗ keys) (expiry_lawful f)
    (then_lawful key keys (cells_lawful 16 any_text) keys_lawful)))))

task_back : (f : Format) (p : TaskFields) → in_format f f (fields_of (task_of f p)) ≡ Some p
task_back f p = in_format-same f p

task_only : (f : Format) (t : StoredTask) (p : TaskFields) → in_format f t.format (fields_of t) ≡ Some p → task_of f p ≡ t
task_only f t p e =
    let parts = in_format-only f t.format (fields_of t) p e in
    ap (task_of f) (sym parts.1) ∙ ap (λ (g : Format). task_of g (fields_of t)) parts.0

pub stored_lawful : (f : Format) → Lawful (stored f)
stored_lawful f = variant_lawful (task_of f) (λ t. in_format f t.format (fields_of t)) (task_fields f) (task_back f) (task_only f) (task_fields_lawful f)

-- a task that has a spelling in a format is of it
pub stored_format : (f : Format) (t : StoredTask) → (stored f).allowed t ≡ true → f ≡ t.format
stored_format f t a = by_fields (in_format f t.format (fields_of t)) refl a where
  by_fields : (o : Option TaskFields) → in_format f t.format (fields_of t) ≡ o → allowed_some (task_fields f) o ≡ true → f ≡ t.format
  by_fields None is e = absurd cc
  by_fields (Some p) is e = (in_format-only f t.format (fields_of t) p is).0

-- a task with a spelling has fields with one
pub fields_allowed : (t : StoredTask) → (stored t.format).allowed t ≡ (task_fields t.format).allowed (fields_of t)
fields_allowed t = ap (allowed_some (task_fields t.format)) (in_format-same t.format (fields_of t))

pub fields_spelled : (t : StoredTask) → (stored t.format).spell t ≡ (task_fields t.format).spell (fields_of t)
fields_spelled t = ap (spell_some (task_fields t.format)) (in_format-same t.format (fields_of t))
