-- Lemmas: the forms of reports and messages keep the laws of grammars.
use Rattle.std.proofs.Common.{◌≡◌, ℕ, ◌+◌, ◌≤◌, Bool, true, false, cond, List, Option, Some, None, refl, sym, ap, ◌∙◌, arith, lit≤}
use Rattle.std.specs.Prelude.{nat_eq, nat_le}
use Rattle.std.specs.Int.{w16, w32, w64}
use Rattle.std.proofs.lemmas.Bool.{eqb-true, leb-true}
use Rattle.std.proofs.lemmas.Nat.{from_be_bytes-to_be_bytes_2, from_be_bytes-to_be_bytes_4, from_be_bytes-to_be_bytes_8}
use Rattle.dap_bytes.specs.declared.limits.TheConstants.{LATEST_TIME}
use Rattle.dap_messages.specs.declared.code.Code.{Code}
use Rattle.dap_messages.specs.declared.code.Code.TheVariants.{BatchCollected, ReportReplayed, HpkeDecryptError, VdafPrepError}
use Rattle.dap_messages.specs.declared.body.TheConstants.{MOST_PUBLIC, MOST_HELPER, MOST_PREP}
use Rattle.dap_messages.specs.declared.body.Step.{Step}
use Rattle.dap_messages.specs.declared.body.Step.TheVariants as steps
use Rattle.dap_messages.specs.declared.body.Status.{Status}
use Rattle.dap_messages.specs.declared.body.Status.TheVariants as statuses
use Rattle.dap_messages.specs.declared.reply.TheConstants.{MOST_OUT}
use Rattle.dap_messages.specs.declared.reply.Reply.{Reply}
use Rattle.dap_messages.specs.declared.reply.Reply.TheVariants as replies
use Rattle.dap_messages.specs.Grammar.{Grammar, number, byte, any_text, nothing, ◌⊗◌, bytes, name}
use Rattle.dap_messages.specs.Lawful.{Lawful}
use Rattle.dap_messages.specs.Laws.{number_lawful, byte_lawful, coded_lawful, cells_lawful, nothing_lawful, then_lawful, shaped_lawful, sized_lawful, by_first_lawful, IsChoice, choice, one_of, none_of, wide16, wide32, wide64, and_parts, some_is}
use Rattle.dap_messages.specs.Forms.{any_u8, any_u32, any_u64, time, checksum, job, code_of, byte_of, code, half, continued_of, failed_of, first_of_step, step_by, step, finished_of, unfinished_of, first_of_status, status_by, status, share_of, total_of, mismatch_of, first_of_reply, reply_by, reply}

-- ---- numbers

pub u16_lawful : (low high : ℕ) → high ≤ 65535 → Lawful (number w16 low high)
u16_lawful low high most = number_lawful w16 low high wide16 (λ n h. from_be_bytes-to_be_bytes_2 n (omega arith))

pub u32_lawful : (low high : ℕ) → high ≤ 4294967295 → Lawful (number w32 low high)
u32_lawful low high most = number_lawful w32 low high wide32 (λ n h. from_be_bytes-to_be_bytes_4 n (omega arith))

pub u64_lawful : (low high : ℕ) → high ≤ 18446744073709551615 → Lawful (number w64 low high)
u64_lawful low high most = number_lawful w64 low high wide64 (λ n h. from_be_bytes-to_be_bytes_8 n (omega arith))

pub time_lawful : Lawful time
time_lawful = u64_lawful 0 LATEST_TIME (lit≤ tt)

-- ---- sized fields

pub bytes_lawful : (longest : ℕ) → longest ≤ 4294967295 → Lawful (bytes longest)
bytes_lawful longest most =
    sized_lawful (number w32 0 longest) longest any_text (λ n a. leb-true n longest (and_parts (nat_le 0 n) (nat_le n longest) a).1) (u32_lawful 0 longest most)

pub name_lawful : Lawful name
name_lawful = sized_lawful (byte 1 32) 32 _ (λ n a. leb-true n 32 (and_parts (nat_le 1 n) (nat_le n 32) a).1) (byte_lawful 1 32)

-- ---- jobs and codes

pub job_lawful : Lawful job
job_lawful =
    shaped_lawful _ _ (any_u8 ⊗ any_u64 ⊗ any_u64) (λ p. refl) (λ j. refl)
    (then_lawful any_u8 (any_u64 ⊗ any_u64) (byte_lawful 0 255)
    (then_lawful any_u64 any_u64 (u64_lawful 0 18446744073709551615 (lit≤ tt)) (u64_lawful 0 18446744073709551615 (lit≤ tt))))

-- one row of a table of bytes, over the rows after it
pub coded_row : {A : Type 0} (byte_of : A → ℕ) (b k : ℕ) (y x : A) (others : Option A) → byte_of y ≡ k → (others ≡ Some x → byte_of x ≡ b) → cond (nat_eq b k) (Some y) others ≡ Some x → byte_of x ≡ b
coded_row {A} byte_of b k y x others here there e = go (nat_eq b k) refl e where
  go : (t : Bool) → nat_eq b k ≡ t → cond t (Some y) others ≡ Some x → byte_of x ≡ b
  go true is p = ap byte_of (sym (some_is y x p)) ∙ here ∙ sym (eqb-true b k is)
  go false is p = there p

pub no_row : {A : Type 0} (byte_of : A → ℕ) (b : ℕ) (x : A) → (let n : Option A = None in n) ≡ Some x → byte_of x ≡ b
no_row byte_of b x e = absurd cc

code_back : (c : Code) → code_of (byte_of c) ≡ Some c
code_back BatchCollected = refl
code_back ReportReplayed = refl
code_back HpkeDecryptError = refl
code_back VdafPrepError = refl

code_only : (b : ℕ) (c : Code) → code_of b ≡ Some c → byte_of c ≡ b
code_only b c =
    coded_row byte_of b 0 BatchCollected c _ refl (coded_row byte_of b 1 ReportReplayed c _ refl
    (coded_row byte_of b 4 HpkeDecryptError c _ refl (coded_row byte_of b 5 VdafPrepError c _ refl (no_row byte_of b c))))

pub code_lawful : Lawful code
code_lawful = coded_lawful code_of byte_of code_back code_only

-- ---- what items say of a report

pub half_lawful : Lawful half
half_lawful =
    shaped_lawful _ _ (time ⊗ bytes MOST_PUBLIC ⊗ bytes MOST_HELPER) (λ p. refl) (λ h. refl)
    (then_lawful time (bytes MOST_PUBLIC ⊗ bytes MOST_HELPER) time_lawful
    (then_lawful (bytes MOST_PUBLIC) (bytes MOST_HELPER) (bytes_lawful MOST_PUBLIC (lit≤ tt)) (bytes_lawful MOST_HELPER (lit≤ tt))))

continued_only : (s : Step) (prep : List ℕ) → continued_of s ≡ Some prep → steps.Continued prep ≡ s
continued_only (steps.Continued p) prep e = ap steps.Continued (sym (some_is p prep e))
continued_only (steps.Failed c) prep e = absurd cc

failed_only : (s : Step) (c : Code) → failed_of s ≡ Some c → steps.Failed c ≡ s
failed_only (steps.Continued p) c e = absurd cc
failed_only (steps.Failed d) c e = ap steps.Failed (sym (some_is d c e))

step_choices : (b : ℕ) (g : Grammar Step) → step_by b ≡ Some g → IsChoice first_of_step (4 + MOST_PREP) b g
step_choices b g =
    one_of first_of_step (4 + MOST_PREP) b 0 _ _ g (choice first_of_step (4 + MOST_PREP) 0 steps.Continued continued_of (bytes MOST_PREP) (λ x. refl) continued_only (λ x. refl) (bytes_lawful MOST_PREP (lit≤ tt)) (lit≤ tt))
    (one_of first_of_step (4 + MOST_PREP) b 2 _ _ g (choice first_of_step (4 + MOST_PREP) 2 steps.Failed failed_of code (λ x. refl) failed_only (λ x. refl) code_lawful (lit≤ tt))
    (none_of first_of_step (4 + MOST_PREP) b g))

pub step_lawful : Lawful step
step_lawful = by_first_lawful first_of_step step_by (4 + MOST_PREP) step_choices

finished_only : (s : Status) (u : Unit {0}) → finished_of s ≡ Some u → statuses.Finished ≡ s
finished_only statuses.Finished u e = refl
finished_only (statuses.Failed c) u e = absurd cc

unfinished_only : (s : Status) (c : Code) → unfinished_of s ≡ Some c → statuses.Failed c ≡ s
unfinished_only statuses.Finished c e = absurd cc
unfinished_only (statuses.Failed d) c e = ap statuses.Failed (sym (some_is d c e))

status_choices : (b : ℕ) (g : Grammar Status) → status_by b ≡ Some g → IsChoice first_of_status 1 b g
status_choices b g =
    one_of first_of_status 1 b 1 _ _ g (choice first_of_status 1 1 (λ _. statuses.Finished) finished_of nothing (λ x. refl) finished_only (λ x. refl) nothing_lawful (lit≤ tt))
    (one_of first_of_status 1 b 2 _ _ g (choice first_of_status 1 2 statuses.Failed unfinished_of code (λ x. refl) unfinished_only (λ x. refl) code_lawful (lit≤ tt))
    (none_of first_of_status 1 b g))

pub status_lawful : Lawful status
status_lawful = by_first_lawful first_of_status status_by 1 status_choices

-- ---- what the helper answers for a batch

pub any_u32_lawful : Lawful any_u32
any_u32_lawful = u32_lawful 0 4294967295 (lit≤ tt)

share_only : (s : Reply) (x : List ℕ) → share_of s ≡ Some x → replies.Share x ≡ s
share_only (replies.Share share) x e = ap replies.Share (sym (some_is share x e))
share_only (replies.Small total) x e = absurd cc
share_only (replies.Mismatch total check) x e = absurd cc

total_only : (s : Reply) (x : ℕ) → total_of s ≡ Some x → replies.Small x ≡ s
total_only (replies.Share share) x e = absurd cc
total_only (replies.Small total) x e = ap replies.Small (sym (some_is total x e))
total_only (replies.Mismatch total check) x e = absurd cc

mismatch_only : (s : Reply) (x : ℕ × List ℕ) → mismatch_of s ≡ Some x → replies.Mismatch x.0 x.1 ≡ s
mismatch_only (replies.Share share) x e = absurd cc
mismatch_only (replies.Small total) x e = absurd cc
mismatch_only (replies.Mismatch total check) x e = ap (λ (p : ℕ × List ℕ). replies.Mismatch p.0 p.1) (sym (some_is (total, check) x e))

reply_choices : (b : ℕ) (g : Grammar Reply) → reply_by b ≡ Some g → IsChoice first_of_reply (4 + MOST_OUT) b g
reply_choices b g =
    one_of first_of_reply (4 + MOST_OUT) b 0 _ _ g (choice first_of_reply (4 + MOST_OUT) 0 replies.Share share_of (bytes MOST_OUT) (λ x. refl) share_only (λ x. refl) (bytes_lawful MOST_OUT (lit≤ tt)) (lit≤ tt))
    (one_of first_of_reply (4 + MOST_OUT) b 1 _ _ g (choice first_of_reply (4 + MOST_OUT) 1 replies.Small total_of any_u32 (λ x. refl) total_only (λ x. refl) any_u32_lawful (lit≤ tt))
    (one_of first_of_reply (4 + MOST_OUT) b 2 _ _ g (choice first_of_reply (4 + MOST_OUT) 2 (λ p. replies.Mismatch p.0 p.1) mismatch_of (any_u32 ⊗ checksum) (λ x. refl) mismatch_only (λ x. refl) (then_lawful any_u32 checksum any_u32_lawful (cells_lawful 32 any_text)) (lit≤ tt))
    (none_of first_of_reply (4 + MOST_OUT) b g)))

pub reply_lawful : Lawful reply
reply_lawful = by_first_lawful first_of_reply reply_by (4 + MOST_OUT) reply_choices
