-- The identifiers of a job stand in it once.
use Rattle.std.proofs.Common.{◌≡◌, ℕ, List, [], ◌∷◌, ap, sym, ◌∙◌, inl, inr, subst}
use Rattle.std.specs.declared.cmp.Ordering.TheVariants.{Less, Greater}
use Rattle.std.specs.Ordering.{nat_cmp, ordering_reverse}
use Rattle.std.specs.Cmp.Lexicographic.{slice_cmp, nat_list_cmp_total}
use Rattle.dap_bytes.specs.declared.node.Node.TheVariants.{Leader, Helper}
use Rattle.dap_bytes.specs.declared.part.Part.TheVariants.{Lane}
use Rattle.dap_messages.specs.declared.job.JobNo.{JobNo}
use Rattle.dap_messages.specs.declared.body.Half.{Half}
use Rattle.dap_messages.specs.declared.body.Step.{Step}
use Rattle.dap_messages.specs.declared.item.Tagged.{Tagged}
use Rattle.dap_messages.specs.Forms.{half, step}
use Rattle.dap_messages.specs.Items.{ids_of, IsAscending}
use Rattle.dap_messages.proofs.Ascending.{items_ascend}
use Rattle.lane_records.specs.declared.record.Record.{Record}
use Rattle.lane_records.specs.declared.record.Record.TheVariants.{Continue, Start}
use Rattle.legal_journals.specs.History.{Mem}
use Rattle.legal_journals.proofs.Grown.{legal_allowed, steps_allowed, halves_allowed}
use Rattle.dap_agree.specs.Lists.{Distinct}
use Rattle.dap_agree.proofs.Journals.{LeaderLegal, HelperLegal}

-- what stands after the first is above it
all_above : (a : List ℕ) (ids : List (List ℕ)) → IsAscending (a ∷ ids) → (x : List ℕ) → Mem x ids → slice_cmp nat_cmp a x ≡ Less
all_above a [] h x m = elim m [ ]
all_above a (b ∷ ids) h x (inl e) = subst (λ z. slice_cmp nat_cmp a z ≡ Less) (sym e) h.0
all_above a (b ∷ ids) h x (inr m) = nat_list_cmp_total.trans a b x h.0 (all_above b ids h.1 x m)

pub ascending_distinct : (ids : List (List ℕ)) → IsAscending ids → Distinct ids
ascending_distinct [] h = tt
ascending_distinct (a ∷ []) h = ((λ m. elim m [ ]), tt)
ascending_distinct (a ∷ b ∷ rest) h = (
  (λ m. let less = all_above a (b ∷ rest) h a m in let bad : Less ≡ Greater = sym less ∙ nat_list_cmp_total.antisymm a a ∙ ap ordering_reverse less in absurd (cc)),
  ascending_distinct (b ∷ rest) h.1,
)

pub continue_distinct : (l : List Record) (n : List ℕ) (j : JobNo) (xs : List (Tagged Step)) → LeaderLegal l → Mem (Continue n j xs) l → Distinct (ids_of xs)
continue_distinct l n j xs h p =
    ascending_distinct (ids_of xs) (items_ascend step xs (steps_allowed n j xs (legal_allowed Leader (Lane h.0) l (Continue n j xs) h.1 p))).2

pub start_distinct : (l : List Record) (j : JobNo) (n : List ℕ) (hs : List (Tagged Half)) → HelperLegal l → Mem (Start j n hs) l → Distinct (ids_of hs)
start_distinct l j n hs h p =
    ascending_distinct (ids_of hs) (items_ascend half hs (halves_allowed j n hs (legal_allowed Helper (Lane h.0) l (Start j n hs) h.1 p))).2
