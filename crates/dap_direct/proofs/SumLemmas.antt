-- The sums of a batch, one report after another.
use Rattle.std.proofs.Common.{◌≡◌, ℕ, ◌+◌, ◌≤◌, List, [], ◌∷◌, ◌++◌, length, replicate, cond, true, not, ◌&&◌, eqb, nat_eq, Option, Some, None, refl, sym, ap, subst, ◌∙◌, inl, inr, arith, append-nil, length-append, is_none}
use Rattle.std.proofs.lemmas.Bool.Decides.{nat_tests}
use Rattle.std.proofs.lemmas.List.Folds.{position_or_len_push}
use Rattle.std.proofs.lemmas.List.Sums.{prefix_len-le-length}
use Rattle.std.proofs.lemmas.Slice.Eq.{bytes_eq-Decides}
use Rattle.std.specs.List.{position_or_len}
use Rattle.std.specs.Option.{option_to_list}
use Rattle.std.specs.Str.{bytes_eq}
use Rattle.field_laws.specs.Vector.{add_each, sum_of}
use Rattle.vdaf_api.proofs.Totals.{plus-swap, totals_are}
use Rattle.vdaf_api.specs.Functions.{Functions}
use Rattle.vdaf_api.specs.VectorLaws.{vector_of-back}
use Rattle.vdaf_api.specs.SumLaws.{add_each-assoc, add_each-comm, add_each-zero, below-add_each, length-zeros, vector-plus, vector-zero}
use Rattle.vdaf_api.specs.Totals.{total_numbers}
use Rattle.vdaf_api.specs.Vectors.{IsOut, SpaceLaws, numbers, numbers_in, plus, vector, zero_share, Below}
use Rattle.vdaf_api.specs.declared.space.Space.{Space}
use Rattle.dap_direct.specs.Sums.{AreOutShares, AreSums, Counts, IsReady, content_with, is_of, AddsSums, AreSumsOf}
use Rattle.dap_direct.specs.declared.prepared.OutShares.{OutShares}
use Rattle.dap_direct.specs.declared.sums.Sums.{Sums}

-- ---- no report

zero-out : {s : Space} → SpaceLaws s → IsOut s (zero_share s)
zero-out {s} laws = (replicate s.size 0, vector-zero laws)

-- both shares zero
pub no_sums : {g : Functions} → SpaceLaws g.space → (s : Sums) → s.leader.items ≡ zero_share g.space → s.helper.items ≡ zero_share g.space
    → s.reports ≡ 0 → s.rejected ≡ 0 → AreSums g [] 0 s
no_sums {g} laws s leader helper reports rejected = record {
  leader = subst (IsOut g.space) (sym leader) (zero-out laws);
  helper = subst (IsOut g.space) (sym helper) (zero-out laws);
  sum = ap (λ l. numbers g.space (plus g.space l s.helper.items)) leader ∙ ap (λ h. numbers g.space (plus g.space (zero_share g.space) h)) helper ∙ totals_are laws [] tt;
  counted = reports;
  barred = rejected;
}

-- ---- the place of a batch's sums

pub is_own : (name : List ℕ) (start : ℕ) (s : Sums) → s.task ≡ name → s.start ≡ start → is_of name start s ≡ true
is_own name start s task at =
    let named : bytes_eq s.task name ≡ true = (bytes_eq-Decides s.task name).1 task in
    let same : nat_eq s.start start ≡ true = grind (arith, nat_tests) in
    ap (λ b. b && nat_eq s.start start) named ∙ same

pub ready_added : (g : Functions) (name : List ℕ) (start : ℕ) (old new : List Sums) (added : Sums) (place : ℕ)
    → place ≡ position_or_len (is_of name start) old → place ≡ length old → new ≡ old ++ added ∷ [] → added.task ≡ name → added.start ≡ start → AreSums g [] 0 added
    → IsReady g name start old new place
ready_added g name start old new added place at end grown task begin sums =
    let own = is_own name start added task begin in
    let last : eqb (position_or_len (is_of name start) old) (length old) ≡ true = grind (arith, nat_tests) in
    let pushed : position_or_len (is_of name start) (old ++ added ∷ []) ≡ place =
    position_or_len_push (is_of name start) old added
    ∙ ap (λ b. cond b (length old + cond (is_of name start added) 0 1) (position_or_len (is_of name start) old)) last
    ∙ ap (λ b. length old + cond b 0 1) own ∙ omega arith in
    record {
      within = omega (arith, ap length grown, length-append old (added ∷ []));
      at = ap (position_or_len (is_of name start)) grown ∙ pushed;
      kept = inr (record { added = added; grown = grown; missing = sym at ∙ end; of_task = task; of_start = begin; sums = sums });
    }

pub ready_kept : (g : Functions) (name : List ℕ) (start : ℕ) (old : List Sums) (place : ℕ) → place ≡ position_or_len (is_of name start) old
    → (place ≡ length old → ⊥) → IsReady g name start old old place
ready_kept g name start old place at inside =
    record {
      within = omega (arith, prefix_len-le-length (λ s. not (is_of name start s)) old);
      at = sym at;
      kept = inl refl;
    }

-- ---- one more report

sum_of-push : (p n : ℕ) (vs : List (List ℕ)) (v : List ℕ) → 1 ≤ p → length v ≡ n → add_each p (sum_of p n vs) v ≡ sum_of p n (vs ++ v ∷ [])
sum_of-push p n [] v some size = add_each-comm p (replicate n 0) v (length-zeros n ∙ sym size)
sum_of-push p n (w ∷ vs) v some size = add_each-assoc p w (sum_of p n vs) v some ∙ ap (add_each p w) (sum_of-push p n vs v some size)

-- the sums of vectors and of more vectors
sum_of-append : (p n : ℕ) (vs more : List (List ℕ)) (v : List ℕ) → 1 ≤ p → length v ≡ n → Below p v → v ≡ sum_of p n more → add_each p (sum_of p n vs) v ≡ sum_of p n (vs ++ more)
sum_of-append p n [] more v some size below is =
    ap (λ (k : ℕ). add_each p (replicate k 0) v) (sym size) ∙ add_each-zero p v below ∙ is
sum_of-append p n (w ∷ vs) more v some size below is = add_each-assoc p w (sum_of p n vs) v some ∙ ap (add_each p w) (sum_of-append p n vs more v some size below is)

-- the numbers of two out shares
pub record AreNumbers (s : Space) (leader helper v : List ℕ) : Type 0 where
  pub is : numbers s (plus s leader helper) ≡ v
  pub size : length v ≡ s.size
  pub below : Below s.modulus v

-- out shares that are added to sums, as numbers
module _ {s : Space} (laws : SpaceLaws s) (leader helper lo ho : List ℕ) (il : IsOut s leader) (ih : IsOut s helper) (io : IsOut s lo) (iq : IsOut s ho) where
  abbrev pub added : List ℕ
  added = add_each s.modulus io.0 iq.0

  news : vector s (plus s lo ho) ≡ Some added
  news = vector-plus laws lo ho io.0 iq.0 io.1 iq.1

  pub are_numbers : AreNumbers s lo ho added
  are_numbers = record {
    is = ap numbers_in news;
    size = (vector_of-back s.modulus s.width s.size (plus s lo ho) added news).size;
    below = below-add_each s.modulus io.0 iq.0 laws.some_number;
  }

  sum_both : numbers s (plus s (plus s leader lo) (plus s helper ho)) ≡ add_each s.modulus (numbers s (plus s leader helper)) added
  sum_both =
      let olds : vector s (plus s leader helper) ≡ Some (add_each s.modulus il.0 ih.0) = vector-plus laws leader helper il.0 ih.0 il.1 ih.1 in
      let both : vector s (plus s (plus s leader helper) (plus s lo ho)) ≡ Some (add_each s.modulus (add_each s.modulus il.0 ih.0) added) =
      vector-plus laws (plus s leader helper) (plus s lo ho) _ _ olds news in
      ap (numbers s) (plus-swap laws leader lo helper ho) ∙ ap numbers_in both ∙ ap (λ v. add_each s.modulus v added) (sym (ap numbers_in olds))

  -- out shares of one more report
  pub sum_more : (contents : List (List ℕ)) → numbers s (plus s leader helper) ≡ total_numbers s contents
      → numbers s (plus s (plus s leader lo) (plus s helper ho)) ≡ total_numbers s (contents ++ numbers s (plus s lo ho) ∷ [])
  sum_more contents total =
      sum_both ∙ ap (λ v. add_each s.modulus v added) total
      ∙ sum_of-push s.modulus s.size contents added laws.some_number are_numbers.size
      ∙ ap (λ v. total_numbers s (contents ++ v ∷ [])) (sym are_numbers.is)

  -- the sums of more reports
  pub sum_join : (contents more : List (List ℕ)) → numbers s (plus s leader helper) ≡ total_numbers s contents → numbers s (plus s lo ho) ≡ total_numbers s more
      → numbers s (plus s (plus s leader lo) (plus s helper ho)) ≡ total_numbers s (contents ++ more)
  sum_join contents more total others =
      sum_both ∙ ap (λ v. add_each s.modulus v added) total
      ∙ sum_of-append s.modulus s.size contents more added laws.some_number are_numbers.size are_numbers.below (sym are_numbers.is ∙ others)

plus-out_of : {s : Space} → SpaceLaws s → (a b : List ℕ) → IsOut s a → IsOut s b → IsOut s (plus s a b)
plus-out_of {s} laws a b ia ib = (add_each s.modulus ia.0 ib.0, vector-plus laws a b ia.0 ib.0 ia.1 ib.1)

-- how many rejected reports a report adds
abbrev pub barred_by : Option (List ℕ) → ℕ
barred_by content = cond (is_none content) 1 0

pub counts : {g : Functions} → SpaceLaws g.space → (contents : List (List ℕ)) (rejected : ℕ) (outs : Option OutShares) (old new : Sums)
    → AreSums g contents rejected old → AreOutShares g outs → Counts g outs old new
    → AreSums g (contents ++ option_to_list (content_with g outs)) (rejected + barred_by (content_with g outs)) new
counts {g} laws contents rejected None old new sums ok count =
    subst (λ s. AreSums g (contents ++ []) (rejected + 1) s) (sym count)
    (record {
      leader = sums.leader;
      helper = sums.helper;
      sum = sums.sum ∙ ap (total_numbers g.space) (sym (append-nil contents));
      counted = sums.counted ∙ ap length (sym (append-nil contents));
      barred = ap (λ (n : ℕ). n + 1) sums.barred;
    })
counts {g} laws contents rejected (Some outs) old new sums ok count =
    record {
      leader = subst (IsOut g.space) (sym count.leader) (plus-out_of laws old.leader.items outs.leader.items sums.leader ok.0);
      helper = subst (IsOut g.space) (sym count.helper) (plus-out_of laws old.helper.items outs.helper.items sums.helper ok.1);
      sum = ap (λ l. numbers g.space (plus g.space l new.helper.items)) count.leader
          ∙ ap (λ h. numbers g.space (plus g.space (plus g.space old.leader.items outs.leader.items) h)) count.helper
          ∙ sum_more laws old.leader.items old.helper.items outs.leader.items outs.helper.items sums.leader sums.helper ok.0 ok.1 contents sums.sum;
      counted = omega (arith, count.reports, sums.counted, length-append contents (numbers g.space (plus g.space outs.leader.items outs.helper.items) ∷ []));
      barred = omega (arith, count.rejected, sums.barred);
    }

-- ---- the sums of more reports

pub joins : {g : Functions} → SpaceLaws g.space → (contents more : List (List ℕ)) (rejected barred : ℕ) (other old new : Sums)
    → AreSums g contents rejected old → AreSums g more barred other → AddsSums g other old new → AreSums g (contents ++ more) (rejected + barred) new
joins {g} laws contents more rejected barred other old new sums others adds =
    record {
      leader = subst (IsOut g.space) (sym adds.leader) (plus-out_of laws old.leader.items other.leader.items sums.leader others.leader);
      helper = subst (IsOut g.space) (sym adds.helper) (plus-out_of laws old.helper.items other.helper.items sums.helper others.helper);
      sum = ap (λ l. numbers g.space (plus g.space l new.helper.items)) adds.leader
          ∙ ap (λ h. numbers g.space (plus g.space (plus g.space old.leader.items other.leader.items) h)) adds.helper
          ∙ sum_join laws old.leader.items old.helper.items other.leader.items other.helper.items sums.leader sums.helper others.leader others.helper contents more sums.sum others.sum;
      counted = omega (arith, adds.reports, sums.counted, others.counted, length-append contents more);
      barred = omega (arith, adds.rejected, sums.barred, others.barred);
    }

-- the sums of no report are joined
pub joins_none : {g : Functions} (contents more : List (List ℕ)) (rejected barred : ℕ) (total : Sums)
    → AreSumsOf g more barred None → AreSums g contents rejected total → AreSums g (contents ++ more) (rejected + barred) total
joins_none {g} contents more rejected barred total none sums = record {
  leader = sums.leader;
  helper = sums.helper;
  sum = sums.sum ∙ ap (total_numbers g.space) (sym (ap (λ l. contents ++ l) none.0 ∙ append-nil contents));
  counted = sums.counted ∙ ap length (sym (ap (λ l. contents ++ l) none.0 ∙ append-nil contents));
  barred = omega (arith, sums.barred, none.1);
}
