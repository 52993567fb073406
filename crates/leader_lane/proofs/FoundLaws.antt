-- What the index finds among records.
use Rattle.std.proofs.Common.{◌≡◌, ℕ, zero, suc, ◌-◌, ◌<◌, ◌≤◌, List, [], ◌∷◌, ◌++◌, length, Bool, true, false, Option, Some, None, cond, is_some, refl, sym, ap, ◌∙◌, arith, Bor}
use Rattle.std.specs.List.{find, list_any, slice_get}
use Rattle.std.specs.Option.{option_map, option_map_or}
use Rattle.dap_messages.specs.Reports.{has_key}
use Rattle.dap_messages.specs.declared.report.Report.{Report}
use Rattle.lane_records.specs.declared.record.Record.{Record}
use Rattle.lane_records.specs.declared.record.Record.TheVariants.{Accept, LeaderClose}
use Rattle.lane_records.specs.Records.{accept_of}
use Rattle.legal_journals.specs.LaneTests.{accepts, leader_closes}
use Rattle.legal_journals.specs.Places.{place_of}
use Rattle.legal_journals.proofs.Firsts.{place_of-any}
use Rattle.leader_lane.specs.Judge.{bucket_closed, reports_in, closes_in, is_bucket, is_closed}
use Rattle.leader_lane.proofs.JudgeLaws.{any_of}

pub is_some_mapped : {X Y : Type 0} (f : X → Y) (o : Option X) → is_some (option_map f o) ≡ is_some o
is_some_mapped f (Some x) = refl
is_some_mapped f None = refl

-- ---- a record by its place

pub get_left : (xs ys : List Record) (i : ℕ) → i < length xs → slice_get (xs ++ ys) i ≡ slice_get xs i
get_left [] ys i h = absurd (omega (arith, h))
get_left (x ∷ xs) ys zero h = refl
get_left (x ∷ xs) ys (suc i) h = get_left xs ys i (omega (arith, h))

pub get_right : (xs ys : List Record) (i : ℕ) → length xs ≤ i → slice_get (xs ++ ys) i ≡ slice_get ys (i - length xs)
get_right [] ys i h = ap (λ (n : ℕ). slice_get ys n) (let e : i ≡ i - 0 = omega arith in e)
get_right (x ∷ xs) ys zero h = absurd (omega (arith, h))
get_right (x ∷ xs) ys (suc i) h = get_right xs ys i (omega (arith, h)) ∙ ap (λ (n : ℕ). slice_get ys n) (let e : i - length xs ≡ suc i - length (x ∷ xs) = omega arith in e)

-- ---- the accepted report of a name and an identifier

-- the report of a record
abbrev pub report_of_record : Option Record → Option Report
report_of_record None = None
report_of_record (Some x) = accept_of x

-- the report of the Accept at a place
abbrev pub report_at : Option ℕ → List Record → Option Report
report_at None l = None
report_at (Some p) l = report_of_record (slice_get l p)

behind : (x : Record) (o : Option ℕ) (l : List Record) → report_at o l ≡ report_at (option_map suc o) (x ∷ l)
behind x None l = refl
behind x (Some p) l = refl

pub found : (n id : List ℕ) (l : List Record) → find (has_key n id) (reports_in l) ≡ report_at (place_of (accepts n id) l) l
found n id [] = refl
found n id (Accept r ∷ l) = go (has_key n id r) (found n id l) where
  go : (b : Bool) → find (has_key n id) (reports_in l) ≡ report_at (place_of (accepts n id) l) l
      → cond b (Some r) (find (has_key n id) (reports_in l)) ≡ report_at (cond b (Some 0) (option_map suc (place_of (accepts n id) l))) (Accept r ∷ l)
  go true e = refl
  go false e = e ∙ behind (Accept r) (place_of (accepts n id) l) l
found n id (x ∷ l) = found n id l ∙ behind x (place_of (accepts n id) l) l

-- by what the index and the records give
pub found_as : (n id : List ℕ) (l : List Record) (place : Option ℕ) (o : Option Report) → place ≡ place_of (accepts n id) l → report_at place l ≡ o → o ≡ find (has_key n id) (reports_in l)
found_as n id l place o e is = sym is ∙ ap (λ (p : Option ℕ). report_at p l) e ∙ sym (found n id l)

not_accept : (x : Record) → ((r : Report) → x ≡ Accept r → ⊥) → accept_of x ≡ None
not_accept (Accept r) other = absurd (other r refl)
not_accept x other = refl

-- nothing is found where the index has no place
pub found_none : (n id : List ℕ) (l : List Record) (place : Option ℕ) (o : Option (Bor Report)) → place ≡ place_of (accepts n id) l → place ≡ None → o ≡ None → option_map (λ r. r.now) o ≡ find (has_key n id) (reports_in l)
found_none n id l place o e none is = ap (λ (b : Option (Bor Report)). option_map (λ r. r.now) b) is ∙ found_as n id l None None (sym none ∙ e) refl

-- nor where no record stands at that place
pub found_past : (n id : List ℕ) (l : List Record) (place : Option ℕ) (p : ℕ) (x : Option (Bor Record)) (o : Option (Bor Report)) → place ≡ place_of (accepts n id) l → place ≡ Some p → option_map (λ y. y.now) x ≡ slice_get l p → x ≡ None → o ≡ None
    → option_map (λ r. r.now) o ≡ find (has_key n id) (reports_in l)
found_past n id l place p x o e at look none is =
    ap (λ (b : Option (Bor Report)). option_map (λ r. r.now) b) is
    ∙ found_as n id l (Some p) None (sym at ∙ e) (ap report_of_record (sym look ∙ ap (λ (b : Option (Bor Record)). option_map (λ y. y.now) b) none))

-- the Accept that stands there
pub found_at : (n id : List ℕ) (l : List Record) (place : Option ℕ) (p : ℕ) (x : Option (Bor Record)) (b : Bor Record) (r : Report) → place ≡ place_of (accepts n id) l → place ≡ Some p → option_map (λ y. y.now) x ≡ slice_get l p → x ≡ Some b → b.now ≡ Accept r
    → Some r ≡ find (has_key n id) (reports_in l)
found_at n id l place p x b r e at look is accept =
    found_as n id l (Some p) (Some r) (sym at ∙ e) (ap report_of_record (sym look ∙ ap (λ (c : Option (Bor Record)). option_map (λ y. y.now) c) is ∙ ap (λ (y : Record). Some y) accept))

-- another record stands there
pub found_other : (n id : List ℕ) (l : List Record) (place : Option ℕ) (p : ℕ) (x : Option (Bor Record)) (b : Bor Record) → place ≡ place_of (accepts n id) l → place ≡ Some p → option_map (λ y. y.now) x ≡ slice_get l p → x ≡ Some b
    → ((r : Report) → b.now ≡ Accept r → ⊥) → None ≡ find (has_key n id) (reports_in l)
found_other n id l place p x b e at look is other =
    found_as n id l (Some p) None (sym at ∙ e) (ap report_of_record (sym look ∙ ap (λ (c : Option (Bor Record)). option_map (λ y. y.now) c) is) ∙ not_accept b.now other)

-- ---- a closed bucket

same_close : (n : List ℕ) (s : ℕ) (x : Record) → leader_closes n s x ≡ option_map_or (is_bucket n s) (bucket_closed x) false
same_close n s (LeaderClose name start c) = refl
same_close n s x = refl

pub closed_found : (n : List ℕ) (s : ℕ) (l : List Record) → is_some (place_of (leader_closes n s) l) ≡ is_closed (closes_in l) n s
closed_found n s l =
    place_of-any (leader_closes n s) l ∙ ap (λ (t : Record → Bool). list_any t l) (λ i x. same_close n s x i) ∙ sym (any_of bucket_closed (is_bucket n s) l)
