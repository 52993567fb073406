-- A line has one spelling, in visible words, but for comments.
use Rattle.std.proofs.Common.{◌≡◌, ◌⊎◌, ℕ, ◌-◌, ◌<◌, ◌≤◌, ◌^◌, List, [], ◌∷◌, ◌++◌, take, drop, Bool, true, false, nat_eq, nat_le, length, codes, if◌then◌else◌, Option, Some, None, refl, sym, ap, subst, ◌∙◌, inl, inr, arith}
use Rattle.std.proofs.lemmas.Bool.Decides.{nat_tests}
use Rattle.std.proofs.lemmas.Bool.{and_parts, cases_Bool, cases_lt, eqb-true, le-leb, leb-true}
use Rattle.std.proofs.lemmas.List.Elements.{All-append, All-cons, All-from_recursion, All-get_or, All-tail, All-weaker}
use Rattle.std.proofs.lemmas.List.Splits.{join_with_byte-slice_split}
use Rattle.std.proofs.lemmas.List.Sums.{AllPass-from_list_all, list_all-from_AllPass}
use Rattle.std.proofs.lemmas.List.{append-nil, append_assoc, get_or_past, length-append, nil_from_length, take_at}
use Rattle.std.proofs.lemmas.Option.{cond_some, option_and_then_some, same_Some}
use Rattle.std.proofs.lemmas.Slice.Eq.{bytes_eq-Decides}
use Rattle.std.specs.Fmt.{decimal, digits}
use Rattle.std.specs.List.{All, join_with_byte, list_all, slice_split}
use Rattle.std.specs.Option.{option_map_or}
use Rattle.std.specs.Str.{bytes_eq}
use Rattle.base64.specs.GeneralPurpose.{IsBytes}
use Rattle.hex.specs.Hex.{encode_lower}
use Rattle.dap_bytes.specs.Shown.{node_word}
use Rattle.dap_bytes.specs.Name.{IsName, name_of}
use Rattle.dap_bytes.specs.Spans.{one_bucket}
use Rattle.dap_bytes.specs.declared.limits.TheConstants.{GREATEST_MINIMUM, GREATEST_PRECISION, LATEST_TIME, MOST_BUCKETS}
use Rattle.dap_bytes.specs.declared.node.Node.TheVariants.{Helper, Leader}
use Rattle.dap_bytes.specs.declared.node.Node.{Node}
use Rattle.vdaf_api.specs.TaskNumbers.{IsExpiry}
use Rattle.vdaf_api.specs.declared.kind.Kind.{Kind}
use Rattle.dap_script.proofs.HexLaws.{octets_of-encode_lower, octets_spelled}
use Rattle.dap_script.proofs.KindLaws.{kind_of-kind_words, kind_spelled, visible_kind}
use Rattle.dap_script.proofs.NumberLaws.{bounded_of-decimal, bounded_spelled, number_of-decimal}
use Rattle.dap_script.proofs.NumbersLaws.{measurement_of-text, measurement_spelled, visible_list}
use Rattle.dap_script.specs.OptionLaws.{guarded, if_some, map_or_cases}
use Rattle.dap_script.proofs.ReportLaws.{report_of-encode_of, report_spelled, visible_report}
use Rattle.dap_script.proofs.SplitLaws.{All-join_with_byte, Lacks, slice_split-join_with_byte}
use Rattle.dap_script.proofs.Visible.{IsVisible, is_visible, visible_decimal, visible_hex, visible_name}
use Rattle.dap_script.proofs.WordLaws.{All-slice_split, cut_fields, last_field, listed, middle_fields, name_of-itself, name_spelled, second_last_field, two_last}
use Rattle.dap_script.specs.Fields.{◌>>=◌, bounded_of, buckets_written, kind_of, measurement_of, node_of, number_of, octets_of, report_of}
use Rattle.dap_script.specs.Line.{collect_of, expiring, expiry_split, has_expiry, is_blank, kind_fields, line_of, line_of_words, measure_of, measure_with, now_of, restart_of, task_of, task_until, task_with, upload_of}
use Rattle.dap_script.specs.Spelling.{AreWordsOf, IsInRange, IsWritten, SaysOne, SpellsLine, bucket_words, expiry_words, kind_words, span_words, spelling, words_of}
use Rattle.dap_script.specs.Words.{is_line_char, is_space, word}
use Rattle.dap_script.specs.declared.line.Line.TheVariants.{Blank, Collect, Measure, Now, Restart, Task, Upload}
use Rattle.dap_script.specs.declared.line.Line.{Line}

-- ---- what is read is spelled so

-- the words spell the line, each part of which is in its range
abbrev Spell : List (List ℕ) → Line → Type 0
Spell words line = (words ≡ words_of line) × IsInRange line

-- the words are those of the line, each part of which is in its range
abbrev SpellAll : List (List ℕ) → Line → Type 0
SpellAll words line = AreWordsOf words line × IsInRange line

-- a task line but for its expiry, with the words of the expiry behind it
until_spelled : (expires : Option ℕ) → IsExpiry expires → (fields : List (List ℕ)) (line : Line) → task_until expires fields ≡ Some line
    → Spell (codes "task" ∷ fields ++ expiry_words expires) line
until_spelled expires range fields line h =
    let g = guarded (nat_le 3 (length fields)) _ line h in
    let cut = cut_fields fields (leb-true 3 (length fields) g.0) in
    option_and_then_some _ (kind_of (kind_fields fields)) line g.1 (λ kind ekind h1.
    option_and_then_some _ (name_of (word fields 0)) line h1 (λ name ename h2.
    option_and_then_some _ (bounded_of 1 GREATEST_MINIMUM (word fields (length fields - 2))) line h2 (λ min emin h3.
    option_and_then_some _ (bounded_of 1 GREATEST_PRECISION (word fields (length fields - 1))) line h3 (λ precision eprecision h4.
    let k = kind_spelled (kind_fields fields) kind ekind in
    let n = name_spelled (word fields 0) name ename in
    let m = bounded_spelled 1 GREATEST_MINIMUM (word fields (length fields - 2)) min emin in
    let p = bounded_spelled 1 GREATEST_PRECISION (word fields (length fields - 1)) precision eprecision in
    let words : fields ≡ name ∷ kind_words kind ++ decimal min ∷ decimal precision ∷ [] = cc (cut, k.0, n.0, m.0, p.0) in
    let all : fields ++ expiry_words expires ≡ name ∷ kind_words kind ++ decimal min ∷ decimal precision ∷ expiry_words expires =
    ap (λ (fs : List (List ℕ)). fs ++ expiry_words expires) words
    ∙ ap (λ (fs : List (List ℕ)). name ∷ fs) (append_assoc (kind_words kind) (decimal min ∷ decimal precision ∷ []) (expiry_words expires)) in
    subst (Spell (codes "task" ∷ fields ++ expiry_words expires)) (same_Some (Task name kind min precision expires) line h4)
    (ap (λ (fs : List (List ℕ)). codes "task" ∷ fs) all, (n.1, k.1, m.1, m.2, p.1, p.2, k.2, range))))))

-- the last two words of fields that end with an expiry
split_fields : (fields : List (List ℕ)) (parts : List (List ℕ) × List ℕ) → expiry_split fields ≡ Some parts
    → fields ≡ parts.0 ++ codes "expires" ∷ parts.1 ∷ []
split_fields fields parts h =
    let g = cond_some (has_expiry fields) (take (length fields - 2) fields, word fields (length fields - 1)) parts h in
    let b = and_parts (nat_le 2 (length fields)) (bytes_eq (word fields (length fields - 2)) (codes "expires")) g.0 in
    let keyword : word fields (length fields - 2) ≡ codes "expires" = (bytes_eq-Decides (word fields (length fields - 2)) (codes "expires")).0 b.1 in
    two_last fields (leb-true 2 (length fields) b.0)
    ∙ ap (λ w. take (length fields - 2) fields ++ w ∷ word fields (length fields - 1) ∷ []) keyword
    ∙ ap (λ (p : List (List ℕ) × List ℕ). p.0 ++ codes "expires" ∷ p.1 ∷ []) g.1

task_spelled : (fields : List (List ℕ)) (line : Line) → task_of fields ≡ Some line → Spell (codes "task" ∷ fields) line
task_spelled fields line h =
    map_or_cases expiring (expiry_split fields) (task_until None fields) (Some line) h
    (λ none e. subst (λ (fs : List (List ℕ)). Spell (codes "task" ∷ fs) line) (append-nil fields) (until_spelled None tt fields line e))
    (λ parts some e. option_and_then_some _ (bounded_of 0 LATEST_TIME parts.1) line e (λ t et h1.
    let b = bounded_spelled 0 LATEST_TIME parts.1 t et in
    let whole : parts.0 ++ expiry_words (Some t) ≡ fields = sym (split_fields fields parts some ∙ ap (λ w. parts.0 ++ codes "expires" ∷ w ∷ []) b.0) in
    subst (λ (fs : List (List ℕ)). Spell (codes "task" ∷ fs) line) whole (until_spelled (Some t) b.2 parts.0 line h1)))

now_spelled : (fields : List (List ℕ)) (line : Line) → now_of fields ≡ Some line → Spell (codes "now" ∷ fields) line
now_spelled fields line h =
    let g = guarded (nat_eq (length fields) 1) _ line h in
    let all = listed 1 fields g.0 in
    option_and_then_some _ (bounded_of 0 LATEST_TIME (word fields 0)) line g.1 (λ t e h1.
    let s = bounded_spelled 0 LATEST_TIME (word fields 0) t e in
    subst (Spell (codes "now" ∷ fields)) (same_Some (Now t) line h1) (ap (λ (fs : List (List ℕ)). codes "now" ∷ fs) (cc (all, s.0)), s.2))

measure_spelled : (fields : List (List ℕ)) (line : Line) → measure_of fields ≡ Some line → Spell (codes "measure" ∷ fields) line
measure_spelled fields line h =
    let g = guarded (nat_eq (length fields) 5) _ line h in
    let all = listed 5 fields g.0 in
    option_and_then_some _ (measurement_of (word fields 3)) line g.1 (λ value evalue h1.
    option_and_then_some _ (name_of (word fields 0)) line h1 (λ name ename h2.
    option_and_then_some _ (octets_of (word fields 1)) line h2 (λ id eid h3.
    option_and_then_some _ (bounded_of 0 LATEST_TIME (word fields 2)) line h3 (λ time etime h4.
    option_and_then_some _ (octets_of (word fields 4)) line h4 (λ seed eseed h5.
    let n = name_spelled (word fields 0) name ename in
    let i = octets_spelled (word fields 1) id eid in
    let t = bounded_spelled 0 LATEST_TIME (word fields 2) time etime in
    let v = measurement_spelled (word fields 3) value evalue in
    let s = octets_spelled (word fields 4) seed eseed in
    subst (Spell (codes "measure" ∷ fields)) (same_Some (Measure name id time value seed) line h5)
    (ap (λ (fs : List (List ℕ)). codes "measure" ∷ fs) (cc (all, n.0, i.0, t.0, v.0, s.0)), (n.1, i.1, t.2, v.1, s.1)))))))

line_char_is_byte : (c : ℕ) → is_line_char c ≡ true → c < 256
line_char_is_byte c h = grind (arith, nat_tests)

IsBytes-from_line_chars : (text : List ℕ) → All (λ c. is_line_char c ≡ true) text → IsBytes text
IsBytes-from_line_chars text h i = elim (cases_lt i (length text)) [
  | inl lt ↦ line_char_is_byte _ (All-get_or (λ c. is_line_char c ≡ true) text i 0 lt h)
  | inr ge ↦ rw (get_or_past text i 0 ge) (omega arith)
]

word_chars : (words : List (List ℕ)) (i : ℕ) → All (All (λ c. is_line_char c ≡ true)) words → IsBytes (word words i)
word_chars words i h = elim (cases_lt i (length words)) [
  | inl lt ↦ IsBytes-from_line_chars (word words i) (All-get_or (All (λ c. is_line_char c ≡ true)) words i [] lt h)
  | inr ge ↦ rw (get_or_past words i [] ge) (λ k. omega arith)
]

upload_spelled : (fields : List (List ℕ)) (line : Line) → All (All (λ c. is_line_char c ≡ true)) fields → upload_of fields ≡ Some line → Spell (codes "upload" ∷ fields) line
upload_spelled fields line chars h =
    let g = guarded (nat_eq (length fields) 1) _ line h in
    let all = listed 1 fields g.0 in
    option_and_then_some _ (report_of (word fields 0)) line g.1 (λ report e h1.
    let s = report_spelled (word fields 0) report (word_chars fields 0 chars) e in
    subst (Spell (codes "upload" ∷ fields)) (same_Some (Upload report) line h1) (ap (λ (fs : List (List ℕ)). codes "upload" ∷ fs) (cc (all, s.0)), (s.1, s.2)))

-- the words are those of a number of buckets, or say 1
abbrev SayBuckets : List (List ℕ) → ℕ → Type 0
SayBuckets words buckets = (words ≡ bucket_words buckets) ⊎ ((buckets ≡ 1) × (words ≡ codes "1" ∷ []))

one_or_more : (words : List (List ℕ)) (n : ℕ) → words ≡ decimal n ∷ [] → SayBuckets words n
unfolding digits
one_or_more words n e = elim (cases_Bool (nat_eq n 1)) [
  | inl one ↦
      let is : n ≡ 1 = eqb-true n 1 one in
      inr (is, e ∙ ap (λ m. decimal m ∷ []) is)
  | inr more ↦ inl (rw more e)
]

buckets_spelled : (words : List (List ℕ)) (n : ℕ) → buckets_written words ≡ Some n → SayBuckets words n × (1 ≤ n) × (n ≤ MOST_BUCKETS)
buckets_spelled [] n h =
    let is : 1 ≡ n = same_Some 1 n h in
    subst (λ m. SayBuckets [] m × (1 ≤ m) × (m ≤ MOST_BUCKETS)) is (inl refl, omega arith, omega arith)
buckets_spelled (w ∷ words) n h =
    let g = guarded (nat_eq (length words) 0) _ n h in
    let alone : words ≡ [] = nil_from_length words (eqb-true (length words) 0 g.0) in
    let b = bounded_spelled 1 MOST_BUCKETS w n g.1 in
    (one_or_more (w ∷ words) n (cc (alone, b.0)), b.1, b.2)

-- the first two fields and the others
two_first : (fields : List (List ℕ)) → 2 ≤ length fields → fields ≡ word fields 0 ∷ word fields 1 ∷ drop 2 fields
two_first [] h = absurd (omega arith)
two_first (x ∷ []) h = absurd (omega arith)
two_first (x ∷ y ∷ more) h = refl

collect_spelled : (fields : List (List ℕ)) (line : Line) → collect_of fields ≡ Some line → SpellAll (codes "collect" ∷ fields) line
collect_spelled fields line h =
    let g = guarded (nat_le 2 (length fields)) _ line h in
    let all = two_first fields (leb-true 2 (length fields) g.0) in
    option_and_then_some _ (name_of (word fields 0)) line g.1 (λ name ename h1.
    option_and_then_some _ (bounded_of 0 LATEST_TIME (word fields 1)) line h1 (λ start estart h2.
    option_and_then_some _ (buckets_written (drop 2 fields)) line h2 (λ buckets ebuckets h3.
    let n = name_spelled (word fields 0) name ename in
    let s = bounded_spelled 0 LATEST_TIME (word fields 1) start estart in
    let b = buckets_spelled (drop 2 fields) buckets ebuckets in
    subst (SpellAll (codes "collect" ∷ fields)) (same_Some (Collect name (record { start = start; buckets = buckets })) line h3)
    (said fields name start buckets (cc (all, n.0, s.0)) b.0, (n.1, s.2, (b.1, b.2))))))
  where
    said : (fields : List (List ℕ)) (name : List ℕ) (start buckets : ℕ) → fields ≡ name ∷ decimal start ∷ drop 2 fields → SayBuckets (drop 2 fields) buckets
        → AreWordsOf (codes "collect" ∷ fields) (Collect name (record { start = start; buckets = buckets }))
    said fields name start buckets e (inl words) =
        inl (ap (λ (fs : List (List ℕ)). codes "collect" ∷ fs) (e ∙ ap (λ (ws : List (List ℕ)). name ∷ decimal start ∷ ws) words))
    said fields name start buckets e (inr one) =
        inr (record {
          name = name;
          start = start;
          collects = ap (λ n. Collect name (record { start = start; buckets = n })) one.0;
          with_one = ap (λ (fs : List (List ℕ)). codes "collect" ∷ fs) (e ∙ ap (λ (ws : List (List ℕ)). name ∷ decimal start ∷ ws) one.1)
              ∙ ap (λ n. (codes "collect" ∷ name ∷ decimal start ∷ bucket_words n) ++ codes "1" ∷ []) (sym one.0);
        })

node_spelled : (text : List ℕ) (node : Node) → node_of text ≡ Some node → text ≡ node_word node
node_spelled text node h =
    if_some (bytes_eq text (codes "leader")) _ _ node h (λ e k. subst (λ n. text ≡ node_word n) (same_Some Leader node k) ((bytes_eq-Decides text (codes "leader")).0 e)) (λ h1.
    if_some (bytes_eq text (codes "helper")) _ _ node h1 (λ e k. subst (λ n. text ≡ node_word n) (same_Some Helper node k) ((bytes_eq-Decides text (codes "helper")).0 e)) (λ h2. cc h2))

restart_spelled : (fields : List (List ℕ)) (line : Line) → restart_of fields ≡ Some line → Spell (codes "restart" ∷ fields) line
restart_spelled fields line h =
    let g = guarded (nat_eq (length fields) 1) _ line h in
    let all = listed 1 fields g.0 in
    option_and_then_some _ (node_of (word fields 0)) line g.1 (λ node e h1.
    subst (Spell (codes "restart" ∷ fields)) (same_Some (Restart node) line h1)
    (ap (λ (fs : List (List ℕ)). codes "restart" ∷ fs) (cc (all, node_spelled (word fields 0) node e)), tt))

-- the keyword in front
keyed_all : (keyword other : List ℕ) (fields : List (List ℕ)) (line : Line) → bytes_eq keyword other ≡ true → SpellAll (other ∷ fields) line
    → SpellAll (keyword ∷ fields) line
keyed_all keyword other fields line e s =
    subst (λ (w : List ℕ). SpellAll (w ∷ fields) line) (sym ((bytes_eq-Decides keyword other).0 e)) s

keyed : (keyword other : List ℕ) (fields : List (List ℕ)) (line : Line) → bytes_eq keyword other ≡ true → Spell (other ∷ fields) line
    → SpellAll (keyword ∷ fields) line
keyed keyword other fields line e s = keyed_all keyword other fields line e (inl s.0, s.1)

words_spelled : (words : List (List ℕ)) (line : Line) → All (All (λ c. is_line_char c ≡ true)) words → line_of_words words ≡ Some line → SpellAll words line
words_spelled [] line chars h = cc h
words_spelled (keyword ∷ fields) line chars h =
    let rest = All-tail (All (λ c. is_line_char c ≡ true)) keyword fields chars in
    if_some (bytes_eq keyword (codes "task")) _ _ line h (λ e k. keyed keyword (codes "task") fields line e (task_spelled fields line k)) (λ h1.
    if_some (bytes_eq keyword (codes "now")) _ _ line h1 (λ e k. keyed keyword (codes "now") fields line e (now_spelled fields line k)) (λ h2.
    if_some (bytes_eq keyword (codes "measure")) _ _ line h2 (λ e k. keyed keyword (codes "measure") fields line e (measure_spelled fields line k)) (λ h3.
    if_some (bytes_eq keyword (codes "upload")) _ _ line h3 (λ e k. keyed keyword (codes "upload") fields line e (upload_spelled fields line rest k)) (λ h4.
    if_some (bytes_eq keyword (codes "collect")) _ _ line h4 (λ e k. keyed_all keyword (codes "collect") fields line e (collect_spelled fields line k)) (λ h5.
    if_some (bytes_eq keyword (codes "restart")) _ _ line h5 (λ e k. keyed keyword (codes "restart") fields line e (restart_spelled fields line k)) (λ h6. cc h6))))))

blank_spelled : (text : List ℕ) → list_all is_line_char text ≡ true → is_blank text ≡ true → SpellsLine text Blank
blank_spelled [] chars h = inl (record { words = []; are_words = inl refl; joined = refl; in_range = tt })
blank_spelled (c ∷ cs) chars h =
    inr (refl, (cs, ap (λ x. x ∷ cs) (eqb-true c 35 h), AllPass-from_list_all is_line_char cs (and_parts (is_line_char c) (list_all is_line_char cs) chars).1))

pub line_spelled : (text : List ℕ) (line : Line) → line_of text ≡ Some line → SpellsLine text line
line_spelled text line h =
    let g = guarded (list_all is_line_char text) (if is_blank text then Some Blank else line_of_words (slice_split is_space text)) line h in
    let chars = All-slice_split (λ c. is_line_char c ≡ true) is_space text (AllPass-from_list_all is_line_char text g.0) in
    if_some (is_blank text) (Some Blank) (line_of_words (slice_split is_space text)) line g.1
    (λ e k. subst (SpellsLine text) (same_Some Blank line k) (blank_spelled text g.0 e))
    (λ k. let s = words_spelled (slice_split is_space text) line chars k in
    inl (record { words = slice_split is_space text; are_words = s.0; joined = sym (join_with_byte-slice_split 32 text); in_range = s.1 }))

-- ---- what is spelled so is read

visible_expiry : (expires : Option ℕ) → IsExpiry expires → All (All IsVisible) (expiry_words expires)
visible_expiry None h = All-from_recursion (All IsVisible) [] tt
visible_expiry (Some t) h =
    All-from_recursion (All IsVisible) (expiry_words (Some t))
    (AllPass-from_list_all is_visible (codes "expires") refl, (visible_decimal t (omega arith), tt))

visible_buckets : (buckets : ℕ) → buckets < 2 ^ 64 → All (All IsVisible) (bucket_words buckets)
visible_buckets buckets h = elim (nat_eq buckets 1) as (λ b. All (All IsVisible) (if b then [] else decimal buckets ∷ [])) [
  | true ↦ All-from_recursion (All IsVisible) [] tt
  | false ↦ All-from_recursion (All IsVisible) (decimal buckets ∷ []) (visible_decimal buckets h, tt)
]

visible_words : (line : Line) → IsInRange line → All (All IsVisible) (words_of line)
visible_words Blank h = All-from_recursion (All IsVisible) [] tt
visible_words (Task name kind min precision expires) h =
    let keyword = AllPass-from_list_all is_visible (codes "task") refl in
    let least = visible_decimal min (omega (arith, h.3)) in
    let span = visible_decimal precision (omega (arith, h.5)) in
    let numbers = All-cons (All IsVisible) (decimal min) (decimal precision ∷ expiry_words expires) least
    (All-cons (All IsVisible) (decimal precision) (expiry_words expires) span (visible_expiry expires h.7)) in
    All-cons (All IsVisible) (codes "task") (name ∷ kind_words kind ++ decimal min ∷ decimal precision ∷ expiry_words expires) keyword
    (All-cons (All IsVisible) name (kind_words kind ++ decimal min ∷ decimal precision ∷ expiry_words expires) (visible_name name h.0)
    (All-append (All IsVisible) (kind_words kind) (decimal min ∷ decimal precision ∷ expiry_words expires) (visible_kind kind h.1 h.6) numbers))
visible_words (Now t) h =
    let keyword = AllPass-from_list_all is_visible (codes "now") refl in
    All-from_recursion (All IsVisible) (words_of (Now t)) (keyword, (visible_decimal t (omega arith), tt))
visible_words (Measure name id time value seed) h =
    let keyword = AllPass-from_list_all is_visible (codes "measure") refl in
    let at = visible_decimal time (omega arith) in
    let numbers = visible_list value h.3.words in
    All-from_recursion (All IsVisible) (words_of (Measure name id time value seed))
    (keyword, (visible_name name h.0, (visible_hex id h.1, (at, (numbers, (visible_hex seed h.4, tt))))))
visible_words (Upload report) h =
    let keyword = AllPass-from_list_all is_visible (codes "upload") refl in
    All-from_recursion (All IsVisible) (words_of (Upload report)) (keyword, (visible_report report h.1, tt))
visible_words (Collect name span) h =
    let keyword = AllPass-from_list_all is_visible (codes "collect") refl in
    All-cons (All IsVisible) (codes "collect") (name ∷ span_words span) keyword
    (All-cons (All IsVisible) name (span_words span) (visible_name name h.0)
    (All-cons (All IsVisible) (decimal span.start) (bucket_words span.buckets) (visible_decimal span.start (omega (arith, h.1)))
    (visible_buckets span.buckets (omega (arith, h.2.1)))))
visible_words (Restart Leader) h =
    All-from_recursion (All IsVisible) (words_of (Restart Leader))
    (AllPass-from_list_all is_visible (codes "restart") refl, (AllPass-from_list_all is_visible (codes "leader") refl, tt))
visible_words (Restart Helper) h =
    All-from_recursion (All IsVisible) (words_of (Restart Helper))
    (AllPass-from_list_all is_visible (codes "restart") refl, (AllPass-from_list_all is_visible (codes "helper") refl, tt))

-- all words that may be a line's
visible_all : (words : List (List ℕ)) (line : Line) → AreWordsOf words line → IsInRange line → All (All IsVisible) words
visible_all words line (inl e) h = subst (All (All IsVisible)) (sym e) (visible_words line h)
visible_all words line (inr one) h =
    let digit = All-from_recursion (All IsVisible) (codes "1" ∷ []) (AllPass-from_list_all is_visible (codes "1") refl, tt) in
    subst (All (All IsVisible)) (sym one.with_one) (All-append (All IsVisible) (words_of line) (codes "1" ∷ []) (visible_words line h) digit)

-- what holds of the space and of visible characters holds of a line's words
pub All-written : (P : ℕ → Type 0) → P 32 → ((c : ℕ) → IsVisible c → P c) → (text : List ℕ) (line : Line) → IsWritten text line → All P text
All-written P space visible text line w =
    subst (All P) (sym w.joined)
    (All-join_with_byte P 32 w.words space
    (All-weaker (All IsVisible) (All P) (All-weaker IsVisible P visible) w.words (visible_all w.words line w.are_words w.in_range)))

slice_split-words : (words : List (List ℕ)) → 0 < length words → All (All IsVisible) words → slice_split is_space (join_with_byte 32 words) ≡ words
slice_split-words words some visible =
    slice_split-join_with_byte 32 words some
    (All-weaker (All IsVisible) (Lacks 32) (All-weaker IsVisible (λ c. nat_eq c 32 ≡ false) (λ c v. grind (arith, nat_tests))) words visible)

-- the fields of a task line but for its expiry
task_until-fields : (name : List ℕ) (middle : List (List ℕ)) (min precision : List ℕ) (kind : Kind) (expires : Option ℕ) → kind_of middle ≡ Some kind
    → task_until expires (name ∷ middle ++ min ∷ precision ∷ []) ≡ task_with name kind min precision expires
task_until-fields name middle min precision kind expires e =
    let long : nat_le 3 (length (name ∷ middle ++ min ∷ precision ∷ [])) ≡ true =
    (let three : 3 ≤ length (name ∷ middle ++ min ∷ precision ∷ []) = omega (arith, length-append middle (min ∷ precision ∷ [])) in grind (arith, nat_tests)) in
    let between : kind_of (kind_fields (name ∷ middle ++ min ∷ precision ∷ [])) ≡ Some kind = ap kind_of (middle_fields name middle min precision) ∙ e in
    rw (long, between) (ap (λ w. task_with name kind w (word (name ∷ middle ++ min ∷ precision ∷ []) (length (name ∷ middle ++ min ∷ precision ∷ []) - 1)) expires)
    (second_last_field name middle min precision) ∙ ap (λ w. task_with name kind min w expires) (last_field name middle min precision))

-- a number is no keyword
no_expires : (n : ℕ) → n < 2 ^ 64 → bytes_eq (decimal n) (codes "expires") ≡ false
no_expires n h = go (bytes_eq (decimal n) (codes "expires")) refl where
  go : (b : Bool) → bytes_eq (decimal n) (codes "expires") ≡ b → bytes_eq (decimal n) (codes "expires") ≡ false
  go false e = e
  go true e =
      let none : number_of (codes "expires") ≡ None = refl in
      let same : decimal n ≡ codes "expires" = (bytes_eq-Decides (decimal n) (codes "expires")).0 e in
      let impossible : None ≡ Some n = sym (ap number_of same ∙ none) ∙ number_of-decimal n h in
      cc impossible

-- the last two words of a task line that never expires
no_expiry : (name : List ℕ) (middle : List (List ℕ)) (min : ℕ) (precision : List ℕ) → min < 2 ^ 64
    → expiry_split (name ∷ middle ++ decimal min ∷ precision ∷ []) ≡ None
no_expiry name middle min precision h =
    let long : nat_le 2 (length (name ∷ middle ++ decimal min ∷ precision ∷ [])) ≡ true =
    le-leb 2 (length (name ∷ middle ++ decimal min ∷ precision ∷ [])) (omega (arith, length-append middle (decimal min ∷ precision ∷ []))) in
    let other : bytes_eq (word (name ∷ middle ++ decimal min ∷ precision ∷ []) (length (name ∷ middle ++ decimal min ∷ precision ∷ []) - 2)) (codes "expires") ≡ false =
    ap (λ w. bytes_eq w (codes "expires")) (second_last_field name middle (decimal min) precision) ∙ no_expires min h in
    rw (long, other) refl

-- those of one that expires
with_expiry : (name : List ℕ) (middle : List (List ℕ)) (t : List ℕ)
    → expiry_split (name ∷ middle ++ codes "expires" ∷ t ∷ []) ≡ Some (name ∷ middle, t)
with_expiry name middle t =
    let fields : List (List ℕ) = name ∷ middle ++ codes "expires" ∷ t ∷ [] in
    let long : nat_le 2 (length (name ∷ middle ++ codes "expires" ∷ t ∷ [])) ≡ true =
    le-leb 2 (length (name ∷ middle ++ codes "expires" ∷ t ∷ [])) (omega (arith, length-append middle (codes "expires" ∷ t ∷ []))) in
    let keyword : bytes_eq (word (name ∷ middle ++ codes "expires" ∷ t ∷ []) (length (name ∷ middle ++ codes "expires" ∷ t ∷ []) - 2)) (codes "expires") ≡ true =
    ap (λ w. bytes_eq w (codes "expires")) (second_last_field name middle (codes "expires") t) in
    let front : take (length (name ∷ middle ++ codes "expires" ∷ t ∷ []) - 2) (name ∷ middle ++ codes "expires" ∷ t ∷ []) ≡ name ∷ middle =
    take_at (name ∷ middle) (codes "expires" ∷ t ∷ []) (length (name ∷ middle ++ codes "expires" ∷ t ∷ []) - 2) (omega (arith, length-append middle (codes "expires" ∷ t ∷ []))) in
    let last : word (name ∷ middle ++ codes "expires" ∷ t ∷ []) (length (name ∷ middle ++ codes "expires" ∷ t ∷ []) - 1) ≡ t =
    last_field name middle (codes "expires") t in
    rw (long, keyword, front, last) refl

task_of-words : (name : List ℕ) (kind : Kind) (min precision : ℕ) (expires : Option ℕ) → IsInRange (Task name kind min precision expires)
    → task_of (name ∷ kind_words kind ++ decimal min ∷ decimal precision ∷ expiry_words expires) ≡ Some (Task name kind min precision expires)
task_of-words name kind min precision expires h = by expires h.7 where
  made : (expires : Option ℕ) → task_until expires (name ∷ kind_words kind ++ decimal min ∷ decimal precision ∷ []) ≡ Some (Task name kind min precision expires)
  made expires =
      task_until-fields name (kind_words kind) (decimal min) (decimal precision) kind expires (kind_of-kind_words kind h.1 h.6)
      ∙ rw (name_of-itself name h.0, bounded_of-decimal 1 GREATEST_MINIMUM min h.2 h.3 (omega (arith, h.3)), bounded_of-decimal 1 GREATEST_PRECISION precision h.4 h.5 (omega (arith, h.5))) refl

  by : (expires : Option ℕ) → IsExpiry expires
      → task_of (name ∷ kind_words kind ++ decimal min ∷ decimal precision ∷ expiry_words expires) ≡ Some (Task name kind min precision expires)
  by None range =
      ap (λ o. option_map_or expiring o (task_until None (name ∷ kind_words kind ++ decimal min ∷ decimal precision ∷ [])))
      (no_expiry name (kind_words kind) min (decimal precision) (omega (arith, h.3))) ∙ made None
  by (Some t) range =
      let numbers : List (List ℕ) = decimal min ∷ decimal precision ∷ [] in
      let apart : kind_words kind ++ decimal min ∷ decimal precision ∷ expiry_words (Some t) ≡ (kind_words kind ++ decimal min ∷ decimal precision ∷ []) ++ codes "expires" ∷ decimal t ∷ [] =
      sym (append_assoc (kind_words kind) (decimal min ∷ decimal precision ∷ []) (codes "expires" ∷ decimal t ∷ [])) in
      ap (λ (fs : List (List ℕ)). task_of (name ∷ fs)) apart
      ∙ ap (λ o. option_map_or expiring o (task_until None (name ∷ (kind_words kind ++ decimal min ∷ decimal precision ∷ []) ++ codes "expires" ∷ decimal t ∷ [])))
      (with_expiry name (kind_words kind ++ decimal min ∷ decimal precision ∷ []) (decimal t))
      ∙ ap (λ o. o >>= λ at. task_until (Some at) (name ∷ kind_words kind ++ decimal min ∷ decimal precision ∷ [])) (bounded_of-decimal 0 LATEST_TIME t (omega arith) range (omega (arith, range)))
      ∙ made (Some t)

buckets_written-words : (buckets : ℕ) → 1 ≤ buckets → buckets ≤ MOST_BUCKETS → buckets_written (bucket_words buckets) ≡ Some buckets
buckets_written-words buckets some few = elim (cases_Bool (nat_eq buckets 1)) [
  | inl one ↦ rw one (ap Some (sym (eqb-true buckets 1 one)))
  | inr more ↦ rw more (bounded_of-decimal 1 MOST_BUCKETS buckets some few (omega (arith, few)))
]

collect_of-words : (name : List ℕ) (start buckets : ℕ) (words : List (List ℕ)) → IsName name → start ≤ LATEST_TIME → buckets_written words ≡ Some buckets
    → collect_of (name ∷ decimal start ∷ words) ≡ Some (Collect name (record { start = start; buckets = buckets }))
collect_of-words name start buckets words is time e =
    let long : nat_le 2 (length (name ∷ decimal start ∷ words)) ≡ true = le-leb 2 (length (name ∷ decimal start ∷ words)) (omega arith) in
    rw (long, name_of-itself name is, bounded_of-decimal 0 LATEST_TIME start (omega arith) time (omega (arith, time)), e) refl

line_of_words-words_of : (line : Line) → 0 < length (words_of line) → IsInRange line → line_of_words (words_of line) ≡ Some line
line_of_words-words_of Blank some h = absurd (omega arith)
line_of_words-words_of (Task name kind min precision expires) some h = task_of-words name kind min precision expires h
line_of_words-words_of (Now t) some h = rw (bounded_of-decimal 0 LATEST_TIME t (omega arith) h (omega arith)) refl
line_of_words-words_of (Measure name id time value seed) some h =
    ap (λ o. o >>= λ numbers. measure_with name (encode_lower id) (decimal time) numbers (encode_lower seed)) (measurement_of-text value h.3)
    ∙ rw (
      name_of-itself name h.0,
      octets_of-encode_lower id h.1,
      bounded_of-decimal 0 LATEST_TIME time (omega arith) h.2 (omega arith),
      octets_of-encode_lower seed h.4,
    ) refl
line_of_words-words_of (Upload report) some h = ap (λ o. o >>= λ bytes. Some (Upload bytes)) (report_of-encode_of report h.0 h.1)
line_of_words-words_of (Collect name span) some h =
    collect_of-words name span.start span.buckets (bucket_words span.buckets) h.0 h.1 (buckets_written-words span.buckets h.2.0 h.2.1)
line_of_words-words_of (Restart Leader) some h = refl
line_of_words-words_of (Restart Helper) some h = refl

-- a collection of one bucket with its 1
line_of_words-one : (name : List ℕ) (start : ℕ) → IsName name → start ≤ LATEST_TIME
    → line_of_words (words_of (Collect name (one_bucket start)) ++ codes "1" ∷ []) ≡ Some (Collect name (one_bucket start))
line_of_words-one name start is time = collect_of-words name start 1 (codes "1" ∷ []) is time refl

-- words that begin visibly are read one by one
line_of-words : (words : List (List ℕ)) → is_blank (join_with_byte 32 words) ≡ false → 0 < length words → All (All IsVisible) words
    → line_of (join_with_byte 32 words) ≡ line_of_words words
line_of-words words full some visible =
    let chars : list_all is_line_char (join_with_byte 32 words) ≡ true = list_all-from_AllPass is_line_char (join_with_byte 32 words)
    (All-join_with_byte (λ c. is_line_char c ≡ true) 32 words refl
    (All-weaker (All IsVisible) (All (λ c. is_line_char c ≡ true)) (All-weaker IsVisible (λ c. is_line_char c ≡ true) (λ c v. grind (arith, nat_tests))) words visible)) in
    rw (chars, full, slice_split-words words some visible) refl

line_of-full : (line : Line) → is_blank (spelling line) ≡ false → 0 < length (words_of line) → IsInRange line → line_of (spelling line) ≡ Some line
line_of-full line full some h = line_of-words (words_of line) full some (visible_words line h) ∙ line_of_words-words_of line some h

line_of-spelling : (line : Line) → IsInRange line → line_of (spelling line) ≡ Some line
line_of-spelling Blank h = refl
line_of-spelling (Task name kind min precision expires) h = line_of-full (Task name kind min precision expires) refl (omega arith) h
line_of-spelling (Now t) h = line_of-full (Now t) refl (omega arith) h
line_of-spelling (Measure name id time value seed) h = line_of-full (Measure name id time value seed) refl (omega arith) h
line_of-spelling (Upload report) h = line_of-full (Upload report) refl (omega arith) h
line_of-spelling (Collect name span) h = line_of-full (Collect name span) refl (omega arith) h
line_of-spelling (Restart node) h = line_of-full (Restart node) refl (omega arith) h

line_of-one : (words : List (List ℕ)) (line : Line) → SaysOne words line → IsInRange line → line_of (join_with_byte 32 words) ≡ Some line
line_of-one words line one h =
    let range : IsInRange (Collect one.name (one_bucket one.start)) = subst IsInRange one.collects h in
    let text : words ≡ words_of (Collect one.name (one_bucket one.start)) ++ codes "1" ∷ [] = one.with_one ∙ ap (λ l. words_of l ++ codes "1" ∷ []) one.collects in
    let visible : All (All IsVisible) (words_of (Collect one.name (one_bucket one.start)) ++ codes "1" ∷ []) =
    subst (All (All IsVisible)) text (visible_all words line (inr one) h) in
    ap (λ (ws : List (List ℕ)). line_of (join_with_byte 32 ws)) text
    ∙ line_of-words (words_of (Collect one.name (one_bucket one.start)) ++ codes "1" ∷ []) refl (omega arith) visible
    ∙ line_of_words-one one.name one.start range.0 range.1 ∙ ap Some (sym one.collects)

line_of-written : (text : List ℕ) (line : Line) → IsWritten text line → line_of text ≡ Some line
line_of-written text line w = ap line_of w.joined ∙ by w.are_words where
  by : AreWordsOf w.words line → line_of (join_with_byte 32 w.words) ≡ Some line
  by (inl e) = ap (λ (ws : List (List ℕ)). line_of (join_with_byte 32 ws)) e ∙ line_of-spelling line w.in_range
  by (inr one) = line_of-one w.words line one w.in_range

line_of-comment : (rest : List ℕ) → All (λ c. is_line_char c ≡ true) rest → line_of (35 ∷ rest) ≡ Some Blank
line_of-comment rest h = rw (list_all-from_AllPass is_line_char rest h) refl

pub line_of-spelled : (text : List ℕ) (line : Line) → SpellsLine text line → line_of text ≡ Some line
line_of-spelled text line (inl w) = line_of-written text line w
line_of-spelled text line (inr s) = ap line_of s.1.1 ∙ line_of-comment s.1.0 s.1.2 ∙ ap Some (sym s.0)

-- a line's characters
pub line_chars : (text : List ℕ) (line : Line) → SpellsLine text line → All (λ c. is_line_char c ≡ true) text
line_chars text line s =
    AllPass-from_list_all is_line_char text
    (guarded (list_all is_line_char text) (if is_blank text then Some Blank else line_of_words (slice_split is_space text)) line (line_of-spelled text line s)).0
