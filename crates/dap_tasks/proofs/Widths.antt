-- An array in a TOML text has no more items than the text has bytes.
use Rattle.std.proofs.Common.{◌≡◌, ℕ, zero, suc, ◌+◌, ◌≤◌, Bool, true, false, if◌then◌else◌, ◌==◌, ◌&&◌, List, length, drop, slice_index, Option, Some, None, IfSome, option_map, refl, ap, arith}
use Rattle.std.specs.Option.{option_and_then}
use Rattle.toml_parser.specs.Lexical.{Read, first, left_bracket, right_bracket, left_brace, skip_blank, skip_ws}
use Rattle.toml_parser.specs.Strings.{Key, recursion_limit}
use Rattle.toml_parser.specs.declared.scalar.Scalar.{Scalar}
use Rattle.toml_parser.specs.declared.scalar.Scalar.TheVariants.{Boolean, Integer, Float, Datetime}
use Rattle.toml.specs.Data.{Data, string, integer, float, boolean, datetime, array, table, Items, no_items, item, push_item}
use Rattle.toml.specs.Parse.{after_byte, header_key, items, members, atom, val, scalar_data, keyval, expression, line, ends_line}
use Rattle.toml.specs.Tables.{no_nodes, Definition, key_value, std_table, array_table, Expression}
use Rattle.dap_tasks.proofs.Shorter.{Leaves, leaves-key_equals}

abbrev pub items_count : Items → ℕ
items_count no_items = 0
items_count (item d ds) = suc (items_count ds)

pub count-push : (ds : Items) (e : Data) → items_count (push_item ds e) ≡ suc (items_count ds)
count-push no_items e = refl
count-push (item d ds) e = ap suc (count-push ds e)

-- the value is no array of more than n items
abbrev pub IsNarrow : ℕ → Data → Type 0
IsNarrow n (array ds) = items_count ds ≤ n
IsNarrow n (string s) = Unit {0}
IsNarrow n (integer z) = Unit {0}
IsNarrow n (float x) = Unit {0}
IsNarrow n (boolean b) = Unit {0}
IsNarrow n (datetime dt) = Unit {0}
IsNarrow n (table ms) = Unit {0}

abbrev pub IsNarrowDefinition : ℕ → Definition → Type 0
IsNarrowDefinition n (key_value d) = IsNarrow n d
IsNarrowDefinition n std_table = Unit {0}
IsNarrowDefinition n array_table = Unit {0}

-- P holds of what is read, if anything is
pub record Reads {A : Type 0} (P : A → Type 0) (read : Read A) : Type 0 where
  pub holds : IfSome read (λ p. P p.0)

pub reads-none : {A : Type 0} (P : A → Type 0) → Reads P None
reads-none P = record { holds = tt }

reads-some : {A : Type 0} (P : A → Type 0) (x : A) (text : List ℕ) → P x → Reads P (Some (x, text))
reads-some P x text h = record { holds = h }

pub reads-if : {A : Type 0} {P : A → Type 0} {r s : Read A} (b : Bool) → Reads P r → Reads P s → Reads P (if b then r else s)
reads-if true h k = h
reads-if false h k = k

reads-bind : {A B : Type 0} {P : B → Type 0} {f : A → Read B} (r : Option A) → ((x : A) → Reads P (f x)) → Reads P (option_and_then f r)
reads-bind None k = record { holds = tt }
reads-bind (Some x) k = k x

-- a step whose text is no longer
reads-after : {A B : Type 0} {P : B → Type 0} {f : A × List ℕ → Read B} (n : ℕ) (r : Read A) → Leaves n r → ((p : A × List ℕ) → length p.1 ≤ n → Reads P (f p)) → Reads P (option_and_then f r)
reads-after n None h k = record { holds = tt }
reads-after n (Some p) h k = k p h.holds

reads-map : {A B : Type 0} {P : A → Type 0} (Q : B → Type 0) (f : A → B) (r : Read A) → Reads P r → ((x : A) → P x → Q (f x)) → Reads Q (option_map (λ p. (f p.0, p.1)) r)
reads-map Q f None h k = record { holds = tt }
reads-map Q f (Some p) h k = record { holds = k p.0 h.holds }

reads-any : {A : Type 0} (r : Read A) → Reads (λ _. Unit {0}) r
reads-any None = record { holds = tt }
reads-any (Some p) = record { holds = tt }

-- ---- values

items-counted : (each : List ℕ → Read Data) (m n : ℕ) (found : Items) (text : List ℕ) → items_count found + m ≤ n → Reads (λ ds. items_count ds ≤ n) (items each m found text)
unfolding items
items-counted each zero n found text h = reads-none (λ ds. items_count ds ≤ n)
items-counted each (suc m) n found text h =
    reads-if _ (reads-some (λ ds. items_count ds ≤ n) found (drop 1 (skip_blank text)) (omega arith))
    (reads-bind (each (skip_blank text)) (λ v. reads-bind _ (λ rest. items-counted each m n (push_item found v.0) rest (omega (arith, count-push found v.0)))))

scalar-narrow : (n : ℕ) (d : Scalar) → IsNarrow n (scalar_data d)
scalar-narrow n (Boolean b) = tt
scalar-narrow n (Integer z) = tt
scalar-narrow n (Float x) = tt
scalar-narrow n (Datetime dt) = tt

atom-narrow : (n : ℕ) (text : List ℕ) → Reads (IsNarrow n) (atom text)
unfolding atom
atom-narrow n text =
    reads-if _ (reads-map (IsNarrow n) string _ (reads-any _) (λ x h. tt)) (reads-map (IsNarrow n) scalar_data _ (reads-any _) (λ d h. scalar-narrow n d))

val-narrow : (depth n : ℕ) (text : List ℕ) → length text ≤ n → Reads (IsNarrow n) (val depth text)
unfolding val
val-narrow zero n text h = atom-narrow n text
val-narrow (suc depth) n text h =
    reads-if (first text == left_bracket) (reads-map (IsNarrow n) array _ (items-counted (val depth) (length text) n no_items (drop 1 text) (omega arith)) (λ ds k. k))
    (reads-if (first text == left_brace) (reads-map (IsNarrow n) table (members (val depth) (length text) no_nodes (drop 1 text)) (reads-any _) (λ ms k. tt)) (atom-narrow n text))

keyval-narrow : (n : ℕ) (text : List ℕ) → length text ≤ n → Reads (λ p. IsNarrow n p.1) (keyval (val recursion_limit) text)
keyval-narrow n text h =
    reads-after n _ (leaves-key_equals n text h) (λ k l. reads-map (λ (p : Key × Data). IsNarrow n p.1) (λ (d : Data). (k.0, d)) _ (val-narrow recursion_limit n k.1 l) (λ d m. m))

-- the value of an expression that has one
abbrev pub IsNarrowLine : ℕ → Expression → Type 0
IsNarrowLine n e = IsNarrowDefinition n e.1

header-narrow : (n : ℕ) (k : Key) (rest : Option (List ℕ)) → Reads (IsNarrowLine n) (option_map (λ t. ((k, array_table), t)) rest)
header-narrow n k None = record { holds = tt }
header-narrow n k (Some t) = record { holds = tt }

expression-narrow : (n : ℕ) (text : List ℕ) → length text ≤ n → Reads (IsNarrowLine n) (expression text)
unfolding expression
expression-narrow n text h =
    reads-if (first text == left_bracket && slice_index text 1 == left_bracket)
    (reads-bind (header_key (drop 2 text)) (λ (k : Key × List ℕ). header-narrow n k.0 (after_byte right_bracket k.1)))
    (reads-if (first text == left_bracket) (reads-map (IsNarrowLine n) (λ (k : Key). (k, std_table)) (header_key (drop 1 text)) (reads-any _) (λ k m. tt))
    (reads-map (IsNarrowLine n) (λ (p : Key × Data). (p.0, key_value p.1)) _ (keyval-narrow n text h) (λ p m. m)))

-- a line keeps what its expression is
line-kept : (n : ℕ) (r : Read Expression) (ends : List ℕ → Bool) → Reads (IsNarrowLine n) r → Reads (IsNarrowLine n) (option_and_then (λ e. if ends e.1 then Some e else None) r)
line-kept n None ends h = record { holds = tt }
line-kept n (Some e) ends h = reads-if (ends e.1) (record { holds = h.holds }) (reads-none (IsNarrowLine n))

pub line-narrow : (n : ℕ) (text : List ℕ) → length text ≤ n → Reads (IsNarrowLine n) (line text)
unfolding line
line-narrow n text h = line-kept n (expression text) (λ (t : List ℕ). ends_line (skip_ws t)) (expression-narrow n text h)
