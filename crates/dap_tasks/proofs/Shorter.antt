-- What is left of a TOML text behind one of its parts is no longer than the text.
use Rattle.std.proofs.Common.{ℕ, zero, suc, ◌≤◌, Bool, true, false, cond, if◌then◌else◌, ◌==◌, ◌&&◌, nat_lt, List, [], ◌∷◌, ◌++◌, length, drop, take, Option, Some, None, IfSome, option_map, arith, length-drop}
use Rattle.std.specs.Prelude.{is_some, unwrap_or, encode_utf8}
use Rattle.std.specs.List.{prefix_len}
use Rattle.std.specs.Option.{option_and_then}
use Rattle.std.specs.Str.Parse.{digits_value}
use Rattle.toml_parser.specs.Lexical.{Read, first, line_feed, backslash, equals, right_bracket, right_brace, is_ws, starts_newline, skip_ws, skip_turn, skip_from, skip_blank, skip_lines, split_while, is_bare}
use Rattle.toml_parser.specs.Strings.{Key, simple_escape, at_delims, hex_len, hex_escape, escape_char, escape, special, after_piece, body, trim_newline, one_line, quoted, simple_key, key_after, recursion_limit}
use Rattle.toml_parser.specs.Numbers.{word_len, word_value, unquoted}
use Rattle.toml_parser.specs.declared.scalar.Scalar.{Scalar}
use Rattle.toml.specs.Data.{Data, string, array, table, Items, no_items, push_item}
use Rattle.toml.specs.Tables.{Nodes, no_nodes, close, put, key_value, std_table, array_table}
use Rattle.toml.specs.Parse.{after_byte, after_element, key_equals, keyval, items, members, scalar_data, atom, val, header_key, expression, line}

-- what is left, if anything was read, has at most n bytes
pub record Leaves {A : Type 0} (n : ℕ) (read : Read A) : Type 0 where
  pub holds : IfSome read (λ p. length p.1 ≤ n)

-- the text, if there is one, has at most n bytes
pub record Fits (n : ℕ) (text : Option (List ℕ)) : Type 0 where
  pub holds : IfSome text (λ t. length t ≤ n)

pub leaves-none : {A : Type 0} (n : ℕ) → Leaves {A = A} n None
leaves-none n = record { holds = tt }

pub leaves-some : {A : Type 0} (n : ℕ) (x : A) (text : List ℕ) → length text ≤ n → Leaves n (Some (x, text))
leaves-some n x text h = record { holds = h }

pub leaves-if : {A : Type 0} {n : ℕ} {r s : Read A} (b : Bool) → Leaves n r → Leaves n s → Leaves n (if b then r else s)
leaves-if true h k = h
leaves-if false h k = k

pub leaves-bind : {A B : Type 0} {n : ℕ} {f : A × List ℕ → Read B} {r : Read A} → Leaves n r → ((p : A × List ℕ) → length p.1 ≤ n → Leaves n (f p)) → Leaves n (option_and_then f r)
leaves-bind {r = None} h k = record { holds = tt }
leaves-bind {r = Some p} h k = k p h.holds

pub leaves-map : {A B : Type 0} {n : ℕ} {r : Read A} (f : A → B) → Leaves n r → Leaves n (option_map (λ p. (f p.0, p.1)) r)
leaves-map {r = None} f h = record { holds = tt }
leaves-map {r = Some p} f h = record { holds = h.holds }

fits-none : (n : ℕ) → Fits n None
fits-none n = record { holds = tt }

fits-some : (n : ℕ) (text : List ℕ) → length text ≤ n → Fits n (Some text)
fits-some n text h = record { holds = h }

fits-if : {n : ℕ} {r s : Option (List ℕ)} (b : Bool) → Fits n r → Fits n s → Fits n (if b then r else s)
fits-if true h k = h
fits-if false h k = k

fits-bind : {B : Type 0} {n : ℕ} {f : List ℕ → Read B} {r : Option (List ℕ)} → Fits n r → ((t : List ℕ) → length t ≤ n → Leaves n (f t)) → Leaves n (option_and_then f r)
fits-bind {r = None} h k = record { holds = tt }
fits-bind {r = Some t} h k = k t h.holds

fits-map : {B : Type 0} {n : ℕ} {r : Option (List ℕ)} (x : B) (g : List ℕ → List ℕ) → Fits n r → ((t : List ℕ) → length t ≤ n → length (g t) ≤ n) → Leaves n (option_map (λ t. (x, g t)) r)
fits-map {r = None} x g h k = record { holds = tt }
fits-map {r = Some t} x g h k = record { holds = k t h.holds }

-- what is read beside a text
with-text : {A B : Type 0} {n : ℕ} (f : A → B) (text : List ℕ) (r : Option A) → length text ≤ n → Leaves n (option_map (λ x. (f x, text)) r)
with-text f text None h = record { holds = tt }
with-text f text (Some x) h = record { holds = h }

pub short-drop : (k n : ℕ) (text : List ℕ) → length text ≤ n → length (drop k text) ≤ n
short-drop k n text h = omega (arith, length-drop k text)

-- ---- blanks

short-skip_from : (comments inside : Bool) (text : List ℕ) → length (skip_from comments inside text) ≤ length text
unfolding skip_from
short-skip_from comments inside [] = omega arith
short-skip_from comments inside (c ∷ cs) =
    let turn = skip_turn comments inside c (first cs) in
    elim (is_some turn) as (λ b. length (cond b (skip_from comments (unwrap_or turn false) cs) (c ∷ cs)) ≤ length (c ∷ cs)) [
      | true ↦ omega (arith, short-skip_from comments (unwrap_or turn false) cs)
      | false ↦ omega arith
    ]

pub short-skip_blank : (n : ℕ) (text : List ℕ) → length text ≤ n → length (skip_blank text) ≤ n
short-skip_blank n text h = omega (arith, short-skip_from true false text)

short-skip_lines : (n : ℕ) (text : List ℕ) → length text ≤ n → length (skip_lines text) ≤ n
short-skip_lines n text h = omega (arith, short-skip_from false false text)

pub short-skip_ws : (n : ℕ) (text : List ℕ) → length text ≤ n → length (skip_ws text) ≤ n
unfolding skip_ws
short-skip_ws n text h = short-drop (prefix_len is_ws text) n text h

-- ---- strings

leaves-hex_escape : (k n : ℕ) (text : List ℕ) → length text ≤ n → Leaves n (hex_escape k text)
unfolding hex_escape
leaves-hex_escape k n text h = leaves-if _ (leaves-some n (digits_value 16 (take k text)) (drop k text) (short-drop k n text h)) (leaves-none n)

leaves-escape_char : (n : ℕ) (text : List ℕ) → length text ≤ n → Leaves n (escape_char text)
unfolding escape_char
leaves-escape_char n text h =
    leaves-if _ (leaves-hex_escape (hex_len (first text)) n (drop 1 text) (short-drop 1 n text h)) (with-text (λ (c : ℕ). c) (drop 1 text) (simple_escape (first text)) (short-drop 1 n text h))

leaves-escape : (multi : Bool) (n : ℕ) (text : List ℕ) → length text ≤ n → Leaves n (escape multi text)
unfolding escape
leaves-escape multi n text h =
    leaves-if _ (leaves-some n [] (skip_lines text) (short-skip_lines n text h)) (leaves-map encode_utf8 (leaves-escape_char n text h))

leaves-at_delims : (delim n : ℕ) (text : List ℕ) → length text ≤ n → Leaves n (at_delims delim text)
leaves-at_delims delim n text h =
    let count = prefix_len (λ c. c == delim) text in
    leaves-if (count == 3) (leaves-some n None (drop 3 text) (short-drop 3 n text h))
    (leaves-if (nat_lt count 6) (leaves-some n (Some (delim ∷ [])) (drop 1 text) (short-drop 1 n text h)) (leaves-none n))

leaves-special : (delim : ℕ) (multi : Bool) (n : ℕ) (text : List ℕ) → length text ≤ n → Leaves n (special delim multi text)
unfolding special
leaves-special delim multi n text h =
    let next = short-drop 1 n text h in
    leaves-if (first text == delim)
    (leaves-if multi (leaves-at_delims delim n text h) (leaves-some n None (drop 1 text) next))
    (leaves-if (first text == backslash) (leaves-map Some (leaves-escape multi n (drop 1 text) next))
    (leaves-if (multi && starts_newline text) (leaves-some n (Some (first text ∷ [])) (drop 1 text) next) (leaves-none n)))

leaves-after_piece : (n : ℕ) (more : List ℕ → Read (List ℕ)) (piece : Option (List ℕ)) (rest : List ℕ) → length rest ≤ n → Leaves n (more rest) → Leaves n (after_piece more piece rest)
leaves-after_piece n more None rest h k = leaves-some n [] rest h
leaves-after_piece n more (Some bytes) rest h k = leaves-map (λ (xs : List ℕ). bytes ++ xs) k

leaves-body : (delim : ℕ) (multi : Bool) (m n : ℕ) (text : List ℕ) → length text ≤ n → Leaves n (body delim multi m text)
unfolding body
leaves-body delim multi zero n text h = leaves-none n
leaves-body delim multi (suc m) n text h =
    leaves-if _
    (leaves-map (λ (xs : List ℕ). first text ∷ xs) (leaves-body delim multi m n (drop 1 text) (short-drop 1 n text h)))
    (leaves-bind (leaves-special delim multi n text h) (λ p k. leaves-after_piece n (body delim multi m) p.0 p.1 k (leaves-body delim multi m n p.1 k)))

leaves-one_line : (n : ℕ) (text : List ℕ) → length text ≤ n → Leaves n (one_line text)
unfolding one_line
leaves-one_line n text h = leaves-body (first text) false (length text) n (drop 1 text) (short-drop 1 n text h)

pub short-if : (n : ℕ) (b : Bool) (t u : List ℕ) → length t ≤ n → length u ≤ n → length (if b then t else u) ≤ n
short-if n true t u h k = h
short-if n false t u h k = k

short-trim_newline : (n : ℕ) (text : List ℕ) → length text ≤ n → length (trim_newline text) ≤ n
short-trim_newline n text h =
    short-if n (first text == line_feed) (drop 1 text) (if starts_newline text then drop 2 text else text) (short-drop 1 n text h)
    (short-if n (starts_newline text) (drop 2 text) text (short-drop 2 n text h) h)

leaves-quoted : (n : ℕ) (text : List ℕ) → length text ≤ n → Leaves n (quoted text)
unfolding quoted
leaves-quoted n text h =
    leaves-if _ (leaves-body (first text) true (length text) n (trim_newline (drop 3 text)) (short-trim_newline n (drop 3 text) (short-drop 3 n text h))) (leaves-one_line n text h)

-- ---- keys and values

leaves-simple_key : (n : ℕ) (text : List ℕ) → length text ≤ n → Leaves n (simple_key text)
unfolding simple_key
leaves-simple_key n text h =
    leaves-if _ (leaves-one_line n text h) (leaves-if _ (leaves-some n (split_while is_bare text).0 (split_while is_bare text).1 (short-drop (prefix_len is_bare text) n text h)) (leaves-none n))

leaves-key_after : (m n : ℕ) (path : List (List ℕ)) (text : List ℕ) → length text ≤ n → Leaves n (key_after m path text)
unfolding key_after
leaves-key_after zero n path text h = leaves-none n
leaves-key_after (suc m) n path text h =
    leaves-bind (leaves-simple_key n text h) (λ part k.
    let rest = short-skip_ws n part.1 k in
    leaves-if _
    (leaves-key_after m n (path ++ part.0 ∷ []) (skip_ws (drop 1 (skip_ws part.1))) (short-skip_ws n (drop 1 (skip_ws part.1)) (short-drop 1 n (skip_ws part.1) rest)))
    (leaves-some n (path, part.0) (skip_ws part.1) rest))

leaves-unquoted : (n : ℕ) (text : List ℕ) → length text ≤ n → Leaves n (unquoted text)
unfolding unquoted
leaves-unquoted n text h = leaves-if _ (leaves-none n) (with-text (λ (d : Scalar). d) (drop (word_len text) text) (word_value (take (word_len text) text)) (short-drop (word_len text) n text h))

leaves-atom : (n : ℕ) (text : List ℕ) → length text ≤ n → Leaves n (atom text)
unfolding atom
leaves-atom n text h = leaves-if _ (leaves-map string (leaves-quoted n text h)) (leaves-map scalar_data (leaves-unquoted n text h))

fits-after_byte : (byte n : ℕ) (text : List ℕ) → length text ≤ n → Fits n (after_byte byte text)
fits-after_byte byte n text h = fits-if _ (fits-some n (drop 1 text) (short-drop 1 n text h)) (fits-none n)

fits-after_element : (closing n : ℕ) (text : List ℕ) → length text ≤ n → Fits n (after_element closing text)
unfolding after_element
fits-after_element closing n text h =
    let rest = short-skip_blank n text h in
    fits-if _ (fits-some n (drop 1 (skip_blank text)) (short-drop 1 n (skip_blank text) rest)) (fits-if _ (fits-some n (skip_blank text) rest) (fits-none n))

pub leaves-key_equals : (n : ℕ) (text : List ℕ) → length text ≤ n → Leaves n (key_equals text)
unfolding key_equals
leaves-key_equals n text h =
    leaves-bind (leaves-key_after recursion_limit n [] text h) (λ k l.
    fits-map k.0 skip_ws (fits-after_byte equals n k.1 l) (λ rest m. short-skip_ws n rest m))

-- each value leaves no more than its text has
abbrev pub Shortens : (List ℕ → Read Data) → Type 0
Shortens value = (n : ℕ) (text : List ℕ) → length text ≤ n → Leaves n (value text)

leaves-keyval : (value : List ℕ → Read Data) → Shortens value → (n : ℕ) (text : List ℕ) → length text ≤ n → Leaves n (keyval value text)
leaves-keyval value short n text h =
    leaves-bind (leaves-key_equals n text h) (λ k l. leaves-map (λ (d : Data). (k.0, d)) (short n k.1 l))

leaves-items : (value : List ℕ → Read Data) → Shortens value → (m n : ℕ) (found : Items) (text : List ℕ) → length text ≤ n → Leaves n (items value m found text)
unfolding items
leaves-items value short zero n found text h = leaves-none n
leaves-items value short (suc m) n found text h =
    let start = short-skip_blank n text h in
    leaves-if _ (leaves-some n found (drop 1 (skip_blank text)) (short-drop 1 n (skip_blank text) start))
    (leaves-bind (short n (skip_blank text) start) (λ v k.
    fits-bind (fits-after_element right_bracket n v.1 k) (λ rest l. leaves-items value short m n (push_item found v.0) rest l)))

nodes-bind : {B : Type 0} {n : ℕ} {f : Nodes → Read B} (r : Option Nodes) → ((ns : Nodes) → Leaves n (f ns)) → Leaves n (option_and_then f r)
nodes-bind None k = record { holds = tt }
nodes-bind (Some ns) k = k ns

leaves-members : (value : List ℕ → Read Data) → Shortens value → (m n : ℕ) (found : Nodes) (text : List ℕ) → length text ≤ n → Leaves n (members value m found text)
unfolding members
leaves-members value short zero n found text h = leaves-none n
leaves-members value short (suc m) n found text h =
    let start = short-skip_blank n text h in
    leaves-if _ (leaves-some n (close found) (drop 1 (skip_blank text)) (short-drop 1 n (skip_blank text) start))
    (leaves-bind (leaves-keyval value short n (skip_blank text) start) (λ e k.
    nodes-bind (put e.0.0 e.0.1 found) (λ more.
    fits-bind (fits-after_element right_brace n e.1 k) (λ rest l. leaves-members value short m n more rest l))))

pub leaves-val : (depth : ℕ) → Shortens (val depth)
unfolding val
leaves-val zero n text h = leaves-atom n text h
leaves-val (suc depth) n text h =
    let next = short-drop 1 n text h in
    leaves-if _ (leaves-map array (leaves-items (val depth) (leaves-val depth) (length text) n no_items (drop 1 text) next))
    (leaves-if _ (leaves-map table (leaves-members (val depth) (leaves-val depth) (length text) n no_nodes (drop 1 text) next))
    (leaves-atom n text h))

-- ---- lines

leaves-header_key : (n : ℕ) (text : List ℕ) → length text ≤ n → Leaves n (header_key text)
unfolding header_key
leaves-header_key n text h =
    leaves-bind (leaves-key_after recursion_limit n [] (skip_ws text) (short-skip_ws n text h)) (λ k l.
    fits-map k.0 (λ t. t) (fits-after_byte right_bracket n k.1 l) (λ rest m. m))

pub leaves-expression : (n : ℕ) (text : List ℕ) → length text ≤ n → Leaves n (expression text)
unfolding expression
leaves-expression n text h =
    leaves-if _
    (leaves-bind (leaves-header_key n (drop 2 text) (short-drop 2 n text h)) (λ k l. fits-map (k.0, array_table) (λ t. t) (fits-after_byte right_bracket n k.1 l) (λ rest m. m)))
    (leaves-if _ (leaves-map (λ (k : Key). (k, std_table)) (leaves-header_key n (drop 1 text) (short-drop 1 n text h)))
    (leaves-map (λ (p : Key × Data). (p.0, key_value p.1)) (leaves-keyval (val recursion_limit) (leaves-val recursion_limit) n text h)))

pub leaves-line : (n : ℕ) (text : List ℕ) → length text ≤ n → Leaves n (line text)
unfolding line
leaves-line n text h =
    leaves-bind (leaves-expression n text h) (λ e k. leaves-if _ (leaves-some n e.0 e.1 k) (leaves-none n))
