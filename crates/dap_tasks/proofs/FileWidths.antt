-- An array at the top of a TOML document, and so the tables of a file, has no more items than the text has bytes.
use Rattle.std.proofs.Common.{◌≡◌, ℕ, zero, suc, ◌+◌, ◌≤◌, Bool, true, false, if◌then◌else◌, ◌==◌, List, [], ◌∷◌, ◌++◌, length, drop, Option, Some, None, IfSome, IfOk, Result, Ok, Err, String, BTreeMap, Global, Bor, option_map, refl, sym, ap, ◌∙◌, subst, arith}
use Rattle.std.proofs.lemmas.List.{length-map}
use Rattle.std.proofs.lemmas.Option.{same_Some}
use Rattle.std.specs.Option.{option_and_then}
use Rattle.toml_parser.specs.Lexical.{Read, skip_blank}
use Rattle.toml_parser.specs.Strings.{Key}
use Rattle.toml.specs.Data.{table, Members, no_members, member}
use Rattle.toml.specs.Parse.{line, lines, skip_bom, parse_document}
use Rattle.toml.specs.Tables.{Node, value, open_table, open_array, Nodes, no_nodes, node, close, close_node, Definition, key_value, std_table, array_table, at_key, put, Document, Expression, define_as, define}
use Rattle.toml.specs.View.{table_view}
use Rattle.toml.specs.declared.value.Value.{Value}
use Rattle.dap_tasks.specs.File.{document_of, tables_under_task}
use Rattle.dap_tasks.specs.Reads.{tables_seen}
use Rattle.dap_tasks.specs.TaskFile.{table_items, HasTables}
use Rattle.dap_tasks.proofs.FileLaws.{file_read}
use Rattle.dap_tasks.proofs.Shorter.{Leaves, leaves-line, short-skip_blank, short-drop, short-if}
use Rattle.dap_tasks.proofs.Widths.{items_count, count-push, IsNarrow, IsNarrowDefinition, Reads, IsNarrowLine, line-narrow}
use Rattle.dap_tasks.proofs.NodeWidths.{NodeFits, NodesFit, Fit, nodes-more, along_header-fits, along_dots-fits, at_key-fits}

record DocumentFits (n k : ℕ) (doc : Option Document) : Type 0 where
  holds : IfSome doc (λ d. NodesFit n k d.0)

rooted : (n k : ℕ) (section : List (List ℕ)) (nodes : Option Nodes) → Fit n k nodes → DocumentFits n k (option_map (λ root. (root, section)) nodes)
rooted n k section None h = record { holds = tt }
rooted n k section (Some ns) h = record { holds = h.holds }

define_as-fits : (n k : ℕ) (doc : Document) (key : Key) (what : Definition) → NodesFit n k doc.0 → IsNarrowDefinition n what → DocumentFits n (suc k) (define_as doc key what)
define_as-fits n k doc key (key_value d) fits narrow =
    rooted n (suc k) doc.1 _ (along_header-fits n k doc.1 (put key d) (along_dots-fits n k key.0 (at_key key.1 (key_value d)) (at_key-fits n k key.1 (key_value d) narrow)) doc.0 fits)
define_as-fits n k doc key std_table fits narrow = rooted n (suc k) (key.0 ++ key.1 ∷ []) _ (along_header-fits n k key.0 (at_key key.1 std_table) (at_key-fits n k key.1 std_table tt) doc.0 fits)
define_as-fits n k doc key array_table fits narrow = rooted n (suc k) (key.0 ++ key.1 ∷ []) _ (along_header-fits n k key.0 (at_key key.1 array_table) (at_key-fits n k key.1 array_table tt) doc.0 fits)

define-fits : (n k : ℕ) (doc : Document) (e : Expression) → NodesFit n k doc.0 → IsNarrowLine n e → DocumentFits n (suc k) (define doc e)
unfolding define
define-fits n k doc e fits narrow = define_as-fits n k doc e.0 e.1 fits narrow

document-if : (n k : ℕ) (b : Bool) (r s : Option Document) → DocumentFits n k r → DocumentFits n k s → DocumentFits n k (if b then r else s)
document-if n k true r s h l = h
document-if n k false r s h l = l

document-after : (n j k : ℕ) (f : Document → Option Document) (doc : Option Document) → DocumentFits n j doc → ((d : Document) → NodesFit n j d.0 → DocumentFits n k (f d)) → DocumentFits n k (option_and_then f doc)
document-after n j k f None h l = record { holds = tt }
document-after n j k f (Some d) h l = l d h.holds

line-after : (n k : ℕ) (f : Expression × List ℕ → Option Document) (r : Read Expression) → Leaves n r → Reads (IsNarrowLine n) r
    → ((e : Expression × List ℕ) → length e.1 ≤ n → IsNarrowLine n e.0 → DocumentFits n k (f e)) → DocumentFits n k (option_and_then f r)
line-after n k f None short narrow l = record { holds = tt }
line-after n k f (Some e) short narrow l = l e short.holds narrow.holds

lines-fit : (m n k : ℕ) (doc : Document) (text : List ℕ) → length text ≤ n → k + m ≤ suc n → NodesFit n k doc.0 → DocumentFits n n (lines m doc text)
unfolding lines
lines-fit zero n k doc text short count fits = record { holds = tt }
lines-fit (suc m) n k doc text short count fits =
    let start = short-skip_blank n text short in
    document-if n n (length (skip_blank text) == 0) (Some doc) _ (record { holds = nodes-more n k n doc.0 (omega arith) fits })
    (line-after n n _ (line (skip_blank text)) (leaves-line n (skip_blank text) start) (line-narrow n (skip_blank text) start) (λ e shorter narrow.
    document-after n (suc k) n _ (define doc e.0) (define-fits n k doc e.0 fits narrow) (λ next more. lines-fit m n (suc k) next e.1 shorter (omega arith) more)))

abbrev AreNarrow : ℕ → Members → Type 0
AreNarrow n no_members = Unit {0}
AreNarrow n (member key d ms) = IsNarrow n d × AreNarrow n ms

node-narrow : (n : ℕ) (x : Node) → NodeFits n n x → IsNarrow n (close_node x)
node-narrow n (value d) h = h
node-narrow n (open_table origin ns) h = tt
node-narrow n (open_array done last) h = omega (arith, h, count-push done (table (close last)))

nodes-narrow : (n : ℕ) (ns : Nodes) → NodesFit n n ns → AreNarrow n (close ns)
nodes-narrow n no_nodes fits = tt
nodes-narrow n (node key x ns) fits = (node-narrow n x fits.0, nodes-narrow n ns fits.1)

short-skip_bom : (text : List ℕ) → length (skip_bom text) ≤ length text
unfolding skip_bom
short-skip_bom text = short-if (length text) _ (drop 3 text) text (short-drop 3 (length text) text (omega arith)) (omega arith)

closed : (n : ℕ) (doc : Option Document) (document : Members) → DocumentFits n n doc → option_map (λ d. close d.0) doc ≡ Some document → AreNarrow n document
closed n None document h e = cc e
closed n (Some d) document h e = subst (AreNarrow n) (same_Some (close d.0) document e) (nodes-narrow n d.0 h.holds)

document-narrow : (text : List ℕ) (document : Members) → parse_document text ≡ Some document → AreNarrow (length text) document
unfolding parse_document
document-narrow text document e =
    closed (length text) _ document (lines-fit (suc (length text)) (length text) 0 (no_nodes, []) (skip_bom text) (short-skip_bom text) (omega arith) tt) e

count-tables : (tables : List Members) → items_count (table_items tables) ≡ length tables
count-tables [] = refl
count-tables (t ∷ ts) = ap suc (count-tables ts)

-- a file has no more tables than bytes
pub tables-fit : (bytes : List ℕ) (tables : List Members) → HasTables bytes tables → length tables ≤ length bytes
tables-fit bytes tables h = omega (arith, count-tables tables, (document-narrow bytes _ h.parsed).0)

-- the tables that the reader has, which are as many
pub few-tables : (bytes : List ℕ) (document : Members) (tables : List (Bor (BTreeMap (String Global) Value))) → Some document ≡ document_of bytes → Some (tables_seen tables) ≡ tables_under_task document
    → (length tables ≤ length bytes) × (length tables ≤ 1048576)
few-tables bytes document tables read seen =
    let file = file_read bytes (tables_seen tables) (ap (option_and_then tables_under_task) (sym read) ∙ sym seen) in
    let fits = tables-fit bytes (tables_seen tables) file in
    let same : length (tables_seen tables) ≡ length tables = length-map tables (λ (t : Bor (BTreeMap (String Global) Value)). table_view t.now) in
    let short : length bytes ≤ 1048576 = file.short in
    (omega arith, omega arith)

pub if_ok-more : {A E : Type 0} (count : A → ℕ) (r : Result A E) (m n : ℕ) → m ≤ n → IfOk r (λ x. count x ≤ m) → IfOk r (λ x. count x ≤ n)
if_ok-more count (Ok x) m n h few = omega (arith, h, few)
if_ok-more count (Err e) m n h few = tt
