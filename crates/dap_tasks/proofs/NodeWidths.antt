-- A key or a header adds at most one table to an array of tables.
use Rattle.std.proofs.Common.{ℕ, suc, ◌≤◌, true, false, if◌then◌else◌, List, [], ◌∷◌, Option, Some, None, IfSome, option_map, nat_cmp, Less, Equal, Greater, arith}
use Rattle.std.specs.Cmp.Lexicographic.{slice_cmp}
use Rattle.std.specs.Ordering.{match_ordering}
use Rattle.toml.specs.Data.{table, Items, same_key}
use Rattle.toml.specs.Tables.{Origin, implicit, dotted, header, Node, value, open_table, open_array, Nodes, no_nodes, node, get_node, insert, replace, close, Edit, header_node, dot_node, by_header, by_dot, along_header, along_dots, Definition, key_value, std_table, array_table, new_node, redefine, at_found, at_key}
use Rattle.dap_tasks.proofs.Widths.{items_count, count-push, IsNarrow, IsNarrowDefinition}

-- a value is narrow, and an array of tables has at most k
abbrev pub NodeFits : ℕ → ℕ → Node → Type 0
NodeFits n k (value d) = IsNarrow n d
NodeFits n k (open_table origin ns) = Unit {0}
NodeFits n k (open_array done last) = suc (items_count done) ≤ k

abbrev pub NodesFit : ℕ → ℕ → Nodes → Type 0
NodesFit n k no_nodes = Unit {0}
NodesFit n k (node key x ns) = NodeFits n k x × NodesFit n k ns

-- the same where there are nodes
pub record Fit (n k : ℕ) (nodes : Option Nodes) : Type 0 where
  pub holds : IfSome nodes (NodesFit n k)

node-more : (n j k : ℕ) (x : Node) → j ≤ k → NodeFits n j x → NodeFits n k x
node-more n j k (value d) h fits = fits
node-more n j k (open_table origin ns) h fits = tt
node-more n j k (open_array done last) h fits = omega (arith, h, fits)

pub nodes-more : (n j k : ℕ) (ns : Nodes) → j ≤ k → NodesFit n j ns → NodesFit n k ns
nodes-more n j k no_nodes h fits = tt
nodes-more n j k (node key x ns) h fits = (node-more n j k x h fits.0, nodes-more n j k ns h fits.1)

nodes-insert : (n k : ℕ) (key : List ℕ) (x : Node) (ns : Nodes) → NodeFits n k x → NodesFit n k ns → NodesFit n k (insert key x ns)
nodes-insert n k key x no_nodes here more = (here, tt)
nodes-insert n k key x (node l y ns) here more =
    elim (slice_cmp nat_cmp key l) as (λ o. NodesFit n k (match_ordering o (node key x (node l y ns)) (node l x ns) (node l y (insert key x ns)))) [
      | Less ↦ (here, more)
      | Equal ↦ (here, more.1)
      | Greater ↦ (more.0, nodes-insert n k key x ns here more.1)
    ]

nodes-replace : (n k : ℕ) (key : List ℕ) (x : Node) (ns : Nodes) → NodeFits n k x → NodesFit n k ns → NodesFit n k (replace key x ns)
nodes-replace n k key x no_nodes here more = tt
nodes-replace n k key x (node l y ns) here more =
    elim (same_key key l) as (λ b. NodesFit n k (if b then node l x ns else node l y (replace key x ns))) [
      | true ↦ (here, more.1)
      | false ↦ (more.0, nodes-replace n k key x ns here more.1)
    ]

nodes-get : (n k : ℕ) (key : List ℕ) (ns : Nodes) → NodesFit n k ns → IfSome (get_node key ns) (NodeFits n k)
nodes-get n k key no_nodes fits = tt
nodes-get n k key (node l y ns) fits =
    elim (same_key key l) as (λ b. IfSome (if b then Some y else get_node key ns) (NodeFits n k)) [
      | true ↦ fits.0
      | false ↦ nodes-get n k key ns fits.1
    ]

-- a node in the place of another
replaced : (n k : ℕ) (key : List ℕ) (ns : Nodes) (x : Option Node) → NodesFit n k ns → IfSome x (NodeFits n k) → Fit n k (option_map (λ y. replace key y ns) x)
replaced n k key ns None fits h = record { holds = tt }
replaced n k key ns (Some y) fits h = record { holds = nodes-replace n k key y ns h fits }

-- a table that was not there
made : (n k : ℕ) (key : List ℕ) (ns : Nodes) (origin : Origin) (inner : Option Nodes) → NodesFit n k ns → Fit n k (option_map (λ new. insert key (open_table origin new) ns) inner)
made n k key ns origin None fits = record { holds = tt }
made n k key ns origin (Some new) fits = record { holds = nodes-insert n k key (open_table origin new) ns tt fits }

-- a table that was there
kept-table : (n k : ℕ) (origin : Origin) (inner : Option Nodes) → IfSome (option_map (open_table origin) inner) (NodeFits n k)
kept-table n k origin None = tt
kept-table n k origin (Some ns) = tt

kept-array : (n k : ℕ) (done : Items) (inner : Option Nodes) → suc (items_count done) ≤ k → IfSome (option_map (open_array done) inner) (NodeFits n k)
kept-array n k done None h = tt
kept-array n k done (Some ns) h = h

header-fits : (n k : ℕ) (edit : Edit) (x : Node) → NodeFits n k x → IfSome (header_node edit x) (NodeFits n k)
header-fits n k edit (value d) h = tt
header-fits n k edit (open_table origin inner) h = kept-table n k origin (edit inner)
header-fits n k edit (open_array done last) h = kept-array n k done (edit last) h

dot-fits : (n k : ℕ) (edit : Edit) (x : Node) → IfSome (dot_node edit x) (NodeFits n k)
dot-fits n k edit (value d) = tt
dot-fits n k edit (open_table header inner) = tt
dot-fits n k edit (open_table implicit inner) = kept-table n k dotted (edit inner)
dot-fits n k edit (open_table dotted inner) = kept-table n k dotted (edit inner)
dot-fits n k edit (open_array done last) = tt

by_header-fits : (n k : ℕ) (key : List ℕ) (edit : Edit) (ns : Nodes) (x : Option Node) → NodesFit n k ns → IfSome x (NodeFits n k) → Fit n k (by_header key edit ns x)
by_header-fits n k key edit ns None fits h = made n k key ns implicit (edit no_nodes) fits
by_header-fits n k key edit ns (Some x) fits h = replaced n k key ns (header_node edit x) fits (header-fits n k edit x h)

by_dot-fits : (n k : ℕ) (key : List ℕ) (edit : Edit) (ns : Nodes) (x : Option Node) → NodesFit n k ns → Fit n k (by_dot key edit ns x)
by_dot-fits n k key edit ns None fits = made n k key ns dotted (edit no_nodes) fits
by_dot-fits n k key edit ns (Some x) fits = replaced n k key ns (dot_node edit x) fits (dot-fits n k edit x)

-- the edit adds at most one table to an array
abbrev AddsOne : ℕ → ℕ → Edit → Type 0
AddsOne n k edit = (ns : Nodes) → NodesFit n k ns → Fit n (suc k) (edit ns)

pub along_header-fits : (n k : ℕ) (path : List (List ℕ)) (edit : Edit) → AddsOne n k edit → AddsOne n k (along_header path edit)
unfolding along_header
along_header-fits n k [] edit adds ns fits = adds ns fits
along_header-fits n k (key ∷ path) edit adds ns fits =
    let more = nodes-more n k (suc k) ns (omega arith) fits in
    by_header-fits n (suc k) key (along_header path edit) ns (get_node key ns) more (nodes-get n (suc k) key ns more)

pub along_dots-fits : (n k : ℕ) (path : List (List ℕ)) (edit : Edit) → AddsOne n k edit → AddsOne n k (along_dots path edit)
unfolding along_dots
along_dots-fits n k [] edit adds ns fits = adds ns fits
along_dots-fits n k (key ∷ path) edit adds ns fits =
    by_dot-fits n (suc k) key (along_dots path edit) ns (get_node key ns) (nodes-more n k (suc k) ns (omega arith) fits)

new-fits : (n k : ℕ) (what : Definition) → IsNarrowDefinition n what → NodeFits n (suc k) (new_node what)
new-fits n k (key_value d) h = h
new-fits n k std_table h = tt
new-fits n k array_table h = omega arith

again-fits : (n k : ℕ) (what : Definition) (x : Node) → NodeFits n k x → IfSome (redefine what x) (NodeFits n (suc k))
again-fits n k std_table (open_table implicit inner) h = tt
again-fits n k array_table (open_array done last) h = omega (arith, h, count-push done (table (close last)))
again-fits n k (key_value d) (value e) h = tt
again-fits n k (key_value d) (open_table implicit inner) h = tt
again-fits n k (key_value d) (open_table dotted inner) h = tt
again-fits n k (key_value d) (open_table header inner) h = tt
again-fits n k (key_value d) (open_array done last) h = tt
again-fits n k std_table (value e) h = tt
again-fits n k std_table (open_table dotted inner) h = tt
again-fits n k std_table (open_table header inner) h = tt
again-fits n k std_table (open_array done last) h = tt
again-fits n k array_table (value e) h = tt
again-fits n k array_table (open_table implicit inner) h = tt
again-fits n k array_table (open_table dotted inner) h = tt
again-fits n k array_table (open_table header inner) h = tt

found-fits : (n k : ℕ) (key : List ℕ) (what : Definition) (ns : Nodes) (x : Option Node) → IsNarrowDefinition n what → NodesFit n k ns → IfSome x (NodeFits n k)
    → Fit n (suc k) (at_found key what ns x)
found-fits n k key what ns None narrow fits h = record { holds = nodes-insert n (suc k) key (new_node what) ns (new-fits n k what narrow) (nodes-more n k (suc k) ns (omega arith) fits) }
found-fits n k key what ns (Some x) narrow fits h = replaced n (suc k) key ns (redefine what x) (nodes-more n k (suc k) ns (omega arith) fits) (again-fits n k what x h)

pub at_key-fits : (n k : ℕ) (key : List ℕ) (what : Definition) → IsNarrowDefinition n what → AddsOne n k (at_key key what)
unfolding at_key
at_key-fits n k key what narrow ns fits = found-fits n k key what ns (get_node key ns) narrow fits (nodes-get n k key ns fits)
