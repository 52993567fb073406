-- How values stand in bytes. One table of fields gives both the reading and the spelling.
use Rattle.std.specs.Prelude.{ℕ, zero, suc, ◌+◌, ◌*◌, Bool, true, false, ◌&&◌, nat_le, nat_eq, if◌then◌else◌, List, [], ◌∷◌, ◌++◌, length, slice_get, Option, Some, None, Result, Ok, Err}
use Rattle.std.specs.List.{list_all, flat_map}
use Rattle.std.specs.Int.{Width, w16, w32, byte_len, to_be_bytes}
use Rattle.std.specs.Ordering.{nat_cmp, is_lt}
use Rattle.std.specs.Cmp.Lexicographic.{slice_cmp}
use Rattle.dap_bytes.specs.Cursor.{Reading, rest_of, next_bytes, next_number, past}
use Rattle.dap_bytes.specs.Name.{is_name_char}
use Rattle.dap_messages.specs.declared.item.TheConstants.{MOST_ITEMS}
use Rattle.dap_messages.specs.declared.item.Tagged.{Tagged}

-- how the values of a type stand in bytes: read answers the value at a place and the place behind it, or the place of the first fault; spell is a value's one spelling; allowed tells which values have one; no spelling has more than most bytes
pub record Grammar (A : Type 0) : Type 0 where
  pub read : Reading → Result (A × Reading) ℕ
  pub spell : A → List ℕ
  pub allowed : A → Bool
  pub most : ℕ

-- what was read is handed on, and a fault stays
infixl 10 ◌>>=◌
abbrev pub ◌>>=◌ : {A B : Type 0} → Result A ℕ → (A → Result B ℕ) → Result B ℕ
(Ok x) >>= f = f x
(Err at) >>= f = Err at

-- ---- fields

-- what stands next means a value, or the place is no field: the input's end where bytes run out, else the field's own place
abbrev pub accepted : {B : Type 0} → ℕ → Reading → Option B → Result (B × Reading) ℕ
accepted len r None = Err r.place
accepted len r (Some y) = Ok (y, past len r)

-- a field of so many bytes: what stands next where they are left, and what it means
abbrev pub field : {A B : Type 0} → ℕ → (A → Option B) → Reading → Option A → Result (B × Reading) ℕ
field len meaning r None = Err (length r.input)
field len meaning r (Some x) = accepted len r (meaning x)

-- the value where the test holds
abbrev pub where_holds : {A : Type 0} → (A → Bool) → A → Option A
where_holds test x = if test x then Some x else None

-- from low to high, both included
abbrev pub is_between : ℕ → ℕ → ℕ → Bool
is_between low high n = nat_le low n && nat_le n high

-- a big-endian number from low to high
abbrev pub number : Width → ℕ → ℕ → Grammar ℕ
number w low high = record {
  read = λ r. field (byte_len w) (where_holds (is_between low high)) r (next_number w r);
  spell = to_be_bytes w;
  allowed = is_between low high;
  most = byte_len w;
}

-- one byte from low to high
abbrev pub byte : ℕ → ℕ → Grammar ℕ
byte low high = record {
  read = λ r. field 1 (where_holds (is_between low high)) r (slice_get (rest_of r) 0);
  spell = λ b. b ∷ [];
  allowed = is_between low high;
  most = 1;
}

-- one byte that stands for a value
abbrev pub coded : {A : Type 0} → (ℕ → Option A) → (A → ℕ) → Grammar A
coded value_of byte_of = record {
  read = λ r. field 1 value_of r (slice_get (rest_of r) 0);
  spell = λ x. byte_of x ∷ [];
  allowed = λ _. true;
  most = 1;
}

-- n bytes for which a test holds
abbrev pub cells : ℕ → (List ℕ → Bool) → Grammar (List ℕ)
cells n test = record {
  read = λ r. field n (where_holds test) r (next_bytes n r);
  spell = λ text. text;
  allowed = λ text. nat_eq (length text) n && test text;
  most = n;
}

-- any bytes
abbrev pub any_text : List ℕ → Bool
any_text text = true

-- no bytes
abbrev pub nothing : Grammar (Unit {0})
nothing = record { read = λ r. Ok (tt, r); spell = λ _. []; allowed = λ _. true; most = 0 }

-- ---- several fields

-- one after the other
infixr 20 ◌⊗◌
abbrev pub ◌⊗◌ : {A B : Type 0} → Grammar A → Grammar B → Grammar (A × B)
g ⊗ h = record {
  read = λ r. g.read r >>= λ x. h.read x.1 >>= λ y. Ok ((x.0, y.0), y.1);
  spell = λ p. g.spell p.0 ++ h.spell p.1;
  allowed = λ p. g.allowed p.0 && h.allowed p.1;
  most = g.most + h.most;
}

-- a fixed value, and behind it what counts
abbrev pub fixed : {A B : Type 0} → Grammar A → A → Grammar B → Grammar B
fixed g x h = record {
  read = λ r. g.read r >>= λ y. h.read y.1;
  spell = λ b. g.spell x ++ h.spell b;
  allowed = h.allowed;
  most = g.most + h.most;
}

-- the fields of a value of another type
abbrev pub shaped : {A B : Type 0} → (A → B) → (B → A) → Grammar A → Grammar B
shaped to from g = record {
  read = λ r. g.read r >>= λ x. Ok (to x.0, x.1);
  spell = λ b. g.spell (from b);
  allowed = λ b. g.allowed (from b);
  most = g.most;
}

-- the spelling of what there may be
abbrev pub spell_some : {A : Type 0} → Grammar A → Option A → List ℕ
spell_some g None = []
spell_some g (Some x) = g.spell x

-- the test of what there may be
abbrev pub allowed_some : {A : Type 0} → Grammar A → Option A → Bool
allowed_some g None = false
allowed_some g (Some x) = g.allowed x

-- the fields of one variant of a type
abbrev pub variant : {A B : Type 0} → (A → B) → (B → Option A) → Grammar A → Grammar B
variant to from g = record {
  read = λ r. g.read r >>= λ x. Ok (to x.0, x.1);
  spell = λ b. spell_some g (from b);
  allowed = λ b. allowed_some g (from b);
  most = g.most;
}

-- a length, and that many bytes for which a test holds
abbrev pub sized : Grammar ℕ → ℕ → (List ℕ → Bool) → Grammar (List ℕ)
sized len longest test = record {
  read = λ r. len.read r >>= λ n. (cells n.0 test).read n.1;
  spell = λ text. len.spell (length text) ++ text;
  allowed = λ text. len.allowed (length text) && test text;
  most = len.most + longest;
}

-- a u32 length of at most so many, and that many bytes
abbrev pub bytes : ℕ → Grammar (List ℕ)
bytes longest = sized (number w32 0 longest) longest any_text

-- a u8 length and a name
abbrev pub name : Grammar (List ℕ)
name = sized (byte 1 32) 32 (list_all is_name_char)

-- ---- alternatives

-- what a first byte chooses is read behind it
abbrev pub read_chosen : {A : Type 0} → Reading → Option (Grammar A) → Result (A × Reading) ℕ
read_chosen r None = Err r.place
read_chosen r (Some g) = g.read (past 1 r)

-- the first byte chooses, unless none is left
abbrev pub read_by : {A : Type 0} → (ℕ → Option (Grammar A)) → Reading → Option ℕ → Result (A × Reading) ℕ
read_by choose r None = Err (length r.input)
read_by choose r (Some first) = read_chosen r (choose first)

-- the spelling by what was chosen
abbrev pub spell_chosen : {A : Type 0} → Option (Grammar A) → A → List ℕ
spell_chosen None x = []
spell_chosen (Some g) x = g.spell x

-- the test by what was chosen
abbrev pub allowed_chosen : {A : Type 0} → Option (Grammar A) → A → Bool
allowed_chosen None x = false
allowed_chosen (Some g) x = g.allowed x

-- a first byte, and the fields that it chooses
abbrev pub by_first : {A : Type 0} → (A → ℕ) → (ℕ → Option (Grammar A)) → ℕ → Grammar A
by_first first_of choose longest = record {
  read = λ r. read_by choose r (slice_get (rest_of r) 0);
  spell = λ x. first_of x ∷ spell_chosen (choose (first_of x)) x;
  allowed = λ x. allowed_chosen (choose (first_of x)) x;
  most = 1 + longest;
}

-- ---- lists of items

-- the identifier is above the one before it, if there is one
abbrev pub is_above : Option (List ℕ) → List ℕ → Bool
is_above None id = true
is_above (Some last) id = is_lt (slice_cmp nat_cmp last id)

-- one item: its identifier, and what is said of it
abbrev pub item : {B : Type 0} → Grammar B → Option (List ℕ) → Grammar (Tagged B)
item g last = shaped (λ p. record { id = p.0; body = p.1 }) (λ x. (x.id, x.body)) (cells 16 (is_above last) ⊗ g)

-- so many items whose identifiers ascend from the last one on
abbrev pub items_at : {B : Type 0} → Grammar B → Option (List ℕ) → ℕ → Reading → Result (List (Tagged B) × Reading) ℕ
items_at g last zero r = Ok ([], r)
items_at g last (suc n) r = (item g last).read r >>= λ x. items_at g (Some x.0.id) n x.1 >>= λ more. Ok (x.0 ∷ more.0, more.1)

-- the items, one after another
abbrev pub spell_items : {B : Type 0} → Grammar B → List (Tagged B) → List ℕ
spell_items g xs = flat_map (item g None).spell xs

-- each item is allowed, with its identifier above the one before it
abbrev pub allowed_items : {B : Type 0} → Grammar B → Option (List ℕ) → List (Tagged B) → Bool
allowed_items g last [] = true
allowed_items g last (x ∷ xs) = (item g last).allowed x && allowed_items g (Some x.id) xs

-- a u16 count of 1 to the most items, and that many items whose identifiers strictly ascend
abbrev pub items : {B : Type 0} → Grammar B → Grammar (List (Tagged B))
items g = record {
  read = λ r. (number w16 1 MOST_ITEMS).read r >>= λ n. items_at g None n.0 n.1;
  spell = λ xs. to_be_bytes w16 (length xs) ++ spell_items g xs;
  allowed = λ xs. is_between 1 MOST_ITEMS (length xs) && allowed_items g None xs;
  most = 2 + MOST_ITEMS * (16 + g.most);
}

-- ---- a whole input

-- nothing is left over
abbrev pub ended : {A : Type 0} → A × Reading → Result A ℕ
ended x = if nat_eq (length (rest_of x.1)) 0 then Ok x.0 else Err x.1.place

-- the value that an input spells as a whole, or the place of the first fault
abbrev pub whole : {A : Type 0} → Grammar A → List ℕ → Result A ℕ
whole g input = g.read (record { input = input; place = 0 }) >>= ended
