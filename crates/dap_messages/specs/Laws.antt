-- Lemmas: what a grammar reads is spelled so, what is spelled so is read, and spellings are bounded.
use Rattle.std.proofs.Common.{◌≡◌, ℕ, zero, suc, ◌+◌, ◌*◌, ◌<◌, ◌≤◌, Bool, true, false, ◌&&◌, cond, List, [], ◌∷◌, ◌++◌, length, get_or, take, drop, Option, Some, None, Result, Ok, Err, refl, sym, ap, subst, ◌∙◌, append_assoc, arith}
use Rattle.std.specs.Prelude.{nat_eq, nat_le, slice_get, option_map, IfOk}
use Rattle.std.specs.Int.{Width, w16, w32, w64, byte_len, from_be_bytes, to_be_bytes}
use Rattle.std.proofs.lemmas.Bool.{leb-true, le-leb, eqb-true, eq-eqb}
use Rattle.std.proofs.lemmas.List.{take_at, drop_at, take-append-drop, length-append, length-take, drop-drop, get_or-drop, get_or-take, get_or_past, append-nil, nil_from_length}
use Rattle.std.proofs.lemmas.List.Concat.{flat_map-cons}
use Rattle.std.proofs.lemmas.Bool.{cases_lt}
use Rattle.std.proofs.Common.{inl, inr}
use Rattle.std.proofs.Math.Nat.{mul-le-mul_right}
use Rattle.std.proofs.lemmas.Nat.{be_bytes_2, be_bytes_4, be_bytes_8, from_be_bytes-to_be_bytes_2}
use Rattle.dap_bytes.specs.Cursor.{Reading, rest_of, has_bytes, next_bytes, next_number, past}
use Rattle.dap_messages.specs.declared.item.TheConstants.{MOST_ITEMS}
use Rattle.dap_messages.specs.declared.item.Tagged.{Tagged}
use Rattle.dap_messages.specs.declared.fault.ReadFault.{ReadFault}
use Rattle.dap_messages.specs.declared.fault.ReadFault.TheVariants as faults
use Rattle.dap_messages.specs.Spelled.{Reads, IsOnly}
use Rattle.dap_messages.specs.Lawful.{IsInput, further, Takes, Lawful}
use Rattle.dap_messages.specs.Grammar.{Grammar, ◌>>=◌, accepted, field, where_holds, is_between, number, byte, coded, cells, nothing, ◌⊗◌, fixed, shaped, spell_some, allowed_some, variant, sized, read_chosen, read_by, spell_chosen, allowed_chosen, by_first, is_above, item, items_at, spell_items, allowed_items, items, ended, whole}

-- ---- steps

pub bind_ok : {A B : Type 0} (r : Result A ℕ) (f : A → Result B ℕ) (y : B) → (r >>= f) ≡ Ok y → (x : A) × (r ≡ Ok x) × (f x ≡ Ok y)
bind_ok (Ok x) f y e = (x, refl, e)
bind_ok (Err d) f y e = absurd cc

-- a value as a result
abbrev pub done : {A : Type 0} → A → Result A ℕ
done x = Ok x

pub ok_is : {A : Type 0} (x y : A) → done x ≡ done y → x ≡ y
ok_is x y e = cc

abbrev just : {A : Type 0} → A → Option A
just x = Some x

pub some_is : {A : Type 0} (x y : A) → just x ≡ just y → x ≡ y
some_is x y e = cc

pub and_parts : (a b : Bool) → (a && b) ≡ true → (a ≡ true) × (b ≡ true)
and_parts true true e = (refl, refl)
and_parts true false e = absurd cc
and_parts false b e = absurd cc

pub both_true : (a b : Bool) → a ≡ true → b ≡ true → (a && b) ≡ true
both_true a b p q = rw (p, q) refl

pub if_some : {A : Type 0} (b : Bool) (x y : A) → cond b (Some x) None ≡ Some y → (b ≡ true) × (x ≡ y)
if_some true x y e = (refl, cc)
if_some false x y e = absurd cc

-- ---- places

pub input_stays : (r : Reading) (text : List ℕ) (s : Reading) → IsInput r → Takes r text s → IsInput s
input_stays r text s h t = subst IsInput (sym t.moved) h

pub Takes-then : (a : Reading) (x : List ℕ) (b : Reading) (y : List ℕ) (c : Reading) → Takes a x b → Takes b y c → Takes a (x ++ y) c
Takes-then a x b y c p q =
    let places : (a.place + length x) + length y ≡ a.place + length (x ++ y) = omega (arith, length-append x y) in
    record {
      rest = p.rest ∙ ap (λ (t : List ℕ). x ++ t) q.rest ∙ sym (append_assoc x y (rest_of c));
      moved = q.moved ∙ ap (further (length y)) p.moved ∙ ap (λ (n : ℕ). let s : Reading = record { input = a.input; place = n } in s) places;
    }

pub Takes-nothing : (a : Reading) → Takes a [] a
Takes-nothing a =
    record { rest = refl; moved = ap (λ (n : ℕ). let s : Reading = record { input = a.input; place = n } in s) (omega arith) }

pub rest_further : (r : Reading) (text rest : List ℕ) → rest_of r ≡ text ++ rest → rest_of (further (length text) r) ≡ rest
rest_further r text rest e =
    sym (drop-drop (length text) r.place r.input) ∙ ap (drop (length text)) e ∙ drop_at text rest (length text) refl

pub further-then : (r : Reading) (x y : List ℕ) → further (length y) (further (length x) r) ≡ further (length (x ++ y)) r
further-then r x y =
    let places : (r.place + length x) + length y ≡ r.place + length (x ++ y) = omega (arith, length-append x y) in
    ap (λ (n : ℕ). let s : Reading = record { input = r.input; place = n } in s) places

-- ---- the next bytes

-- the input is the same further on
pub input_past : (n : ℕ) (r : Reading) → (past n r).input ≡ r.input
input_past n r = go (has_bytes n r) where
  go : (b : Bool) → (let s : Reading = cond b (further n r) r in s).input ≡ r.input
  go true = refl
  go false = refl

past_is : (n : ℕ) (r : Reading) → has_bytes n r ≡ true → past n r ≡ further n r
past_is n r e = rw e refl

takes_next : (n : ℕ) (r : Reading) (text : List ℕ) → next_bytes n r ≡ Some text → Takes r text (past n r) × (length text ≡ n)
takes_next n r text e =
    let g = if_some (has_bytes n r) (take n (rest_of r)) text e in
    let long : n ≤ length (rest_of r) = leb-true n (length (rest_of r)) g.0 in
    let len : length (take n (rest_of r)) ≡ n = omega (arith, length-take n (rest_of r)) in
    let parts : rest_of r ≡ take n (rest_of r) ++ rest_of (further n r) =
    sym (take-append-drop n (rest_of r)) ∙ ap (λ (t : List ℕ). take n (rest_of r) ++ t) (drop-drop n r.place r.input) in
    let moved : past n r ≡ further (length (take n (rest_of r))) r = past_is n r g.0 ∙ ap (λ (k : ℕ). further k r) (sym len) in
    let taken : Takes r (take n (rest_of r)) (past n r) =
    record { rest = parts ∙ ap (λ (s : Reading). take n (rest_of r) ++ rest_of s) (sym (past_is n r g.0)); moved = moved } in
    subst (λ (t : List ℕ). Takes r t (past n r) × (length t ≡ n)) g.1 (taken, len)

next_again : (r : Reading) (text rest : List ℕ) (n : ℕ) → length text ≡ n → rest_of r ≡ text ++ rest → (next_bytes n r ≡ Some text) × (past n r ≡ further (length text) r)
next_again r text rest n len e =
    let long : has_bytes n r ≡ true = le-leb n (length (rest_of r)) (omega (arith, len, length-append text rest, ap (λ (t : List ℕ). length t) e)) in
    (rw (long, e, take_at text rest n len) refl, past_is n r long ∙ ap (λ (k : ℕ). further k r) (sym len))

first_ok : (text : List ℕ) (b : ℕ) → slice_get text 0 ≡ Some b → (rest : List ℕ) × (text ≡ b ∷ rest)
first_ok [] b e = absurd cc
first_ok (c ∷ rest) b e = (rest, ap (λ (d : ℕ). d ∷ rest) (some_is c b e))

pub takes_first : (r : Reading) (b : ℕ) → slice_get (rest_of r) 0 ≡ Some b → Takes r (b ∷ []) (past 1 r)
takes_first r b e =
    let f = first_ok (rest_of r) b e in
    let n = next_again r (b ∷ []) f.0 1 refl f.1 in
    (takes_next 1 r (b ∷ []) n.0).0

pub first_again : (r : Reading) (b : ℕ) (rest : List ℕ) → rest_of r ≡ b ∷ rest → (slice_get (rest_of r) 0 ≡ Some b) × (past 1 r ≡ further 1 r)
first_again r b rest e = (rw e refl, (next_again r (b ∷ []) rest 1 refl e).1)

-- ---- fields

accepted_ok : {B : Type 0} (len : ℕ) (r : Reading) (o : Option B) (y : B) (s : Reading) → accepted len r o ≡ Ok (y, s) → (o ≡ Some y) × (past len r ≡ s)
accepted_ok len r None y s e = absurd cc
accepted_ok {B = B} len r (Some x) y s e =
    let p = ok_is (x, past len r) (y, s) e in (ap (λ (q : B × Reading). just q.0) p, ap (λ (q : B × Reading). q.1) p)

pub field_ok : {A B : Type 0} (len : ℕ) (meaning : A → Option B) (r : Reading) (next : Option A) (y : B) (s : Reading) → field len meaning r next ≡ Ok (y, s) → (x : A) × (next ≡ Some x) × (meaning x ≡ Some y) × (past len r ≡ s)
field_ok len meaning r None y s e = absurd cc
field_ok len meaning r (Some x) y s e =
    let a = accepted_ok len r (meaning x) y s e in (x, refl, a.0, a.1)

pub field_again : {A B : Type 0} (len : ℕ) (meaning : A → Option B) (r : Reading) (next : Option A) (x : A) (y : B) (s : Reading) → next ≡ Some x → meaning x ≡ Some y → past len r ≡ s → field len meaning r next ≡ Ok (y, s)
field_again {B = B} len meaning r next x y s e m p =
    ap (field len meaning r) e ∙ ap (accepted len r) m ∙ ap (λ (q : Reading). let z : B × Reading = (y, q) in done z) p

pub where_again : {A : Type 0} (test : A → Bool) (x : A) → test x ≡ true → where_holds test x ≡ Some x
where_again test x e = rw e refl

-- numbers of a width, as bytes and back
pub record IsWide (w : Width) : Type 0 where
  pub len : (n : ℕ) → length (to_be_bytes w n) ≡ byte_len w
  pub back : (text : List ℕ) → length text ≡ byte_len w → ((i : ℕ) → get_or text i 0 < 256) → to_be_bytes w (from_be_bytes w text) ≡ text

pub wide16 : IsWide w16
wide16 = record { len = λ n. refl; back = λ text len fits. be_bytes_2 text _ len fits refl }

pub wide32 : IsWide w32
wide32 = record { len = λ n. refl; back = λ text len fits. be_bytes_4 text _ len fits refl }

pub wide64 : IsWide w64
wide64 = record { len = λ n. refl; back = λ text len fits. be_bytes_8 text _ len fits refl }

number_next : (w : Width) (r : Reading) (n : ℕ) (o : Option (List ℕ)) → next_bytes (byte_len w) r ≡ o → next_number w r ≡ Some n → (text : List ℕ) × (next_bytes (byte_len w) r ≡ Some text) × (from_be_bytes w text ≡ n)
number_next w r n None e p = absurd (let q : None ≡ just n = sym (ap (option_map (from_be_bytes w)) e) ∙ p in cc)
number_next w r n (Some text) e p = (text, e, some_is (from_be_bytes w text) n (sym (ap (option_map (from_be_bytes w)) e) ∙ p))

rest_fits : (r : Reading) (text : List ℕ) (rest : List ℕ) → IsInput r → rest_of r ≡ text ++ rest → (i : ℕ) → get_or text i 0 < 256
rest_fits r text rest h e i =
    elim (cases_lt i (length text)) [
      | inl lt ↦ let front : take (length text) (rest_of r) ≡ text = ap (take (length text)) e ∙ take_at text rest (length text) refl in
          subst (λ (t : List ℕ). get_or t i 0 < 256) front (rw (get_or-take (length text) (rest_of r) i 0 lt, get_or-drop) (h (r.place + i)))
      | inr le ↦ rw (get_or_past text i 0 le) (omega arith)
    ]

pub number_lawful : (w : Width) (low high : ℕ) → IsWide w → ((n : ℕ) → n ≤ high → from_be_bytes w (to_be_bytes w n) ≡ n) → Lawful (number w low high)
number_lawful w low high wide round = record {
  takes = λ r n s h e.
      let f = field_ok (byte_len w) (where_holds (is_between low high)) r (next_number w r) n s e in
      let m = if_some (is_between low high f.0) f.0 n f.2 in
      let t = number_next w r f.0 (next_bytes (byte_len w) r) refl f.1 in
      let took = takes_next (byte_len w) r t.0 t.1 in
      let text_is : t.0 ≡ to_be_bytes w n =
      sym (wide.back t.0 took.1 (rest_fits r t.0 (rest_of (past (byte_len w) r)) h took.0.rest)) ∙ ap (to_be_bytes w) (t.2 ∙ m.1) in (
        subst (λ (p : Reading). Takes r (to_be_bytes w n) p) f.3 (subst (λ (x : List ℕ). Takes r x (past (byte_len w) r)) text_is took.0),
        subst (λ (k : ℕ). is_between low high k ≡ true) m.1 m.0,
      );
  again = λ n r rest a e.
      let next = next_again r (to_be_bytes w n) rest (byte_len w) (wide.len n) e in
      let high_is : n ≤ high = leb-true n high (and_parts (nat_le low n) (nat_le n high) a).1 in
      let number_is : next_number w r ≡ Some n = ap (option_map (from_be_bytes w)) next.0 ∙ ap (λ (k : ℕ). just k) (round n high_is) in
      field_again (byte_len w) (where_holds (is_between low high)) r (next_number w r) n n (further (length (to_be_bytes w n)) r) number_is
      (where_again (is_between low high) n a) next.1;
  within = λ n a. omega (arith, wide.len n);
}

pub byte_lawful : (low high : ℕ) → Lawful (byte low high)
byte_lawful low high = record {
  takes = λ r n s h e.
      let f = field_ok 1 (where_holds (is_between low high)) r (slice_get (rest_of r) 0) n s e in
      let m = if_some (is_between low high f.0) f.0 n f.2 in
      let took = takes_first r f.0 f.1 in (
        subst (λ (p : Reading). Takes r (n ∷ []) p) f.3 (subst (λ (k : ℕ). Takes r (k ∷ []) (past 1 r)) m.1 took),
        subst (λ (k : ℕ). is_between low high k ≡ true) m.1 m.0,
      );
  again = λ n r rest a e.
      let next = first_again r n rest e in
      field_again 1 (where_holds (is_between low high)) r (slice_get (rest_of r) 0) n n (further 1 r) next.0 (where_again (is_between low high) n a) next.1;
  within = λ n a. omega arith;
}

pub coded_lawful : {A : Type 0} (value_of : ℕ → Option A) (byte_of : A → ℕ) → ((x : A) → value_of (byte_of x) ≡ Some x) → ((b : ℕ) (x : A) → value_of b ≡ Some x → byte_of x ≡ b) → Lawful (coded value_of byte_of)
coded_lawful value_of byte_of back only = record {
  takes = λ r x s h e.
      let f = field_ok 1 value_of r (slice_get (rest_of r) 0) x s e in
      let took = takes_first r f.0 f.1 in
      (subst (λ (p : Reading). Takes r (byte_of x ∷ []) p) f.3 (subst (λ (k : ℕ). Takes r (k ∷ []) (past 1 r)) (sym (only f.0 x f.2)) took), refl);
  again = λ x r rest a e.
      let next = first_again r (byte_of x) rest e in
      field_again 1 value_of r (slice_get (rest_of r) 0) (byte_of x) x (further 1 r) next.0 (back x) next.1;
  within = λ x a. omega arith;
}

pub cells_lawful : (n : ℕ) (test : List ℕ → Bool) → Lawful (cells n test)
cells_lawful n test = record {
  takes = λ r text s h e.
      let f = field_ok n (where_holds test) r (next_bytes n r) text s e in
      let m = if_some (test f.0) f.0 text f.2 in
      let took = takes_next n r f.0 f.1 in (
        subst (λ (p : Reading). Takes r text p) f.3 (subst (λ (x : List ℕ). Takes r x (past n r)) m.1 took.0),
        both_true (nat_eq (length text) n) (test text) (eq-eqb (length text) n (ap (λ (x : List ℕ). length x) (sym m.1) ∙ took.1)) (subst (λ (x : List ℕ). test x ≡ true) m.1 m.0),
      );
  again = λ text r rest a e.
      let parts = and_parts (nat_eq (length text) n) (test text) a in
      let next = next_again r text rest n (eqb-true (length text) n parts.0) e in
      field_again n (where_holds test) r (next_bytes n r) text text (further (length text) r) next.0 (where_again test text parts.1) next.1;
  within = λ text a. omega (arith, eqb-true (length text) n (and_parts (nat_eq (length text) n) (test text) a).0);
}

pub nothing_lawful : Lawful nothing
nothing_lawful = record {
  takes = λ r x s h e.
      let made : Unit {0} × Reading = (tt, r) in
      subst (λ (q : Unit {0} × Reading). Takes r [] q.1 × (true ≡ true)) (ok_is made (x, s) e) (Takes-nothing r, refl);
  again = λ x r rest a e. ap (λ (p : Reading). let z : Unit {0} × Reading = (x, p) in done z) (Takes-nothing r).moved;
  within = λ x a. omega arith;
}

-- ---- several fields

pub then_lawful : {A B : Type 0} (g : Grammar A) (h : Grammar B) → Lawful g → Lawful h → Lawful (g ⊗ h)
then_lawful {A} {B} g h lg lh = record {
  takes = λ r p s i e.
      let a = bind_ok (g.read r) (λ x. h.read x.1 >>= λ y. Ok ((x.0, y.0), y.1)) (p, s) e in
      let b = bind_ok (h.read a.0.1) (λ y. Ok ((a.0.0, y.0), y.1)) (p, s) a.2 in
      let first = lg.takes r a.0.0 a.0.1 i a.1 in
      let second = lh.takes a.0.1 b.0.0 b.0.1 (input_stays r (g.spell a.0.0) a.0.1 i first.0) b.1 in
      let made : (A × B) × Reading = ((a.0.0, b.0.0), b.0.1) in
      subst (λ (q : (A × B) × Reading). Takes r (g.spell q.0.0 ++ h.spell q.0.1) q.1 × ((g.allowed q.0.0 && h.allowed q.0.1) ≡ true)) (ok_is made (p, s) b.2)
      (Takes-then r (g.spell a.0.0) a.0.1 (h.spell b.0.0) b.0.1 first.0 second.0, both_true (g.allowed a.0.0) (h.allowed b.0.0) first.1 second.1);
  again = λ p r rest a e.
      let parts = and_parts (g.allowed p.0) (h.allowed p.1) a in
      let whole_is : rest_of r ≡ g.spell p.0 ++ (h.spell p.1 ++ rest) = e ∙ append_assoc (g.spell p.0) (h.spell p.1) rest in
      let first = lg.again p.0 r (h.spell p.1 ++ rest) parts.0 whole_is in
      let second = lh.again p.1 (further (length (g.spell p.0)) r) rest parts.1 (rest_further r (g.spell p.0) (h.spell p.1 ++ rest) whole_is) in
      rw (first, second, further-then r (g.spell p.0) (h.spell p.1)) refl;
  within = λ p a.
      let parts = and_parts (g.allowed p.0) (h.allowed p.1) a in
      omega (arith, length-append (g.spell p.0) (h.spell p.1), lg.within p.0 parts.0, lh.within p.1 parts.1);
}

pub fixed_lawful : {A B : Type 0} (g : Grammar A) (x : A) (h : Grammar B) → Lawful g → Lawful h → g.allowed x ≡ true → ((y : A) → g.allowed y ≡ true → y ≡ x) → Lawful (fixed g x h)
fixed_lawful {A} {B} g x h lg lh is only = record {
  takes = λ r b s i e.
      let a = bind_ok (g.read r) (λ y. h.read y.1) (b, s) e in
      let first = lg.takes r a.0.0 a.0.1 i a.1 in
      let second = lh.takes a.0.1 b s (input_stays r (g.spell a.0.0) a.0.1 i first.0) a.2 in
      (subst (λ (y : A). Takes r (g.spell y ++ h.spell b) s) (only a.0.0 first.1) (Takes-then r (g.spell a.0.0) a.0.1 (h.spell b) s first.0 second.0), second.1);
  again = λ b r rest a e.
      let whole_is : rest_of r ≡ g.spell x ++ (h.spell b ++ rest) = e ∙ append_assoc (g.spell x) (h.spell b) rest in
      let first = lg.again x r (h.spell b ++ rest) is whole_is in
      let second = lh.again b (further (length (g.spell x)) r) rest a (rest_further r (g.spell x) (h.spell b ++ rest) whole_is) in
      rw (first, second, further-then r (g.spell x) (h.spell b)) refl;
  within = λ b a. omega (arith, length-append (g.spell x) (h.spell b), lg.within x is, lh.within b a);
}

pub shaped_lawful : {A B : Type 0} (to : A → B) (from : B → A) (g : Grammar A) → ((x : A) → from (to x) ≡ x) → ((b : B) → to (from b) ≡ b) → Lawful g → Lawful (shaped to from g)
shaped_lawful {A} {B} to from g back round lg = record {
  takes = λ r b s i e.
      let a = bind_ok (g.read r) (λ x. Ok (to x.0, x.1)) (b, s) e in
      let first = lg.takes r a.0.0 a.0.1 i a.1 in
      let made : B × Reading = (to a.0.0, a.0.1) in
      subst (λ (q : B × Reading). Takes r (g.spell (from q.0)) q.1 × (g.allowed (from q.0) ≡ true)) (ok_is made (b, s) a.2)
      (subst (λ (x : A). Takes r (g.spell x) a.0.1 × (g.allowed x ≡ true)) (sym (back a.0.0)) first);
  again = λ b r rest a e. rw (lg.again (from b) r rest a e, round b) refl;
  within = λ b a. lg.within (from b) a;
}

pub variant_lawful : {A B : Type 0} (to : A → B) (from : B → Option A) (g : Grammar A) → ((x : A) → from (to x) ≡ Some x) → ((b : B) (x : A) → from b ≡ Some x → to x ≡ b) → Lawful g → Lawful (variant to from g)
variant_lawful {A} {B} to from g back only lg = record {
  takes = λ r b s i e.
      let a = bind_ok (g.read r) (λ x. Ok (to x.0, x.1)) (b, s) e in
      let first = lg.takes r a.0.0 a.0.1 i a.1 in
      let made : B × Reading = (to a.0.0, a.0.1) in
      subst (λ (q : B × Reading). Takes r (spell_some g (from q.0)) q.1 × (allowed_some g (from q.0) ≡ true)) (ok_is made (b, s) a.2)
      (subst (λ (o : Option A). Takes r (spell_some g o) a.0.1 × (allowed_some g o ≡ true)) (sym (back a.0.0)) first);
  again = λ b r rest a e. variant_again b r rest (from b) refl a e;
  within = λ b a. variant_within b (from b) a;
} where
  variant_again : (b : B) (r : Reading) (rest : List ℕ) (o : Option A) → from b ≡ o → allowed_some g o ≡ true → rest_of r ≡ spell_some g o ++ rest
      → (variant to from g).read r ≡ Ok (b, further (length (spell_some g o)) r)
  variant_again b r rest None is a e = absurd cc
  variant_again b r rest (Some x) is a e = rw (lg.again x r rest a e, only b x is) refl

  variant_within : (b : B) (o : Option A) → allowed_some g o ≡ true → length (spell_some g o) ≤ g.most
  variant_within b None a = absurd cc
  variant_within b (Some x) a = lg.within x a

pub sized_lawful : (len : Grammar ℕ) (longest : ℕ) (test : List ℕ → Bool) → ((n : ℕ) → len.allowed n ≡ true → n ≤ longest) → Lawful len → Lawful (sized len longest test)
sized_lawful len longest test bound ll = record {
  takes = λ r text s i e.
      let a = bind_ok (len.read r) (λ n. (cells n.0 test).read n.1) (text, s) e in
      let first = ll.takes r a.0.0 a.0.1 i a.1 in
      let second = (cells_lawful a.0.0 test).takes a.0.1 text s (input_stays r (len.spell a.0.0) a.0.1 i first.0) a.2 in
      let parts = and_parts (nat_eq (length text) a.0.0) (test text) second.1 in
      let len_is : a.0.0 ≡ length text = sym (eqb-true (length text) a.0.0 parts.0) in
      subst (λ (n : ℕ). Takes r (len.spell n ++ text) s × ((len.allowed n && test text) ≡ true)) len_is
      (Takes-then r (len.spell a.0.0) a.0.1 text s first.0 second.0, both_true (len.allowed a.0.0) (test text) first.1 parts.1);
  again = λ text r rest a e.
      let parts = and_parts (len.allowed (length text)) (test text) a in
      let whole_is : rest_of r ≡ len.spell (length text) ++ (text ++ rest) = e ∙ append_assoc (len.spell (length text)) text rest in
      let first = ll.again (length text) r (text ++ rest) parts.0 whole_is in
      let fits = both_true (nat_eq (length text) (length text)) (test text) (eq-eqb (length text) (length text) refl) parts.1 in
      let second = (cells_lawful (length text) test).again text (further (length (len.spell (length text))) r) rest fits (rest_further r (len.spell (length text)) (text ++ rest) whole_is) in
      rw first (second ∙ ap (λ (p : Reading). let q : List ℕ × Reading = (text, p) in done q) (further-then r (len.spell (length text)) text));
  within = λ text a.
      let parts = and_parts (len.allowed (length text)) (test text) a in
      omega (arith, length-append (len.spell (length text)) text, ll.within (length text) parts.0, bound (length text) parts.0);
}

-- ---- alternatives

-- what a first byte chooses: a grammar of the values that this byte stands before
pub record IsChoice {A : Type 0} (first_of : A → ℕ) (longest first : ℕ) (g : Grammar A) : Type 0 where
  pub lawful : Lawful g
  pub stands : (x : A) → g.allowed x ≡ true → first_of x ≡ first
  pub within : g.most ≤ longest

abbrev chose : {A : Type 0} → Grammar A → Option (Grammar A)
chose g = Some g

by_first_takes : {A : Type 0} (first_of : A → ℕ) (choose : ℕ → Option (Grammar A)) (longest : ℕ)
    → ((b : ℕ) (g : Grammar A) → choose b ≡ Some g → IsChoice first_of longest b g)
    → (r : Reading) (x : A) (s : Reading) → IsInput r → (b : ℕ) → slice_get (rest_of r) 0 ≡ Some b
    → (o : Option (Grammar A)) → choose b ≡ o → read_chosen r o ≡ Ok (x, s)
    → Takes r (first_of x ∷ spell_chosen (choose (first_of x)) x) s × (allowed_chosen (choose (first_of x)) x ≡ true)
by_first_takes first_of choose longest choices r x s i b is None c e = absurd cc
by_first_takes {A} first_of choose longest choices r x s i b is (Some g) c e =
    let choice = choices b g c in
    let tag = takes_first r b is in
    let body = choice.lawful.takes (past 1 r) x s (input_stays r (b ∷ []) (past 1 r) i tag) e in
    let both : Takes r (b ∷ spell_chosen (Some g) x) s = Takes-then r (b ∷ []) (past 1 r) (g.spell x) s tag body.0 in
    let stands : b ≡ first_of x = sym (choice.stands x body.1) in
    subst (λ (k : ℕ). Takes r (k ∷ spell_chosen (choose k) x) s × (allowed_chosen (choose k) x ≡ true)) stands
    (subst (λ (o : Option (Grammar A)). Takes r (b ∷ spell_chosen o x) s × (allowed_chosen o x ≡ true)) (sym c) (both, body.1))

by_first_read : {A : Type 0} (choose : ℕ → Option (Grammar A)) (r : Reading) (x : A) (s : Reading) (next : Option ℕ) → slice_get (rest_of r) 0 ≡ next → read_by choose r next ≡ Ok (x, s)
    → (b : ℕ) × (slice_get (rest_of r) 0 ≡ Some b) × (read_chosen r (choose b) ≡ Ok (x, s))
by_first_read choose r x s None is e = absurd cc
by_first_read choose r x s (Some b) is e = (b, is, e)

by_first_again : {A : Type 0} (first_of : A → ℕ) (choose : ℕ → Option (Grammar A)) (longest : ℕ)
    → ((b : ℕ) (g : Grammar A) → choose b ≡ Some g → IsChoice first_of longest b g)
    → (x : A) (r : Reading) (rest : List ℕ) (o : Option (Grammar A)) → choose (first_of x) ≡ o → allowed_chosen o x ≡ true
    → rest_of r ≡ (first_of x ∷ spell_chosen o x) ++ rest → read_by choose r (slice_get (rest_of r) 0) ≡ Ok (x, further (length (first_of x ∷ spell_chosen o x)) r)
by_first_again first_of choose longest choices x r rest None c a e = absurd cc
by_first_again {A} first_of choose longest choices x r rest (Some g) c a e =
    let next = first_again r (first_of x) (g.spell x ++ rest) e in
    let behind : rest_of (further 1 r) ≡ g.spell x ++ rest = rest_further r (first_of x ∷ []) (g.spell x ++ rest) e in
    let body = (choices (first_of x) g c).lawful.again x (further 1 r) rest a behind in
    ap (read_by choose r) next.0 ∙ ap (read_chosen r) c ∙ ap g.read next.1 ∙ body
    ∙ ap (λ (p : Reading). let z : A × Reading = (x, p) in done z) (further-then r (first_of x ∷ []) (g.spell x))

by_first_within : {A : Type 0} (first_of : A → ℕ) (choose : ℕ → Option (Grammar A)) (longest : ℕ)
    → ((b : ℕ) (g : Grammar A) → choose b ≡ Some g → IsChoice first_of longest b g)
    → (x : A) (o : Option (Grammar A)) → choose (first_of x) ≡ o → allowed_chosen o x ≡ true → length (first_of x ∷ spell_chosen o x) ≤ 1 + longest
by_first_within first_of choose longest choices x None c a = absurd cc
by_first_within first_of choose longest choices x (Some g) c a =
    let choice = choices (first_of x) g c in
    omega (arith, choice.lawful.within x a, choice.within)

pub by_first_lawful : {A : Type 0} (first_of : A → ℕ) (choose : ℕ → Option (Grammar A)) (longest : ℕ)
    → ((b : ℕ) (g : Grammar A) → choose b ≡ Some g → IsChoice first_of longest b g) → Lawful (by_first first_of choose longest)
by_first_lawful first_of choose longest choices = record {
  takes = λ r x s i e.
      let b = by_first_read choose r x s (slice_get (rest_of r) 0) refl e in
      by_first_takes first_of choose longest choices r x s i b.0 b.1 (choose b.0) refl b.2;
  again = λ x r rest a e. by_first_again first_of choose longest choices x r rest (choose (first_of x)) refl a e;
  within = λ x a. by_first_within first_of choose longest choices x (choose (first_of x)) refl a;
}

-- one row of a choice, over the rows after it
pub one_of : {A : Type 0} (first_of : A → ℕ) (longest b first : ℕ) (g : Grammar A) (others : Option (Grammar A)) (h : Grammar A)
    → IsChoice first_of longest first g → (others ≡ Some h → IsChoice first_of longest b h) → cond (nat_eq b first) (Some g) others ≡ Some h → IsChoice first_of longest b h
one_of {A} first_of longest b first g others h here there e = go (nat_eq b first) refl e where
  go : (t : Bool) → nat_eq b first ≡ t → cond t (Some g) others ≡ Some h → IsChoice first_of longest b h
  go true is p = subst (λ (k : ℕ). IsChoice first_of longest k h) (sym (eqb-true b first is)) (subst (IsChoice first_of longest first) (some_is g h p) here)
  go false is p = there p

pub none_of : {A : Type 0} (first_of : A → ℕ) (longest b : ℕ) (h : Grammar A) → (let n : Option (Grammar A) = None in n) ≡ Some h → IsChoice first_of longest b h
none_of first_of longest b h e = absurd cc

-- where the fields of a variant keep the laws, and each of its values that they allow has the first byte, so does the variant
pub choice_allowed : {A B : Type 0} (first_of : B → ℕ) (longest first : ℕ) (to : A → B) (from : B → Option A) (g : Grammar A)
    → ((x : A) → from (to x) ≡ Some x) → ((b : B) (x : A) → from b ≡ Some x → to x ≡ b) → ((x : A) → g.allowed x ≡ true → first_of (to x) ≡ first)
    → Lawful g → g.most ≤ longest → IsChoice first_of longest first (variant to from g)
choice_allowed {A} {B} first_of longest first to from g back only begins lawful within = record {
  lawful = variant_lawful to from g back only lawful;
  stands = λ b a. has_first b (from b) refl a;
  within = within;
} where
  has_first : (b : B) (o : Option A) → from b ≡ o → allowed_some g o ≡ true → first_of b ≡ first
  has_first b None is a = absurd cc
  has_first b (Some x) is a = ap first_of (sym (only b x is)) ∙ begins x a

-- the same where each value has the first byte
pub choice : {A B : Type 0} (first_of : B → ℕ) (longest first : ℕ) (to : A → B) (from : B → Option A) (g : Grammar A)
    → ((x : A) → from (to x) ≡ Some x) → ((b : B) (x : A) → from b ≡ Some x → to x ≡ b) → ((x : A) → first_of (to x) ≡ first)
    → Lawful g → g.most ≤ longest → IsChoice first_of longest first (variant to from g)
choice first_of longest first to from g back only begins lawful within =
    choice_allowed first_of longest first to from g back only (λ x a. begins x) lawful within

-- ---- lists of items

pub item_lawful : {B : Type 0} (g : Grammar B) (last : Option (List ℕ)) → Lawful g → Lawful (item g last)
item_lawful g last lg =
    shaped_lawful (λ p. record { id = p.0; body = p.1 }) (λ x. (x.id, x.body)) (cells 16 (is_above last) ⊗ g) (λ p. refl) (λ x. refl)
    (then_lawful (cells 16 (is_above last)) g (cells_lawful 16 (is_above last)) lg)

items_take : {B : Type 0} (g : Grammar B) → Lawful g → (n : ℕ) (last : Option (List ℕ)) (r : Reading) (xs : List (Tagged B)) (s : Reading) → IsInput r → items_at g last n r ≡ Ok (xs, s)
    → Takes r (spell_items g xs) s × (length xs ≡ n) × (allowed_items g last xs ≡ true)
items_take {B} g lg zero last r xs s i e =
    let made : List (Tagged B) × Reading = ([], r) in
    subst (λ (q : List (Tagged B) × Reading). Takes r (spell_items g q.0) q.1 × (length q.0 ≡ 0) × (allowed_items g last q.0 ≡ true)) (ok_is made (xs, s) e) (Takes-nothing r, refl, refl)
items_take {B} g lg (suc n) last r xs s i e =
    let a = bind_ok ((item g last).read r) (λ x. items_at g (Some x.0.id) n x.1 >>= λ more. Ok (x.0 ∷ more.0, more.1)) (xs, s) e in
    let b = bind_ok (items_at g (Some a.0.0.id) n a.0.1) (λ more. Ok (a.0.0 ∷ more.0, more.1)) (xs, s) a.2 in
    let first = (item_lawful g last lg).takes r a.0.0 a.0.1 i a.1 in
    let second = items_take g lg n (Some a.0.0.id) a.0.1 b.0.0 b.0.1 (input_stays r ((item g last).spell a.0.0) a.0.1 i first.0) b.1 in
    let both = Takes-then r ((item g last).spell a.0.0) a.0.1 (spell_items g b.0.0) b.0.1 first.0 second.0 in
    let made : List (Tagged B) × Reading = (a.0.0 ∷ b.0.0, b.0.1) in
    subst (λ (q : List (Tagged B) × Reading). Takes r (spell_items g q.0) q.1 × (length q.0 ≡ suc n) × (allowed_items g last q.0 ≡ true)) (ok_is made (xs, s) b.2)
    (rw flat_map-cons both, ap suc second.1, both_true ((item g last).allowed a.0.0) (allowed_items g (Some a.0.0.id) b.0.0) first.1 second.2)

items_again : {B : Type 0} (g : Grammar B) → Lawful g → (xs : List (Tagged B)) (last : Option (List ℕ)) (r : Reading) (rest : List ℕ) → allowed_items g last xs ≡ true → rest_of r ≡ spell_items g xs ++ rest
    → items_at g last (length xs) r ≡ Ok (xs, further (length (spell_items g xs)) r)
items_again {B} g lg [] last r rest a e =
    ap (λ (p : Reading). let z : List (Tagged B) × Reading = ([], p) in done z) (Takes-nothing r).moved
items_again {B} g lg (x ∷ xs) last r rest a e =
    let parts = and_parts ((item g last).allowed x) (allowed_items g (Some x.id) xs) a in
    let one = (item g last).spell x in
    let cons_is : spell_items g (x ∷ xs) ≡ one ++ spell_items g xs = flat_map-cons (item g None).spell x xs in
    let whole_is : rest_of r ≡ one ++ (spell_items g xs ++ rest) = e ∙ ap (λ (t : List ℕ). t ++ rest) cons_is ∙ append_assoc one (spell_items g xs) rest in
    let first = (item_lawful g last lg).again x r (spell_items g xs ++ rest) parts.0 whole_is in
    let second = items_again g lg xs (Some x.id) (further (length one) r) rest parts.1 (rest_further r one (spell_items g xs ++ rest) whole_is) in
    let end_is : further (length (spell_items g xs)) (further (length one) r) ≡ further (length (spell_items g (x ∷ xs))) r =
    further-then r one (spell_items g xs) ∙ ap (λ (t : List ℕ). further (length t) r) (sym cons_is) in
    rw (first, second) (ap (λ (p : Reading). let z : List (Tagged B) × Reading = (x ∷ xs, p) in done z) end_is)

items_within : {B : Type 0} (g : Grammar B) → Lawful g → (xs : List (Tagged B)) (last : Option (List ℕ)) → allowed_items g last xs ≡ true → length (spell_items g xs) ≤ length xs * (16 + g.most)
items_within g lg [] last a = omega arith
items_within g lg (x ∷ xs) last a =
    let parts = and_parts ((item g last).allowed x) (allowed_items g (Some x.id) xs) a in
    let one = (item g last).spell x in
    let cons_is : length (spell_items g (x ∷ xs)) ≡ length one + length (spell_items g xs) =
    ap (λ (t : List ℕ). length t) (flat_map-cons (item g None).spell x xs) ∙ length-append one (spell_items g xs) in
    omega (arith, cons_is, (item_lawful g last lg).within x parts.0, items_within g lg xs (Some x.id) parts.1)

pub items_lawful : {B : Type 0} (g : Grammar B) → Lawful g → Lawful (items g)
items_lawful {B} g lg = record {
  takes = λ r xs s i e.
      let count = number w16 1 MOST_ITEMS in
      let lc = number_lawful w16 1 MOST_ITEMS wide16 (λ n h. from_be_bytes-to_be_bytes_2 n (omega arith)) in
      let a = bind_ok (count.read r) (λ n. items_at g None n.0 n.1) (xs, s) e in
      let first = lc.takes r a.0.0 a.0.1 i a.1 in
      let second = items_take g lg a.0.0 None a.0.1 xs s (input_stays r (to_be_bytes w16 a.0.0) a.0.1 i first.0) a.2 in
      subst (λ (n : ℕ). Takes r (to_be_bytes w16 n ++ spell_items g xs) s × ((is_between 1 MOST_ITEMS n && allowed_items g None xs) ≡ true)) (sym second.1)
      (Takes-then r (to_be_bytes w16 a.0.0) a.0.1 (spell_items g xs) s first.0 second.0, both_true (is_between 1 MOST_ITEMS a.0.0) (allowed_items g None xs) first.1 second.2);
  again = λ xs r rest a e.
      let lc = number_lawful w16 1 MOST_ITEMS wide16 (λ n h. from_be_bytes-to_be_bytes_2 n (omega arith)) in
      let parts = and_parts (is_between 1 MOST_ITEMS (length xs)) (allowed_items g None xs) a in
      let size = to_be_bytes w16 (length xs) in
      let whole_is : rest_of r ≡ size ++ (spell_items g xs ++ rest) = e ∙ append_assoc size (spell_items g xs) rest in
      let first = lc.again (length xs) r (spell_items g xs ++ rest) parts.0 whole_is in
      let second = items_again g lg xs None (further (length size) r) rest parts.1 (rest_further r size (spell_items g xs ++ rest) whole_is) in
      rw first (second ∙ ap (λ (p : Reading). let z : List (Tagged B) × Reading = (xs, p) in done z) (further-then r size (spell_items g xs)));
  within = λ xs a.
      let parts = and_parts (is_between 1 MOST_ITEMS (length xs)) (allowed_items g None xs) a in
      let few : length xs ≤ MOST_ITEMS = leb-true (length xs) MOST_ITEMS (and_parts (nat_le 1 (length xs)) (nat_le (length xs) MOST_ITEMS) parts.0).1 in
      let most : length xs * (16 + g.most) ≤ MOST_ITEMS * (16 + g.most) = mul-le-mul_right (16 + g.most) few in
      omega (arith, length-append (to_be_bytes w16 (length xs)) (spell_items g xs), items_within g lg xs None parts.1, most);
}

-- ---- whole inputs

-- where an input begins
abbrev pub front : List ℕ → Reading
front input = record { input = input; place = 0 }

ended_ok : {A : Type 0} (x : A × Reading) (y : A) → ended x ≡ Ok y → (rest_of x.1 ≡ []) × (x.0 ≡ y)
ended_ok {A} x y e = go (nat_eq (length (rest_of x.1)) 0) refl e where
  go : (t : Bool) → nat_eq (length (rest_of x.1)) 0 ≡ t → cond t (Ok x.0) (Err x.1.place) ≡ Ok y → (rest_of x.1 ≡ []) × (x.0 ≡ y)
  go true is p = (nil_from_length (rest_of x.1) (eqb-true (length (rest_of x.1)) 0 is), ok_is x.0 y p)
  go false is p = absurd cc

-- what is read as a whole is allowed, and spelled so
pub whole_takes : {A : Type 0} (g : Grammar A) → Lawful g → (input : List ℕ) (x : A) → ((i : ℕ) → get_or input i 0 < 256) → whole g input ≡ Ok x → (g.allowed x ≡ true) × (input ≡ g.spell x)
whole_takes {A} g lg input x h e =
    let a = bind_ok (g.read (front input)) ended x e in
    let end = ended_ok a.0 x a.2 in
    let took = lg.takes (front input) a.0.0 a.0.1 h a.1 in
    let all_of : input ≡ g.spell a.0.0 = took.0.rest ∙ ap (λ (t : List ℕ). g.spell a.0.0 ++ t) end.0 ∙ append-nil (g.spell a.0.0) in
    subst (λ (y : A). (g.allowed y ≡ true) × (input ≡ g.spell y)) end.1 (took.1, all_of)

-- what is allowed is read from its spelling
pub whole_again : {A : Type 0} (g : Grammar A) → Lawful g → (x : A) → g.allowed x ≡ true → whole g (g.spell x) ≡ Ok x
whole_again {A} g lg x a =
    let end : Reading = further (length (g.spell x)) (front (g.spell x)) in
    let first = lg.again x (front (g.spell x)) [] a (sym (append-nil (g.spell x))) in
    let nothing : rest_of end ≡ [] = rest_further (front (g.spell x)) (g.spell x) [] (sym (append-nil (g.spell x))) in
    let over : nat_eq (length (rest_of end)) 0 ≡ true = ap (λ (t : List ℕ). nat_eq (length t) 0) nothing in
    rw (first, over) refl

-- the two laws on what a reader answered
pub is_found : {A : Type 0} (g : Grammar A) → Lawful g → (input : List ℕ) (r : Result A ReadFault) → ((i : ℕ) → get_or input i 0 < 256) → Reads g input r → IfOk r (λ x. (g.allowed x ≡ true) × (input ≡ g.spell x))
is_found g lg input (Ok x) h e = whole_takes g lg input x h e
is_found g lg input (Err e) h p = tt

pub is_only : {A : Type 0} (g : Grammar A) → Lawful g → (input : List ℕ) (r : Result A ReadFault) → Reads g input r → (x : A) → g.allowed x ≡ true → input ≡ g.spell x → IsOnly x r
is_only g lg input (Ok y) e x a is = ok_is y x (sym e ∙ ap (whole g) is ∙ whole_again g lg x a)
is_only g lg input (Err faults.NoMemory) e x a is = tt
is_only g lg input (Err (faults.Form at)) e x a is = absurd (let p : Err at ≡ done x = sym e ∙ ap (whole g) is ∙ whole_again g lg x a in cc)
