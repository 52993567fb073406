-- What a table is read as, it has, and what it has is read.
use Rattle.std.proofs.Common.{◌≡◌, ℕ, ◌*◌, ℤ, pos, negsuc, ◌^◌, ◌<◌, ◌≤◌, List, [], ◌∷◌, true, nat_le, codes, ◌&&◌, Option, Some, None, Result, Ok, Err, refl, ap, ◌∙◌, subst, arith}
use Rattle.std.proofs.lemmas.Bool.{and_parts, leb-true, le-leb}
use Rattle.std.proofs.lemmas.List.Elements.{All-cons, All-head, All-nil, All-tail}
use Rattle.std.proofs.lemmas.Option.{cond_some, option_and_then_some, same_Some}
use Rattle.std.specs.List.{All}
use Rattle.std.specs.Prelude.{ok_or}
use Rattle.std.specs.Option.{option_and_then, option_map_or}
use Rattle.std.specs.Result.{result_ok}
use Rattle.hex.specs.Hex.{decode_sized}
use Rattle.toml.specs.Data.{Data, string, integer, float, boolean, datetime, array, table, Items, no_items, item, Members, as_str, as_integer, as_array, get_member}
use Rattle.dap_bytes.specs.declared.limits.TheConstants.{LATEST_TIME}
use Rattle.vdaf_api.proofs.Ranges.{is_kind-decides}
use Rattle.vdaf_api.specs.Kind.{AreBounds, is_kind}
use Rattle.vdaf_api.specs.declared.kind.Kind.TheVariants.{Histogram}
use Rattle.vdaf_api.specs.declared.kind.TheConstants.{MOST_INPUT, MOST_NUMBER_BITS}
use Rattle.dap_tasks.specs.Fields.{ranged, number_of, numbers_of, bits_of, bounds_of, octets_of, keys_of, field, optional_field}
use Rattle.dap_tasks.specs.TaskFile.{Holds, HoldsExpiry, HoldsNumber, HoldsOctets, HoldsKeys, integers}
use Rattle.vdaf_api.specs.declared.keys.SealKeys.{SealKeys}

-- ---- what is read was there

pub field_holds : {A P : Type 0} (key : List ℕ) (reads : Data → Option A) (entries : Members) (x : A) → field key reads entries ≡ Ok x
    → ((value : Data) → get_member key entries ≡ Some value → reads value ≡ Some x → P) → P
field_holds {A} {P} key reads entries x e then' =
    elim (get_member key entries) as (λ o. get_member key entries ≡ o → ok_or (option_and_then reads o) key ≡ Ok x → P) [
      | None ↦ λ found h. cc h
      | Some value ↦ λ found h. elim (reads value) as (λ r. reads value ≡ r → ok_or r key ≡ Ok x → P) [
        | None ↦ λ read k. cc k
        | Some y ↦ λ read k. then' value found (read ∙ cc k)
      ] refl h
    ] refl e

pub string_read : (value : Data) (text : List ℕ) → as_str value ≡ Some text → value ≡ string text
string_read (string s) text e = ap string (same_Some s text e)
string_read (integer z) text e = cc e
string_read (float x) text e = cc e
string_read (boolean b) text e = cc e
string_read (datetime dt) text e = cc e
string_read (array ds) text e = cc e
string_read (table ms) text e = cc e

integer_read : (value : Data) (z : ℤ) → as_integer value ≡ Some z → value ≡ integer z
integer_read (string s) z e = cc e
integer_read (integer y) z e = ap integer (same_Some y z e)
integer_read (float x) z e = cc e
integer_read (boolean b) z e = cc e
integer_read (datetime dt) z e = cc e
integer_read (array ds) z e = cc e
integer_read (table ms) z e = cc e

pub array_read : (value : Data) (items : Items) → as_array value ≡ Some items → value ≡ array items
array_read (string s) items e = cc e
array_read (integer z) items e = cc e
array_read (float x) items e = cc e
array_read (boolean b) items e = cc e
array_read (datetime dt) items e = cc e
array_read (array ds) items e = ap array (same_Some ds items e)
array_read (table ms) items e = cc e

ranged_read : (least greatest n : ℕ) (z : ℤ) → ranged least greatest z ≡ Some n → (z ≡ pos n) × (least ≤ n) × (n ≤ greatest)
ranged_read least greatest n (pos m) e =
    let p = cond_some (nat_le least m && nat_le m greatest) m n e in
    let b = and_parts (nat_le least m) (nat_le m greatest) p.0 in
    let low : least ≤ m = leb-true least m b.0 in
    let high : m ≤ greatest = leb-true m greatest b.1 in
    (ap pos p.1, rw (← p.1) low, rw (← p.1) high)
ranged_read least greatest n (negsuc m) e = cc e

number_value : (least greatest : ℕ) (value : Data) (n : ℕ) → number_of least greatest value ≡ Some n → (value ≡ integer (pos n)) × (least ≤ n) × (n ≤ greatest)
number_value least greatest value n e = option_and_then_some _ (as_integer value) n e (λ z has h.
    let r = ranged_read least greatest n z h in
    (integer_read value z has ∙ ap integer r.0, r.1, r.2))

pub number_read : (entries : Members) (key : List ℕ) (least greatest n : ℕ) → field key (number_of least greatest) entries ≡ Ok n → HoldsNumber entries key least greatest n
number_read entries key least greatest n e = field_holds key (number_of least greatest) entries n e (λ value found read.
    let r = number_value least greatest value n read in
    record { holds = found ∙ ap Some r.0; not_below = r.1; not_above = r.2 })

-- how many bits each number of a vector has
pub bits_read : (entries : Members) (len bits : ℕ) → field (codes "bits") (bits_of len) entries ≡ Ok bits
    → HoldsNumber entries (codes "bits") 1 MOST_NUMBER_BITS bits × (len * bits ≤ MOST_INPUT)
bits_read entries len bits e = field_holds (codes "bits") (bits_of len) entries bits e (λ value found read.
    option_and_then_some _ (number_of 1 MOST_NUMBER_BITS value) bits read (λ n is k.
    let p = cond_some (nat_le (len * n) MOST_INPUT) n bits k in
    let r = number_value 1 MOST_NUMBER_BITS value n is in
    subst (λ m. HoldsNumber entries (codes "bits") 1 MOST_NUMBER_BITS m × (len * m ≤ MOST_INPUT)) p.1
    (record { holds = found ∙ ap Some r.0; not_below = r.1; not_above = r.2 }, leb-true (len * n) MOST_INPUT p.0)))

-- a number that may be missing
pub expiry_read : (entries : Members) (expires : Option ℕ) → optional_field (codes "expires") (number_of 0 LATEST_TIME) entries ≡ Ok expires → HoldsExpiry entries expires
expiry_read entries expires e =
    elim (get_member (codes "expires") entries) as (λ o. get_member (codes "expires") entries ≡ o
    → option_map_or (λ value. option_map_or (λ x. Ok (Some x)) (number_of 0 LATEST_TIME value) (Err (codes "expires"))) o (Ok None) ≡ Ok expires → HoldsExpiry entries expires) [
      | None ↦ λ found h. elim expires as (λ x. ◌≡◌ {A = Result (Option ℕ) (List ℕ)} (Ok None) (Ok x) → HoldsExpiry entries x) [
        | None ↦ λ k. found
        | Some t ↦ λ k. cc k
      ] h
      | Some value ↦ λ found h. elim (number_of 0 LATEST_TIME value) as (λ r. number_of 0 LATEST_TIME value ≡ r
          → option_map_or (λ x. Ok (Some x)) r (Err (codes "expires")) ≡ Ok expires → HoldsExpiry entries expires) [
            | None ↦ λ read k. cc k
            | Some t ↦ λ read k. elim expires as (λ x. ◌≡◌ {A = Result (Option ℕ) (List ℕ)} (Ok (Some t)) (Ok x) → HoldsExpiry entries x) [
              | None ↦ λ l. cc l
              | Some u ↦ λ l.
                  let same : t ≡ u = cc l in
                  let r = number_value 0 LATEST_TIME value t read in
                  subst (HoldsNumber entries (codes "expires") 0 LATEST_TIME) same (record { holds = found ∙ ap Some r.0; not_below = r.1; not_above = r.2 })
            ] k
          ] refl h
    ] refl e

numbers_value : (items : Items) (numbers : List ℕ) → numbers_of items ≡ Some numbers → (items ≡ integers numbers) × All (λ n. n < 2 ^ 63) numbers
numbers_value no_items numbers e = subst (λ ns. (no_items ≡ integers ns) × All (λ n. n < 2 ^ 63) ns) (same_Some [] numbers e) (refl, All-nil (λ n. n < 2 ^ 63))
numbers_value (item value items) numbers e =
    option_and_then_some _ (number_of 0 9223372036854775807 value) numbers e (λ n first h.
    option_and_then_some _ (numbers_of items) numbers h (λ ns rest k.
    let r = number_value 0 9223372036854775807 value n first in
    let more = numbers_value items ns rest in
    let small : n < 2 ^ 63 = omega (arith, r.2) in
    subst (λ ms. (item value items ≡ integers ms) × All (λ m. m < 2 ^ 63) ms) (same_Some (n ∷ ns) numbers k)
    (cc (r.0, more.0), All-cons (λ m. m < 2 ^ 63) n ns small more.1)))

pub bounds_value : (value : Data) (bounds : List ℕ) → bounds_of value ≡ Some bounds → (value ≡ array (integers bounds)) × AreBounds bounds × All (λ bound. bound < 2 ^ 63) bounds
bounds_value value bounds e =
    option_and_then_some _ (as_array value) bounds e (λ items has h.
    option_and_then_some _ (numbers_of items) bounds h (λ numbers read k.
    let p = cond_some (is_kind (Histogram numbers)) numbers bounds k in
    let r = numbers_value items numbers read in
    let kind : AreBounds numbers = (is_kind-decides (Histogram numbers)).0 p.0 in
    subst (λ ns. (value ≡ array (integers ns)) × AreBounds ns × All (λ n. n < 2 ^ 63) ns) p.1 (array_read value items has ∙ ap array r.0, kind, r.1)))

ok_some : {A E : Type 0} (r : Result A E) (x : A) → result_ok r ≡ Some x → r ≡ Ok x
ok_some (Ok y) x h = ap Ok (same_Some y x h)
ok_some (Err e) x h = cc h

octets_value : {P : Type 0} (n : ℕ) (value : Data) (octets : List ℕ) → octets_of n value ≡ Some octets → ((text : List ℕ) → value ≡ string text → decode_sized text n ≡ Ok octets → P) → P
octets_value n value octets e then' = option_and_then_some _ (as_str value) octets e (λ text has h. then' text (string_read value text has) (ok_some (decode_sized text n) octets h))

pub octets_read : (entries : Members) (key : List ℕ) (n : ℕ) (octets : List ℕ) → field key (octets_of n) entries ≡ Ok octets → HoldsOctets entries key n octets
octets_read entries key n octets e = field_holds key (octets_of n) entries octets e (λ value found read.
    octets_value n value octets read (λ text is decoded. record { text = text; holds = found ∙ ap Some is; decoded = decoded }))

pub keys_read : (entries : Members) (key : List ℕ) (keys : SealKeys) → field key keys_of entries ≡ Ok keys → HoldsKeys entries key keys
keys_read entries key keys e = field_holds key keys_of entries keys e (λ value found read.
    option_and_then_some _ (octets_of 32 value) keys read (λ octets has h.
    octets_value 32 value octets has (λ text is decoded.
    subst (HoldsKeys entries key) (same_Some _ keys h) (record {
      octets = octets;
      holds = record { text = text; holds = found ∙ ap Some is; decoded = decoded };
      cipher = refl;
      tag = refl;
    }))))

-- ---- what is there is read

pub number_back : (entries : Members) (key : List ℕ) (least greatest n : ℕ) → HoldsNumber entries key least greatest n → field key (number_of least greatest) entries ≡ Ok n
number_back entries key least greatest n h = rw (h.holds, le-leb least n h.not_below, le-leb n greatest h.not_above) refl

pub bits_back : (entries : Members) (len bits : ℕ) → HoldsNumber entries (codes "bits") 1 MOST_NUMBER_BITS bits → len * bits ≤ MOST_INPUT
    → field (codes "bits") (bits_of len) entries ≡ Ok bits
bits_back entries len bits h few =
    rw (h.holds, le-leb 1 bits h.not_below, le-leb bits MOST_NUMBER_BITS h.not_above, le-leb (len * bits) MOST_INPUT few) refl

pub expiry_back : (entries : Members) (expires : Option ℕ) → HoldsExpiry entries expires → optional_field (codes "expires") (number_of 0 LATEST_TIME) entries ≡ Ok expires
expiry_back entries None h = rw h refl
expiry_back entries (Some t) h = rw (h.holds, le-leb 0 t h.not_below, le-leb t LATEST_TIME h.not_above) refl

numbers_back : (numbers : List ℕ) → All (λ n. n < 2 ^ 63) numbers → numbers_of (integers numbers) ≡ Some numbers
numbers_back [] small = refl
numbers_back (n ∷ ns) small =
    let here : n < 2 ^ 63 = All-head (λ m. m < 2 ^ 63) n ns small in
    let below : nat_le n 9223372036854775807 ≡ true = le-leb n 9223372036854775807 (omega arith) in
    let natural : nat_le 0 n ≡ true = le-leb 0 n (omega arith) in
    rw (natural, below, numbers_back ns (All-tail (λ m. m < 2 ^ 63) n ns small)) refl

pub bounds_back : (entries : Members) (key : List ℕ) (bounds : List ℕ) → Holds entries key (array (integers bounds)) → AreBounds bounds → All (λ bound. bound < 2 ^ 63) bounds
    → field key bounds_of entries ≡ Ok bounds
bounds_back entries key bounds holds are small =
    let kind : is_kind (Histogram bounds) ≡ true = (is_kind-decides (Histogram bounds)).1 are in
    rw (holds, numbers_back bounds small, kind) refl

pub octets_back : (entries : Members) (key : List ℕ) (n : ℕ) (octets : List ℕ) → HoldsOctets entries key n octets → field key (octets_of n) entries ≡ Ok octets
octets_back entries key n octets h = rw (h.holds, h.decoded) refl

pub keys_back : (entries : Members) (key : List ℕ) (keys : SealKeys) → HoldsKeys entries key keys → field key keys_of entries ≡ Ok keys
keys_back entries key keys h = rw (h.holds.holds, h.holds.decoded, ← h.cipher, ← h.tag) refl
