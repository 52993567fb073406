-- A table is read as a task exactly where it has the task's fields and no others.
use Rattle.std.proofs.Common.{◌≡◌, ℕ, List, [], ◌∷◌, Bool, true, false, cond, if◌then◌else◌, filter, codes, Option, Some, None, Result, Ok, Err, refl, ap, ◌∙◌, subst}
use Rattle.std.proofs.lemmas.List.Elements.{All-cons, All-head, All-nil, All-tail}
use Rattle.std.proofs.lemmas.Option.{cond_some, option_and_then_some, same_Some}
use Rattle.std.proofs.lemmas.Slice.Eq.{bytes_eq-Decides}
use Rattle.std.specs.List.{All, list_any}
use Rattle.std.specs.Str.{bytes_eq}
use Rattle.toml.specs.Data.{string, Members, as_str}
use Rattle.dap_bytes.specs.Name.{IsName, is_name, name_of}
use Rattle.dap_bytes.specs.declared.limits.TheConstants.{LATEST_TIME}
use Rattle.vdaf_api.specs.declared.kind.Kind.{Kind}
use Rattle.vdaf_api.specs.declared.kind.TheConstants.{MOST_NUMBERS}
use Rattle.vdaf_api.specs.declared.kind.Kind.TheVariants.{Count, Sum, Histogram, Vector}
use Rattle.dap_tasks.specs.Fields.{number_of, bits_of, bounds_of, octets_of, keys_of, new_name_of, unless_taken, field, optional_field, first_of, is_other, refused, no_others, table_keys}
use Rattle.dap_tasks.specs.File.{◌>>=◌, kind_named, kind_of, task_of}
use Rattle.dap_tasks.specs.Task.{PlainTask, has_name}
use Rattle.dap_tasks.specs.TaskFile.{Holds, HoldsKind, IsTaskTable}
use Rattle.dap_tasks.proofs.FieldLaws.{field_holds, string_read, number_read, number_back, bits_read, bits_back, expiry_read, expiry_back, octets_read, octets_back, keys_read, keys_back, bounds_value, bounds_back}

-- the step before, where there is a value
pub after_ok : {A B E P : Type 0} (f : A → Result B E) (r : Result A E) (y : B) → (r >>= f) ≡ Ok y → ((x : A) → r ≡ Ok x → f x ≡ Ok y → P) → P
after_ok f (Ok x) y h then' = then' x refl h
after_ok f (Err e) y h then' = cc h

-- ---- names

-- the name is free, and the table has it
abbrev HasNewName : List PlainTask → Members → List ℕ → Type 0
HasNewName before entries name = Holds entries (codes "name") (string name) × IsName name × (list_any (has_name name) before ≡ false)

free : (before : List PlainTask) (name x : List ℕ) → unless_taken before name ≡ Some x → (list_any (has_name name) before ≡ false) × (name ≡ x)
free before name x e =
    elim (list_any (has_name name) before) as (λ b. (if b then None else Some name) ≡ Some x → (b ≡ false) × (name ≡ x)) [
      | true ↦ λ h. cc h
      | false ↦ λ h. (refl, same_Some name x h)
    ] e

name_read : (before : List PlainTask) (entries : Members) (name : List ℕ) → field (codes "name") (new_name_of before) entries ≡ Ok name → HasNewName before entries name
name_read before entries name e = field_holds (codes "name") (new_name_of before) entries name e (λ value found read.
    option_and_then_some _ (as_str value) name read (λ text has h.
    option_and_then_some _ (name_of text) name h (λ x named k.
    let p = cond_some (is_name text) text x named in
    let q = free before x name k in
    let same : text ≡ name = p.1 ∙ q.1 in
    (found ∙ ap Some (string_read value text has ∙ ap string same), rw same at p.0, rw q.1 at q.0))))

name_back : (before : List PlainTask) (entries : Members) (name : List ℕ) → HasNewName before entries name → field (codes "name") (new_name_of before) entries ≡ Ok name
name_back before entries name h = rw (h.0, h.1, h.2) refl

-- ---- kinds

if_ok : {A E P : Type 0} (b : Bool) (r s : Result A E) (y : A) → (if b then r else s) ≡ Ok y → (b ≡ true → r ≡ Ok y → P) → (s ≡ Ok y → P) → P
if_ok true r s y h then' else' = then' refl h
if_ok false r s y h then' else' = else' h

pub same_Ok : {A E : Type 0} (x y : A) → ◌≡◌ {A = Result A E} (Ok x) (Ok y) → x ≡ y
same_Ok x y h = cc h

word_read : (entries : Members) (word : List ℕ) (text : List ℕ) → Holds entries (codes "kind") (string word) → bytes_eq word text ≡ true → Holds entries (codes "kind") (string text)
word_read entries word text holds e = holds ∙ ap (λ (w : List ℕ). Some (string w)) ((bytes_eq-Decides word text).0 e)

kind_named_read : (entries : Members) (word : List ℕ) (kind : Kind) → Holds entries (codes "kind") (string word) → kind_named word entries ≡ Ok kind → HoldsKind entries kind
kind_named_read entries word kind holds e =
    if_ok (bytes_eq word (codes "count")) _ _ kind e
    (λ b h. subst (HoldsKind entries) (same_Ok Count kind h) (word_read entries word (codes "count") holds b))
    (λ e2. if_ok (bytes_eq word (codes "sum")) _ _ kind e2
    (λ b h. after_ok _ (field (codes "bits") (number_of 1 64) entries) kind h (λ bits read k.
    subst (HoldsKind entries) (same_Ok (Sum bits) kind k) (word_read entries word (codes "sum") holds b, number_read entries (codes "bits") 1 64 bits read)))
    (λ e3. if_ok (bytes_eq word (codes "histogram")) _ _ kind e3
    (λ b h. after_ok _ (field (codes "bounds") bounds_of entries) kind h (λ bounds read k.
    field_holds (codes "bounds") bounds_of entries bounds read (λ value found is.
    let r = bounds_value value bounds is in
    subst (HoldsKind entries) (same_Ok (Histogram bounds) kind k) (word_read entries word (codes "histogram") holds b, found ∙ ap Some r.0, r.1, r.2))))
    (λ e4. if_ok (bytes_eq word (codes "vector")) _ _ kind e4
    (λ b h. after_ok _ (field (codes "len") (number_of 1 MOST_NUMBERS) entries) kind h (λ len read k.
    after_ok _ (field (codes "bits") (bits_of len) entries) kind k (λ bits sized l.
    let s = bits_read entries len bits sized in
    subst (HoldsKind entries) (same_Ok (Vector len bits) kind l)
    (word_read entries word (codes "vector") holds b, number_read entries (codes "len") 1 MOST_NUMBERS len read, s.0, s.1))))
    (λ e5. cc e5))))

kind_read : (entries : Members) (kind : Kind) → kind_of entries ≡ Ok kind → HoldsKind entries kind
kind_read entries kind e =
    after_ok _ (field (codes "kind") as_str entries) kind e (λ word read h.
    field_holds (codes "kind") as_str entries word read (λ value found is.
    kind_named_read entries word kind (found ∙ ap Some (string_read value word is)) h))

kind_back : (entries : Members) (kind : Kind) → HoldsKind entries kind → kind_of entries ≡ Ok kind
kind_back entries Count h = rw h refl
kind_back entries (Sum bits) h = rw (h.0, number_back entries (codes "bits") 1 64 bits h.1) refl
kind_back entries (Histogram bounds) h = rw (h.0, bounds_back entries (codes "bounds") bounds h.1 h.2 h.3) refl
kind_back entries (Vector len bits) h = rw (h.0, number_back entries (codes "len") 1 MOST_NUMBERS len h.1, bits_back entries len bits h.2 h.3) refl

-- ---- other keys

none_left : (p : List ℕ → Bool) (keys : List (List ℕ)) → first_of (filter p keys) ≡ None → All (λ key. p key ≡ false) keys
none_left p [] e = All-nil (λ key. p key ≡ false)
none_left p (key ∷ keys) e =
    elim (p key) as (λ b. p key ≡ b → first_of (cond b (key ∷ filter p keys) (filter p keys)) ≡ None → All (λ k. p k ≡ false) (key ∷ keys)) [
      | true ↦ λ passes h. cc h
      | false ↦ λ passes h. All-cons (λ k. p k ≡ false) key keys passes (none_left p keys h)
    ] refl e

none_kept : (p : List ℕ → Bool) (keys : List (List ℕ)) → All (λ key. p key ≡ false) keys → filter p keys ≡ []
none_kept p [] all = refl
none_kept p (key ∷ keys) all = rw (All-head (λ k. p k ≡ false) key keys all) (none_kept p keys (All-tail (λ k. p k ≡ false) key keys all))

not_refused : (key : Option (List ℕ)) (u : Unit {0}) → refused key ≡ Ok u → key ≡ None
not_refused None u e = refl
not_refused (Some key) u e = cc e

others_read : (kind : Kind) (entries : Members) (u : Unit {0}) → no_others kind entries ≡ Ok u → All (λ key. is_other kind key ≡ false) (table_keys entries)
others_read kind entries u e = none_left (is_other kind) (table_keys entries) (not_refused _ u e)

others_back : (kind : Kind) (entries : Members) → All (λ key. is_other kind key ≡ false) (table_keys entries) → no_others kind entries ≡ Ok tt
others_back kind entries all = ap (λ ks. refused (first_of ks)) (none_kept (is_other kind) (table_keys entries) all)

-- ---- tasks

-- the table is the task, whose name is free
abbrev pub IsNewTask : List PlainTask → Members → PlainTask → Type 0
IsNewTask before entries task = IsTaskTable entries task × (list_any (has_name task.name) before ≡ false)

pub task_read : (before : List PlainTask) (entries : Members) (task : PlainTask) → task_of before entries ≡ Ok task → IsNewTask before entries task
task_read before entries task e =
    after_ok _ (field (codes "name") (new_name_of before) entries) task e (λ name r1 e1.
    after_ok _ (kind_of entries) task e1 (λ kind r2 e2.
    after_ok _ (field (codes "min") (number_of 1 1000000) entries) task e2 (λ min r3 e3.
    after_ok _ (field (codes "precision") (number_of 1 1000000000) entries) task e3 (λ precision r4 e4.
    after_ok _ (optional_field (codes "expires") (number_of 0 LATEST_TIME) entries) task e4 (λ expires rx ex.
    after_ok _ (field (codes "verify") (octets_of 16) entries) task ex (λ verify r5 e5.
    after_ok _ (field (codes "leader") keys_of entries) task e5 (λ leader r6 e6.
    after_ok _ (field (codes "helper") keys_of entries) task e6 (λ helper r7 e7.
    after_ok _ (no_others kind entries) task e7 (λ u r8 e8.
    let named = name_read before entries name r1 in
    subst (IsNewTask before entries) (same_Ok _ task e8) (
      record {
        name = named.0;
        is_name = named.1;
        kind = kind_read entries kind r2;
        min = number_read entries (codes "min") 1 1000000 min r3;
        precision = number_read entries (codes "precision") 1 1000000000 precision r4;
        expires = expiry_read entries expires rx;
        verify = octets_read entries (codes "verify") 16 verify r5;
        leader = keys_read entries (codes "leader") leader r6;
        helper = keys_read entries (codes "helper") helper r7;
        no_others = others_read kind entries u r8;
      },
      named.2,
    ))))))))))

pub task_back : (before : List PlainTask) (entries : Members) (task : PlainTask) → IsNewTask before entries task → task_of before entries ≡ Ok task
task_back before entries task h =
    let t = h.0 in
    rw (
      name_back before entries task.name (t.name, t.is_name, h.1),
      kind_back entries task.kind t.kind,
      number_back entries (codes "min") 1 1000000 task.min t.min,
      number_back entries (codes "precision") 1 1000000000 task.precision t.precision,
      expiry_back entries task.expires t.expires,
      octets_back entries (codes "verify") 16 task.verify t.verify,
      keys_back entries (codes "leader") task.leader t.leader,
      keys_back entries (codes "helper") task.helper t.helper,
      others_back task.kind entries t.no_others,
    ) refl
