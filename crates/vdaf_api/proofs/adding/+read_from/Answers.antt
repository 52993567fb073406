use Rattle.std.proofs.Common.{◌≡◌, ◌-◌, ◌<◌, ℕ, List, [], ◌∷◌, ◌++◌, Some, OnOk, Result, Ok, Err, ap, sym, ◌∙◌, arith, append-nil, append_assoc}
use Rattle.field_laws.specs.Bytes.{from_low}
use Rattle.vdaf_api.specs.Vectors.{vector_of}
use Rattle.vdaf_api.proofs.FirstNumbers.{FirstOf, first_of, vector-zero_len}
use Rattle.vdaf_api.proofs.adding.+read_from.Goals as goal

on_ok : {T E : Type 0} {P Q : Type 0} (r : Result T E) → (P → Q) → OnOk r P → OnOk r Q
on_ok (Ok v) f p = f p
on_ok (Err e) f p = tt

pub returns-then-size-eq0 : goal.returns-then-size-eq0
returns-then-size-eq0 t c p xs e =
    let zero : c.args.size ≡ 0 = omega arith in
    let none = vector-zero_len p c.args.width c.args.bytes.now xs (ap (λ k. vector_of p c.args.width k c.args.bytes.now) (sym zero) ∙ e) in
    sym (append-nil c.args.numbers.now.items) ∙ ap (λ l. c.args.numbers.now.items ++ l) (sym none.1)

-- one number more, and then the rest
appended : (before after all : List ℕ) (n x : ℕ) (rest xs : List ℕ) → after ≡ before ++ n ∷ [] → n ≡ x → xs ≡ x ∷ rest → all ≡ after ++ rest → all ≡ before ++ xs
appended before after all n x rest xs push same is more =
    more ∙ ap (λ l. l ++ rest) push ∙ append_assoc before (n ∷ []) rest ∙ ap (λ y. before ++ (y ∷ rest)) same ∙ ap (λ l. before ++ l) (sym is)

pub returns : goal.returns
returns t c p xs e =
    let some : 0 < c.args.size = omega arith in
    let f : FirstOf p c.args.width c.args.size c.args.bytes.now xs = first_of p c.args.width c.args.size c.args.bytes.now xs some e in
    let first : c.number.result ≡ f.x = c.number.ensures ∙ ap from_low c.split_at.ensures.front ∙ f.value in
    let rest : vector_of p c.args.width (c.args.size - 1) c.split_at.result.1.now ≡ Some f.rest = ap (vector_of p c.args.width (c.args.size - 1)) c.split_at.ensures.back ∙ f.more in
    on_ok c.read_from.result (appended c.args.numbers.now.items c.push.new.self.items c.read_from.new.numbers.items c.number.result f.x f.rest xs c.in_ok-push.ensures.items first f.is) (c.read_from.ensures p f.rest rest)
