-- Verdicts, step by step.
use Rattle.std.proofs.Common.{◌≡◌, ℕ, List, Option, Some, None, sym, ap, ◌∙◌, refl}
use Rattle.std.specs.Option.{option_and_then}
use Rattle.vdaf_api.specs.declared.role.Role.{Role}
use Rattle.vdaf_api.specs.declared.role.Role.TheVariants.{Leader, Helper}
use Rattle.vdaf_api.specs.declared.step.Step.{Step}
use Rattle.vdaf_api.specs.declared.step.Step.TheVariants.{Continued, Failed}
use Rattle.vdaf_api.specs.Functions.{Functions, Parts}
use Rattle.field_laws.specs.Vector.{add_each}
use Rattle.vdaf_api.specs.Vectors.{IsOut, vector, numbers, numbers_in, plus}
use Rattle.vdaf_api.specs.SumLaws.{vector-plus}
use Rattle.vdaf_api.specs.Verdict.{Opened, opened, ok, bad, or_invalid, helper_step, leader_message, item_after, leader_item, out_of, helper_out, leader_out, both_outs, verdict_after, verdict, numbers_of}
use Rattle.vdaf_api.specs.Promises.{FunctionLaws, AddToContent}

pub verdict-ok : (f : Functions) (key id : List ℕ) (p : Parts) (ls hs message lo ho : List ℕ)
    → f.share Leader key id p.public p.leader ≡ Some ls → f.share Helper key id p.public p.helper ≡ Some hs → f.combine ls hs ≡ Some message
    → f.out Leader key id p.public p.leader message ≡ Some lo → f.out Helper key id p.public p.helper message ≡ Some ho → verdict f (opened key id p) ≡ ok lo ho
verdict-ok f key id p ls hs message lo ho e1 e2 e3 e4 e5 =
    let r : Opened = opened key id p in
    let helper : helper_step f r ≡ Continued hs = ap or_invalid e2 in
    let own : leader_message f r p.leader hs ≡ Some message =
    ap (option_and_then (λ ours. option_and_then (λ m. option_and_then (λ o. Some m) (f.out Leader key id p.public p.leader m)) (f.combine ours hs))) e1
    ∙ ap (option_and_then (λ m. option_and_then (λ o. Some m) (f.out Leader key id p.public p.leader m))) e3
    ∙ ap (option_and_then (λ o. Some message)) e4 in
    let item : leader_item f r ≡ Continued message = ap (item_after f r) helper ∙ ap or_invalid own in
    ap (verdict_after f r) item ∙ ap (λ o. both_outs o (helper_out f r message)) e4 ∙ ap (both_outs (Some lo)) e5

-- a leader's item that goes on has the prep message of both prep shares
pub ok-combined : (f : Functions) (key id : List ℕ) (p : Parts) (ls hs message : List ℕ) → f.share Leader key id p.public p.leader ≡ Some ls → f.share Helper key id p.public p.helper ≡ Some hs
    → leader_item f (opened key id p) ≡ Continued message → f.combine ls hs ≡ Some message
ok-combined f key id p ls hs message e1 e2 item =
    let r : Opened = opened key id p in
    let helper : helper_step f r ≡ Continued hs = ap or_invalid e2 in
    let own : leader_message f r p.leader hs ≡ option_and_then (λ m. option_and_then (λ o. Some m) (f.out Leader key id p.public p.leader m)) (f.combine ls hs) =
    ap (option_and_then (λ ours. option_and_then (λ m. option_and_then (λ o. Some m) (f.out Leader key id p.public p.leader m)) (f.combine ours hs))) e1 in
    go (f.combine ls hs) (sym (ap (item_after f r) helper ∙ ap or_invalid own) ∙ item)
  where
    out : (m : List ℕ) (q : Option (List ℕ)) → or_invalid (option_and_then (λ o. Some m) q) ≡ Continued message → Some m ≡ Some message
    out m (Some o) e = cc
    out m None e = absurd (cc)

    go : (o : Option (List ℕ)) → or_invalid (option_and_then (λ m. option_and_then (λ o. Some m) (f.out Leader key id p.public p.leader m)) o) ≡ Continued message → o ≡ Some message
    go (Some m) e = out m (f.out Leader key id p.public p.leader m) e
    go None e = absurd (cc)

-- the out shares of a verdict that is ok are out shares, and each side's own step gives its own
pub record IsOk (f : Functions) (r : Opened) (lo ho : List ℕ) : Type 0 where
  pub message : List ℕ
  pub item : leader_item f r ≡ Continued message
  pub leader : leader_out f r message ≡ Some lo
  pub helper : helper_out f r message ≡ Some ho

both-some : (o q : Option (List ℕ)) (lo ho : List ℕ) → both_outs o q ≡ ok lo ho → (o ≡ Some lo) × (q ≡ Some ho)
both-some (Some a) (Some b) lo ho e = (cc, cc)
both-some (Some a) None lo ho e = absurd (cc)
both-some None q lo ho e = absurd (cc)

pub ok-is : (f : Functions) (r : Opened) (lo ho : List ℕ) → verdict f r ≡ ok lo ho → IsOk f r lo ho
ok-is f r lo ho e = go (leader_item f r) refl
  where
    go : (s : Step) → leader_item f r ≡ s → IsOk f r lo ho
    go (Continued message) h = let both = both-some (leader_out f r message) (helper_out f r message) lo ho (sym (ap (verdict_after f r) h) ∙ e) in record { message = message; item = h; leader = both.0; helper = both.1 }
    go (Failed code) h = absurd (let k : bad code ≡ ok lo ho = sym (ap (verdict_after f r) h) ∙ e in cc)

out-is : {f : Functions} → FunctionLaws f → (role : Role) (r : Opened) (o : Option (List ℕ)) (message out : List ℕ) → out_of f role r o message ≡ Some out → IsOut f.space out
out-is {f} laws role r (Some input) message out e = laws.out role r.key r.id r.public input message out e
out-is {f} laws role r None message out e = absurd (cc)

pub ok-outs : {f : Functions} → FunctionLaws f → (r : Opened) (lo ho : List ℕ) → verdict f r ≡ ok lo ho → IsOut f.space lo × IsOut f.space ho
ok-outs {f} laws r lo ho e = let k : IsOk f r lo ho = ok-is f r lo ho e in (out-is laws Leader r r.leader k.message lo k.leader, out-is laws Helper r r.helper k.message ho k.helper)

-- the out shares of a verdict that is ok add to its content
pub ok-adds : {f : Functions} → FunctionLaws f → (r : Opened) (lo ho content : List ℕ) → verdict f r ≡ ok lo ho → numbers_of f (verdict f r) ≡ Some content → AddToContent f.space lo ho content
ok-adds {f} laws r lo ho content e n =
    let outs = ok-outs laws r lo ho e in
    let sum : vector f.space (plus f.space lo ho) ≡ Some (add_each f.space.modulus outs.0.0 outs.1.0) = vector-plus laws.space lo ho outs.0.0 outs.1.0 outs.0.1 outs.1.1 in
    let is : Some (numbers f.space (plus f.space lo ho)) ≡ Some content = sym (ap (numbers_of f) e) ∙ n in
    let same : numbers f.space (plus f.space lo ho) ≡ content = cc in
    record {
      leader = outs.0;
      helper = outs.1;
      sum = sym same ∙ ap numbers_in sum ∙ ap (λ o. add_each f.space.modulus (numbers_in o) outs.1.0) (sym outs.0.1) ∙ ap (λ o. add_each f.space.modulus (numbers f.space lo) (numbers_in o)) (sym outs.1.1);
    }
