use Rattle.std.proofs.Common.{rules, ◌≡◌, Some, true, false, ap, sym, ◌∙◌}
use Rattle.field_laws.specs.Polynomial.{add_polynomials}
use Rattle.prio3_share.specs.Preparing.{accepts, combine}
use Rattle.prio3_share.proofs.Fields.{base}
use Rattle.prio3_prep.proofs.Cuts.{combine-of}
use Rattle.prio3_prep.proofs.joining.join.Goals as goal

pub returns-in_err-leader_verifier : goal.returns-in_err-leader_verifier
unfolding combine
returns-in_err-leader_verifier g c = let none = c.in_err-leader_verifier.ensures.verifier c.args.kind in search rules

pub returns-in_err-helper_verifier : goal.returns-in_err-helper_verifier
unfolding combine
returns-in_err-helper_verifier g c = rw (c.in_ok-leader_verifier.ensures.verifier c.args.kind) (let none = c.in_err-helper_verifier.ensures.verifier c.args.kind in search rules)

pub message_of-requires-clause-leader : goal.message_of-requires-clause-leader
message_of-requires-clause-leader g c = c.in_ok-leader_verifier.ensures.room c.args.kind

pub message_of-requires-clause-helper : goal.message_of-requires-clause-helper
message_of-requires-clause-helper g c = c.in_ok-helper_verifier.ensures.room c.args.kind

pub returns-then-not-is_accepted : goal.returns-then-not-is_accepted
returns-then-not-is_accepted g c =
    let b = base g.C.F.Field in
    let shape = g.C.Circuit.shape c.args.c.now in
    let v = c.in_ok-leader_verifier.leader_verifier.items in
    let w = c.in_ok-helper_verifier.helper_verifier.items in
    let refused : accepts b shape c.args.kind (add_polynomials b.ring v w) ≡ false =
    ap (λ w. accepts b shape c.args.kind (add_polynomials b.ring v w)) (sym c.deref.ensures.value) ∙ sym (c.is_accepted.ensures c.args.kind) ∙ c.if-not-is_accepted.true in
    combine-of b shape c.args.kind c.args.leader.now c.args.helper.now v w false (c.in_ok-leader_verifier.ensures.verifier c.args.kind) (c.in_ok-helper_verifier.ensures.verifier c.args.kind) refused

pub returns : goal.returns
returns g c =
    let b = base g.C.F.Field in
    let shape = g.C.Circuit.shape c.args.c.now in
    let v = c.in_ok-leader_verifier.leader_verifier.items in
    let w = c.in_ok-helper_verifier.helper_verifier.items in
    let accepted : accepts b shape c.args.kind (add_polynomials b.ring v w) ≡ true =
    ap (λ w. accepts b shape c.args.kind (add_polynomials b.ring v w)) (sym c.deref.ensures.value) ∙ sym (c.is_accepted.ensures c.args.kind) ∙ c.if-not-is_accepted.false in
    combine-of b shape c.args.kind c.args.leader.now c.args.helper.now v w true (c.in_ok-leader_verifier.ensures.verifier c.args.kind) (c.in_ok-helper_verifier.ensures.verifier c.args.kind) accepted
    ∙ ap Some (sym c.in_ok-message_of.ensures)
