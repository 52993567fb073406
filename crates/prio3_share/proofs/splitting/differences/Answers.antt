use Rattle.std.proofs.Common.{◌≡◌, ℕ, suc, ◌+◌, ◌∷◌, ◌++◌, [], take, ap, ◌∙◌, arith}
use Rattle.prio3_share.specs.Sharing.{differences}
use Rattle.prio3_share.proofs.Elements.{differences-nothing, differences-more}
use Rattle.prio3_share.proofs.splitting.differences.Goals as goal

pub loop-i-init : goal.loop-i-init
loop-i-init g c = record { within = omega arith; taken = c.new-out.ensures.items ∙ differences-nothing g.F.Field.ring c.args.xs.now c.args.ys.now }

pub loop-i-preserved : goal.loop-i-preserved
loop-i-preserved g c =
    let ring = g.F.Field.ring in
    let xs = c.args.xs.now in
    let ys = c.args.ys.now in
    let i : ℕ = c.loop-i.i in
    record {
      within = omega arith;
      taken =
          c.in_ok-push.ensures.items
          ∙ ap (λ l. l ++ (c.sub.result ∷ [])) c.loop-i.invariant.taken
          ∙ ap (λ x. differences ring (take i xs) (take i ys) ++ (x ∷ [])) c.sub.ensures
          ∙ differences-more ring xs ys i c.index-xs-i.result c.index-ys-i.result (omega arith) c.requires c.index-xs-i.is c.index-ys-i.is
          ∙ ap (λ n. differences ring (take n xs) (take n ys)) (let e : suc i ≡ i + 1 = omega arith in e);
    }
