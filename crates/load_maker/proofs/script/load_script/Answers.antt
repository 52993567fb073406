use Rattle.std.proofs.Common.{◌≡◌, ◌++◌, subst, arith}
use Rattle.load_maker.proofs.TextLemmas.{text-first, text-more, text-whole}
use Rattle.dap_script.specs.Spelling.{ended}
use Rattle.load_maker.specs.Load.{load_text, measurement}
use Rattle.load_maker.proofs.script.load_script.Goals as goal

pub loop-number-init : goal.loop-number-init
loop-number-init c = text-first c.args.seed c.in_ok-text.text.items c.in_ok-text.ensures.items

pub loop-number-preserved : goal.loop-number-preserved
loop-number-preserved c =
    let grown : c.extend_from_slice.new.self.items ≡ c.loop-number.text.items ++ ended (measurement c.args.seed c.loop-number.number)
    = cc (c.in_ok-extend_from_slice.ensures.items, c.in_ok-line.ensures, c.as_str.ensures.value, c.as_bytes.ensures.value) in
    text-more c.args.seed c.loop-number.number c.loop-number.text.items c.extend_from_slice.new.self.items c.loop-number.invariant grown

pub returns : goal.returns
returns c =
    let all : c.loop-number.number ≡ c.args.reports = omega (arith, c.loop-number-test.false, c.loop-number.auto.number-end) in
    subst (λ n. c.extend_from_slice-2.new.self.items ≡ load_text n c.args.seed) all
    (text-whole c.args.seed c.loop-number.number c.loop-number.text.items c.extend_from_slice-2.new.self.items c.loop-number.invariant c.in_ok-extend_from_slice-2.ensures.items)
