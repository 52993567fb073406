use Rattle.std.proofs.Common.{◌≡◌, ◌++◌, ◌∷◌, [], ap, ◌∙◌, codes}
use Rattle.std.proofs.lemmas.Result.{on_ok_weaker}
use Rattle.std.specs.Fmt.{decimal}
use Rattle.std.specs.List.{join_with_byte}
use Rattle.dap_script.specs.Spelling.{kind_words}
use Rattle.dap_script.proofs.PrintLemmas.{task-written}
use Rattle.dap_script.proofs.print.put_lasting.Goals as goal

pub returns : goal.returns
returns c =
    let text : c.push-3.new.self.items ++ decimal c.args.precision ≡ (((((((c.args.out.now.items ++ codes "task ") ++ c.args.name.now) ++ 32 ∷ []) ++ join_with_byte 32 (kind_words c.args.kind.now)) ++ 32 ∷ []) ++ decimal c.args.min) ++ 32 ∷ []) ++ decimal c.args.precision
    = cc (c.in_ok-extend_from_slice.ensures.items, c.in_ok-extend_from_slice-2.ensures.items, c.in_ok-push.ensures.items, c.in_ok-put_kind.ensures, c.in_ok-push-2.ensures.items, c.in_ok-put_number.ensures.ok, c.in_ok-push-3.ensures.items, c.as_bytes.ensures.bytes) in
    on_ok_weaker c.put_number-2.result
    (λ e. e ∙ ap (λ n. c.push-3.new.self.items ++ decimal n) c.from-2.ensures ∙ text ∙ task-written c.args.out.now.items c.args.name.now c.args.kind.now c.args.min c.args.precision)
    c.put_number-2.ensures.ok
