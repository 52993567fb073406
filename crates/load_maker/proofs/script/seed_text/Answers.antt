use Rattle.std.proofs.Common.{◌≡◌, ◌++◌, sym, ◌∙◌, string_bytes}
use Rattle.std.specs.Int.{to_be_bytes, w64}
use Rattle.hex.specs.Hex.{encode_lower, lower_digits}
use Rattle.load_maker.proofs.TextLemmas.{encode_with-append}
use Rattle.load_maker.proofs.script.seed_text.Goals as goal

pub returns : goal.returns
returns c =
    let joined : string_bytes c.push_str.new.self ≡ encode_lower (to_be_bytes w64 c.args.seed) ++ encode_lower (to_be_bytes w64 c.args.number)
    = cc (c.in_ok-push_str.ensures.bytes, c.in_ok-text.ensures, c.in_ok-rest.ensures, c.as_str.ensures.value) in
    joined ∙ sym (encode_with-append lower_digits (to_be_bytes w64 c.args.seed) (to_be_bytes w64 c.args.number))
