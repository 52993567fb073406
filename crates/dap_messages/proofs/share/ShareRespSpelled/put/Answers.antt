use Rattle.std.proofs.Common.{◌≡◌, ◌++◌, ap, ◌∙◌}
use Rattle.std.proofs.lemmas.Result.{IfOk-equal}
use Rattle.dap_messages.specs.Shares.{extent_of, response_as, response_code, share_resp}
use Rattle.dap_messages.specs.AppendLaws.{coded}
use Rattle.dap_messages.specs.ShareLaws.{response_spelled}
use Rattle.dap_messages.proofs.share.ShareRespSpelled.put.Goals as goal

pub returns : goal.returns
returns c =
    let o = c.args.out.now.items in
    let value = c.args.self.now in
    let extent = extent_of value.span in
    let fields = (response_as extent).spell value in
    let code : c.response_code.result ≡ response_code extent = c.response_code.ensures ∙ ap response_code c.of.ensures in
    IfOk-equal c.put_fields.result c.put_fields.new.out.items (c.put_u8.new.out.items ++ fields) (o ++ share_resp.spell value) c.put_fields.ensures
    (coded o fields (share_resp.spell value) c.put_u8.new.out.items c.response_code.result (response_code extent) c.in_ok-put_u8.ensures.ok code (response_spelled value))
