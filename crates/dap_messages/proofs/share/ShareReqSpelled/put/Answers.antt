use Rattle.std.proofs.Common.{◌≡◌, ◌++◌, ap, ◌∙◌}
use Rattle.std.proofs.lemmas.Result.{IfOk-equal}
use Rattle.dap_messages.specs.Shares.{extent_of, request_as, request_code, share_req}
use Rattle.dap_messages.specs.AppendLaws.{coded}
use Rattle.dap_messages.specs.ShareLaws.{request_spelled}
use Rattle.dap_messages.proofs.share.ShareReqSpelled.put.Goals as goal

pub returns : goal.returns
returns c =
    let o = c.args.out.now.items in
    let value = c.args.self.now in
    let extent = extent_of value.span in
    let fields = (request_as extent).spell value in
    let code : c.request_code.result ≡ request_code extent = c.request_code.ensures ∙ ap request_code c.of.ensures in
    IfOk-equal c.put_fields.result c.put_fields.new.out.items (c.put_u8.new.out.items ++ fields) (o ++ share_req.spell value) c.put_fields.ensures
    (coded o fields (share_req.spell value) c.put_u8.new.out.items c.request_code.result (request_code extent) c.in_ok-put_u8.ensures.ok code (request_spelled value))
