use Rattle.dap_seal.proofs.laws.sealed_shares_are_opened.Goals as goal

pub returns : goal.returns
returns g c head plain = g.met.S.Seal.undone c.args.seal.now head plain
