use Rattle.legal_journals.proofs.leader_index.LeaderIndex.len.Goals as goal

pub returns : goal.returns
returns c records h = h.opens.count
