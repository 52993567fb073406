use Rattle.legal_journals.proofs.Waits.{other_less, other_more, settled_alike}
use Rattle.legal_journals.proofs.waiting.Waiting.waits_for_accepts_alone.Goals as goal

pub returns-clause-other : goal.returns-clause-other
returns-clause-other g c of settled records x none h = other_more g.G.Ord.cmp of settled c.args.self.now records x none h

pub returns-clause-other_back : goal.returns-clause-other_back
returns-clause-other_back g c of settled records x none h = other_less g.G.Ord.cmp of settled c.args.self.now records x none h

pub returns-clause-same : goal.returns-clause-same
returns-clause-same g c of settled so records alike h = settled_alike g.G.Ord.cmp of settled so c.args.self.now records alike h
