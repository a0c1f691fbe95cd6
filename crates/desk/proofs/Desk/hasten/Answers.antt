use Rattle.desk.proofs.Desk.hasten.Goals as goal

pub returns-in-0 : goal.returns-in-0
returns-in-0 c = let a = c.args in c.skim-from.ensures.ahead a.self.session a.y.now a.c.now
