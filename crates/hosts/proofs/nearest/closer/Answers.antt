use Rattle.hosts.proofs.Nearing.{closer_keeps}
use Rattle.hosts.proofs.nearest.closer.Goals as goal

pub returns-in_default : goal.returns-in_default
returns-in_default g c = closer_keeps g.C.Cost.kind c.args.best c.args.pivot c.args.mark c.in-Some.is c.if-beats.ensures
