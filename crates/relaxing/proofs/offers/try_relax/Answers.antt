use Rattle.relaxing.proofs.Runs.{relaxed_tried, untried}
use Rattle.relaxing.proofs.offers.try_relax.Goals as goal

pub returns-in-Some-clause-tried : goal.returns-in-Some-clause-tried
returns-in-Some-clause-tried g c = relaxed_tried g.C.Cost.lawful c.in-Some.is c.relax.ensures.relaxed

pub returns-in_default-clause-tried : goal.returns-in_default-clause-tried
returns-in_default-clause-tried g c = untried g.C.Cost.lawful c.in_default.is c.requires.matched
