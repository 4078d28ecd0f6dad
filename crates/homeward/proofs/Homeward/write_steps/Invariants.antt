use Rattle.homeward.specs.Steps.{StepsAre}
use Rattle.homeward.specs.Waters.{waters}
use Rattle.homeward.proofs.Homeward.write_steps.Given as goal

abbrev pub invariant-loop-v : goal.invariant-loop-v
invariant-loop-v g l = StepsAre (waters g.M.Cost.Cost.kind g.M.Measure.priced l.self) l.self.home l.steps l.v
