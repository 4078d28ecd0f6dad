use Rattle.measure.proofs.Unlawful.{greatest_leg_is_unlawful}
use Rattle.measure.proofs.tests.greatest.Goals as goal

pub returns-clause-unlawful : goal.returns-clause-unlawful
returns-clause-unlawful c = greatest_leg_is_unlawful
