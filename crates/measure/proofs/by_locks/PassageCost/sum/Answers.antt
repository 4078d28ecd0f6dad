use Rattle.std.proofs.Common.{sym, refl, arith}
use Rattle.measure.specs.Passage.{sum_is}
use Rattle.measure.proofs.by_locks.PassageCost.sum.Goals as goal

pub returns : goal.returns
returns c = sym (sum_is c.args.self c.args.other _ (record { locks = refl; length = refl; fits = omega arith }))
