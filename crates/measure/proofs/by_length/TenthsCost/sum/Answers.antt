use Rattle.std.proofs.Common.{sym, refl, arith}
use Rattle.measure.specs.Tenths.{sum_is}
use Rattle.measure.proofs.by_length.TenthsCost.sum.Goals as goal

pub returns : goal.returns
returns c = sym (sum_is c.args.self c.args.other _ (omega arith) refl)
