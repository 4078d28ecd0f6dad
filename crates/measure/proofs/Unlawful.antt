-- The counterexample to the greatest leg in place of a sum.
use Rattle.std.proofs.Common.{refl, arith}
use Rattle.measure.specs.Tenths.{of}
use Rattle.measure.specs.Unlawful.{GreatestLegIsUnlawful}

pub greatest_leg_is_unlawful : GreatestLegIsUnlawful
greatest_leg_is_unlawful law = let still = (law.keeps (of 1) (of 2) (of 3) (of 3) (of 3) refl refl).0 (omega arith) in omega arith
