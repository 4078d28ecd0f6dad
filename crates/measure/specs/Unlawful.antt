-- Two ways to price a way that look like measures and are none.
use Rattle.std.specs.Prelude.{ℕ, ◌+◌, max}
use Rattle.measure.specs.Kind.{Kind, Lawful}
use Rattle.measure.specs.Legal.{Legal}
use Rattle.measure.specs.Limited.{limited}
use Rattle.measure.specs.Tenths.{of, in_tenths}
use Rattle.measure.specs.declared.tenths.Tenths.{Tenths}

-- a way costs what its greatest leg costs
abbrev pub greatest_leg : Kind Tenths
greatest_leg = record {
  zero = of 0;
  sum = λ a b. limited (a.tenths + b.tenths) (of (max a.tenths b.tenths));
  size = λ a. a.tenths;
  Below = λ a b. in_tenths.Below a b;
}

-- 1 is below 2, and no longer after 3 is added to both
abbrev pub GreatestLegIsUnlawful : Type 0
GreatestLegIsUnlawful = Lawful greatest_leg → ⊥

-- a leg costs its locks alone: one without locks costs nothing
abbrev pub LocksAloneAreUnlawful : Type 0
LocksAloneAreUnlawful = ((length locks : ℕ) → Legal length locks → in_tenths.Below (of 0) (of locks)) → ⊥
