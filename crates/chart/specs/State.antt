-- What a chart has, read off its accepted calls alone.
use Rattle.std.specs.Prelude.{ℕ, Bool, false, List, [], length, None, Option}
use Rattle.waterway.specs.declared.Leg.{Leg}

-- the legs by number; of each mark, by number, whether it is marked as a pivot; home, if it was set; worked out or not
pub record State : Type 0 where
  pub legs : List Leg
  pub pivots : List Bool
  pub home : Option ℕ
  pub worked : Bool

-- so many marks stand
abbrev pub marks : State → ℕ
marks s = length s.pivots

-- a chart as it is begun
abbrev pub blank : State
blank = record { legs = []; pivots = []; home = None; worked = false }
