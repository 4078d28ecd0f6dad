-- A list of legs under the prices of a measure.
use Rattle.std.specs.Prelude.{ℕ, ◌<◌, ◌≤◌, List, length}
use Rattle.measure.specs.Kind.{Kind}
use Rattle.measure.specs.Legal.{Legal}
use Rattle.waterway.specs.declared.Leg.{Leg}
use Rattle.waterway.specs.Legs.{leg_at}
use Rattle.waterway.specs.Ways.{Water}

-- each leg costs what the measure says of its length and its locks
abbrev pub water : {C : Type 0} (K : Kind C) → (ℕ → ℕ → C) → List Leg → Water K
water K priced legs = record { legs = legs; price = λ leg. priced leg.length leg.locks }

-- a leg that is legal, and both its ends are among n marks
pub record Lies (n : ℕ) (leg : Leg) : Type 0 where
  pub legal : Legal leg.length leg.locks
  pub from_in : leg.from < n
  pub to_in : leg.to < n

-- each leg is so
abbrev pub AllLie : ℕ → List Leg → Type 0
AllLie n legs = (k : ℕ) → k < length legs → Lies n (leg_at legs k)

-- there are at most 256 marks, and each leg is legal and ends at marks
pub record Charted (legs : List Leg) (n : ℕ) : Type 0 where
  pub few : n ≤ 256
  pub legal : (k : ℕ) → k < length legs → Legal (leg_at legs k).length (leg_at legs k).locks
  pub from_in : (k : ℕ) → k < length legs → (leg_at legs k).from < n
  pub to_in : (k : ℕ) → k < length legs → (leg_at legs k).to < n
