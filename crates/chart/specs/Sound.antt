-- What holds of the legs and home of every chart, besides that it is charted.
use Rattle.std.specs.Prelude.{◌≡◌, ℕ, ◌<◌, List, length, Some, Option, ◌≢◌}
use Rattle.waterway.specs.declared.Leg.{Leg}
use Rattle.waterway.specs.Legs.{leg_at, Ends}

-- each leg joins two different marks
abbrev pub Parted : List Leg → Type 0
Parted legs = (k : ℕ) → k < length legs → (leg_at legs k).from ≢ (leg_at legs k).to

-- no two legs join the same two marks
abbrev pub Single : List Leg → Type 0
Single legs = (j k : ℕ) → j < k → k < length legs → Ends (leg_at legs k) (leg_at legs j).from (leg_at legs j).to → ⊥

abbrev pub HomeIn : ℕ → Option ℕ → Type 0
HomeIn n home = (h : ℕ) → home ≡ Some h → h < n
