-- Legs by number, and which marks they join.
use Rattle.std.specs.Prelude.{◌≡◌, ℕ, ◌<◌, false, T, ◌⊎◌, List, length, Some, None, Option, slice_index_or}
use Rattle.waterway.specs.declared.Leg.{Leg}

-- what stands where no leg does: a closed leg
abbrev pub no_leg : Leg
no_leg = record { from = 0; to = 0; length = 0; locks = 0; «open» = false }

-- the leg number k
abbrev pub leg_at : List Leg → ℕ → Leg
leg_at legs k = slice_index_or legs k no_leg

-- the ends of a leg are u and v, either way round
abbrev pub Ends : Leg → ℕ → ℕ → Type 0
Ends leg u v = ((leg.from ≡ u) × (leg.to ≡ v)) ⊎ ((leg.from ≡ v) × (leg.to ≡ u))

-- some leg, open or closed, has the ends u and v
abbrev pub Joined : List Leg → ℕ → ℕ → Type 0
Joined legs u v = (k : ℕ) × (k < length legs) × Ends (leg_at legs k) u v

-- the other end of an open leg that ends at v
abbrev pub FarEnd : Leg → ℕ → Option ℕ → Type 0
FarEnd leg v None = (z : ℕ) → T leg.«open» → Ends leg z v → ⊥
FarEnd leg v (Some z) = T leg.«open» × (Ends leg z v × ((x : ℕ) → Ends leg x v → x ≡ z))
