-- Marks, legs between them and the costs of the cheapest ways; pivots, hosts and balls.
-- All that the search has to know of a graph is in the two records `Ways` and `Hosts`.
use Rattle.std.proofs.Common.{◌≡◌, ℕ, ◌^◌, ◌≤◌, Bool, true, false, Some, Option}
use Rattle.measure.specs.Kind.{Kind, Lawful, AtMost}
use Rattle.waterway.specs.Labels.{Within}

-- A walk to v in which each leg is a step of a cheapest way to v.
pub data Geo {C : Type 0} (K : Kind C) (dist : ℕ → ℕ → Option C) (Edge : ℕ → ℕ → C → Type 0) (v : ℕ) : ℕ → Type 0 where
  here : Geo K dist Edge v v
  step : {u w : ℕ} {c r d : C} → Edge u w c → dist w v ≡ Some r → dist u v ≡ Some d → K.sum c r ≡ Some d
      → Geo K dist Edge v w → Geo K dist Edge v u

-- What is known of the costs of cheapest ways: `dist u v` is None where no way joins u and v.
pub record Ways {C : Type 0} (K : Kind C) (dist : ℕ → ℕ → Option C) (Edge : ℕ → ℕ → C → Type 0) : Type 0 where
  pub lawful : Lawful K
  pub short : (u v : ℕ) (d : C) → dist u v ≡ Some d → K.size d ≤ 2 ^ 44
  pub short_leg : (u v : ℕ) (c : C) → Edge u v c → K.size c ≤ 2 ^ 36
  pub self : (u : ℕ) → dist u u ≡ Some K.zero
  pub turn : (u v : ℕ) → dist u v ≡ dist v u
  pub triangle : (u v w : ℕ) (d e r : C) → dist u v ≡ Some d → dist v w ≡ Some e → K.sum d e ≡ Some r → Within K (dist u w) r
  pub triangle_leg : (u v w : ℕ) (d c r : C) → dist u v ≡ Some d → Edge v w c → K.sum d c ≡ Some r → Within K (dist u w) r
  pub walk : (u v : ℕ) (d : C) → dist u v ≡ Some d → Geo K dist Edge v u

-- The host of v is a pivot, d away from v at most.
pub record Hosted {C : Type 0} (K : Kind C) (dist : ℕ → ℕ → Option C) (pivot : ℕ → Bool) (host : ℕ → ℕ) (v : ℕ) (d : C) : Type 0 where
  pub cost : C
  pub pivotal : pivot (host v) ≡ true
  pub is : dist v (host v) ≡ Some cost
  pub upto : AtMost K cost d

-- Some marks are pivots, the source s among them. A mark that has a way to a pivot has a nearest pivot for its host.
-- Nothing is asked of the host of any other mark.
pub record Hosts {C : Type 0} (K : Kind C) (dist : ℕ → ℕ → Option C) (Edge : ℕ → ℕ → C → Type 0) (pivot : ℕ → Bool) (host : ℕ → ℕ) (s : ℕ) : Type 0 where
  pub ways : Ways K dist Edge
  pub source : pivot s ≡ true
  pub own : (p : ℕ) → pivot p ≡ true → host p ≡ p
  pub near : (v p : ℕ) (d : C) → pivot p ≡ true → dist v p ≡ Some d → Hosted K dist pivot host v d

-- w is in the ball of v: v is no pivot, and w is nearer to v than v's host is. (So v itself is in its ball unless its host is at no cost.)
pub record Ball {C : Type 0} (K : Kind C) (dist : ℕ → ℕ → Option C) (pivot : ℕ → Bool) (host : ℕ → ℕ) (v w : ℕ) : Type 0 where
  pub outer : pivot v ≡ false
  pub cost : C
  pub is : dist v w ≡ Some cost
  pub rim : C
  pub rim_is : dist v (host v) ≡ Some rim
  pub inside : K.Below cost rim

-- No label is below what its mark is away from the source s, and a mark with a label has a way.
abbrev pub Above : {C : Type 0} → Kind C → (ℕ → ℕ → Option C) → ℕ → (ℕ → Option C) → Type 0
Above {C} K dist s label = (v : ℕ) (c : C) → label v ≡ Some c → Within K (dist s v) c
