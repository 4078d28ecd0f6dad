-- The nearest pivot of a mark, the marks that are nearer than it, and the marks that share it.
use Rattle.std.specs.Prelude.{◌≡◌, ℕ, ◌<◌, ◌≤◌, Bool, false, T, ◌⊎◌}
use Rattle.measure.specs.Kind.{Kind}
use Rattle.waterway.specs.Ways.{Water, Dist, Apart}

-- u is the host of v and c its distance: of the pivots among n marks the nearest to v, and of equals the one with the smallest number
pub record Host {C : Type 0} {K : Kind C} (W : Water K) (n : ℕ) (pivot : ℕ → Bool) (v u : ℕ) (c : C) : Type 0 where
  pub inside : u < n
  pub is_pivot : T (pivot u)
  pub dist : Dist W v u c
  pub nearest : (p : ℕ) (d : C) → p < n → T (pivot p) → Dist W v p d → (K.Below c d) ⊎ ((c ≡ d) × (u ≤ p))

-- no way leads from v to any pivot
abbrev pub Hostless : {C : Type 0} {K : Kind C} → Water K → ℕ → (ℕ → Bool) → ℕ → Type 0
Hostless W n pivot v = (p : ℕ) → p < n → T (pivot p) → Apart W v p

-- w is nearer to v, which is no pivot, than the host of v is, and d is its distance
pub record InBall {C : Type 0} {K : Kind C} (W : Water K) (n : ℕ) (pivot : ℕ → Bool) (v w : ℕ) (d : C) : Type 0 where
  pub no_pivot : pivot v ≡ false
  pub dist : Dist W v w d
  pub host : ℕ
  pub far : C
  pub is_host : Host W n pivot v host far
  pub nearer : K.Below d far

-- the ball of v holds w
abbrev pub Ball : {C : Type 0} {K : Kind C} → Water K → ℕ → (ℕ → Bool) → ℕ → ℕ → Type 0
Ball {C} W n pivot v w = (d : C) × InBall W n pivot v w d

-- the bundle of the pivot u holds v: the host of v is u
abbrev pub Bundle : {C : Type 0} {K : Kind C} → Water K → ℕ → (ℕ → Bool) → ℕ → ℕ → Type 0
Bundle {C} W n pivot u v = (c : C) × Host W n pivot v u c
