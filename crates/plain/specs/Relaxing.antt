-- How labels fall while the legs are relaxed.
use Rattle.std.specs.Prelude.{◌≡◌, ℕ, ◌<◌, true, false, ◌⊎◌, List, [], ◌∷◌, Some, Option, ◌≢◌}
use Rattle.measure.specs.Kind.{Kind}
use Rattle.waterway.specs.declared.Leg.{Leg}
use Rattle.waterway.specs.Ways.{Joins, Off, Water, toll}
use Rattle.waterway.specs.Labels.{Within, Lower, Wrote}

-- the label of y is r if it was not there or above r, and else all stay
abbrev pub Lowered : {C : Type 0} → Kind C → (ℕ → Option C) → (ℕ → Option C) → ℕ → C → Type 0
Lowered K label label' y r =
    (((v : ℕ) → label' v ≡ label v) × Within K (label y) r) ⊎ (Wrote label label' y r × (Within K (label y) r → ⊥))

-- to y is offered what it costs from x at this price, where x has a label and the sum is given; and else all stay
pub record Relaxed {C : Type 0} (K : Kind C) (label label' : ℕ → Option C) (x y : ℕ) (price : C) : Type 0 where
  pub offered : (d c : C) → label x ≡ Some d → K.sum d price ≡ Some c → Lowered K label label' y c
  pub idle : ((d c : C) → label x ≡ Some d → K.sum d price ≢ Some c) → (v : ℕ) → label' v ≡ label v

-- over an open leg each end is relaxed from the other
pub record LegRelaxed {C : Type 0} (K : Kind C) (label label' : ℕ → Option C) (leg : Leg) (price : C) : Type 0 where
  pub closed : leg.«open» ≡ false → (v : ℕ) → label' v ≡ label v
  pub both : leg.«open» ≡ true → (halfway : ℕ → Option C) × Relaxed K label halfway leg.from leg.to price × Relaxed K halfway label' leg.to leg.from price

-- a way home from u over the marks ms that costs c, each of whose marks has a label that is not above what the way costs from there
pub data Trail {C : Type 0} {K : Kind C} (W : Water K) (home : ℕ) (label : ℕ → Option C) : ℕ → List ℕ → C → Type 0 where
  at_home : Trail W home label home (home ∷ []) K.zero
  over : {k u w : ℕ} {ms : List ℕ} {c d : C} → Joins W.legs k u w → Off u ms → K.sum (toll W k) d ≡ Some c → Within K (label u) c
      → Trail W home label w ms d → Trail W home label u (u ∷ ms) c

-- home has zero, and each label is the cost of such a way
pub record Sure {C : Type 0} {K : Kind C} (W : Water K) (home : ℕ) (label : ℕ → Option C) : Type 0 where
  pub zero_home : label home ≡ Some K.zero
  pub real : (u : ℕ) (c : C) → label u ≡ Some c → (ms : List ℕ) × Trail W home label u ms c

-- labels that were sure are so still and have only fallen, and over each of the first m legs an end is offered what it costs from the label that the other end had
pub record Round {C : Type 0} {K : Kind C} (W : Water K) (m home : ℕ) (label label' : ℕ → Option C) : Type 0 where
  pub sure : Sure W home label'
  pub lower : Lower K label label'
  pub offered : (k u w : ℕ) (c d : C) → k < m → Joins W.legs k u w → label w ≡ Some d → K.sum (toll W k) d ≡ Some c → Within K (label' u) c
