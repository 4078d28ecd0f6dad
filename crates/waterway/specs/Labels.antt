-- What the label of a mark says: a cost, or that none is known.
use Rattle.std.specs.Prelude.{◌≡◌, ℕ, false, cond, List, Some, None, Option, ◌≢◌, slice_index_or}
use Rattle.measure.specs.Kind.{Kind, AtMost}
use Rattle.waterway.specs.declared.Label.{Label}

-- what one label says
abbrev pub told : {C : Type 0} → Label C → Option C
told l = cond l.known (Some l.cost) None

-- a blank label: no, and zero
abbrev pub unlabelled : {C : Type 0} → Kind C → Label C
unlabelled K = record { known = false; cost = K.zero }

-- what the label of mark v says
unfoldable pub label_of : {C : Type 0} → Kind C → List (Label C) → ℕ → Option C
label_of K labels v = told (slice_index_or labels v (unlabelled K))

-- a label that says no is blank
pub record Clean {C : Type 0} (K : Kind C) (labels : List (Label C)) : Type 0 where
  pub each : (v : ℕ) → label_of K labels v ≡ None → slice_index_or labels v (unlabelled K) ≡ unlabelled K

-- a cost is there, and is not above r
pub record Within {C : Type 0} (K : Kind C) (o : Option C) (r : C) : Type 0 where
  pub value : C
  pub is : o ≡ Some value
  pub upto : AtMost K value r

-- no label of the first is gone in the second, and none has risen
abbrev pub Lower : {C : Type 0} → Kind C → (ℕ → Option C) → (ℕ → Option C) → Type 0
Lower {C} K label label' = (v : ℕ) (c : C) → label v ≡ Some c → Within K (label' v) c

-- only the label of y changes, to r
pub record Wrote {C : Type 0} (label label' : ℕ → Option C) (y : ℕ) (r : C) : Type 0 where
  pub here : label' y ≡ Some r
  pub others : (v : ℕ) → (v ≢ y) → label' v ≡ label v
