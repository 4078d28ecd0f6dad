-- The one way home that is written down for each mark.
use Rattle.std.specs.Prelude.{◌≡◌, ℕ, ◌≤◌, List, [], ◌∷◌, ◌++◌, Some}
use Rattle.measure.specs.Kind.{Kind}
use Rattle.waterway.specs.Ways.{Joins, Water, toll, Dist}

-- the open leg k leads from v back to w, which is nearer to home by exactly the price of k
pub record Nearer {C : Type 0} {K : Kind C} (W : Water K) (home v k w : ℕ) : Type 0 where
  pub joins : Joins W.legs k v w
  pub near : C
  pub far : C
  pub to_w : Dist W home w near
  pub to_v : Dist W home v far
  pub adds : K.sum near (toll W k) ≡ Some far

-- the step home from v, a mark that is not home: over the lowest-numbered such leg
pub record StepHome {C : Type 0} {K : Kind C} (W : Water K) (home v k w : ℕ) : Type 0 where
  pub away : v ≡ home → ⊥
  pub nearer : Nearer W home v k w
  pub lowest : (j x : ℕ) → Nearer W home v j x → k ≤ j

-- the route of v: the steps home from it, written from home outward
pub data Route {C : Type 0} {K : Kind C} (W : Water K) (home : ℕ) : ℕ → List ℕ → Type 0 where
  at_home : Route W home home []
  onward : {v k w : ℕ} {ks : List ℕ} → StepHome W home v k w → Route W home w ks → Route W home v (ks ++ k ∷ [])
