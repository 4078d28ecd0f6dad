-- The search by bundles answers what it is asked, of any list of legs that cost something and any set of pivots that holds home.
use Rattle.std.proofs.Common.{◌≡◌, ℕ, Bool, true, T, ◌↔◌, Option}
use Rattle.measure.specs.Kind.{Kind}
use Rattle.waterway.specs.Ways.{Water, Dist, Tells, Sound, Dear}
use Rattle.waterway.proofs.Distance.{dist_found, dist_is, tells}
use Rattle.bundling.proofs.Queue.{Held}
use Rattle.bundling.proofs.Steps.{Ready}
use Rattle.bundling.proofs.End.{exact_end, drawn_end}
use Rattle.bundling.proofs.Pivots.{Placed, bundles}

module _ {C : Type 0} {K : Kind C} {W : Water K} {n : ℕ} (S : Sound W n) (dear : Dear W) (pivot : ℕ → Bool) {host : ℕ → ℕ} (placed : Placed W n pivot host)
    (home : ℕ) (home_pivot : T (pivot home))
    {label : ℕ → Option C} {drawn : ℕ → Bool} (ready : Ready (bundles S pivot placed dear home home_pivot) label drawn) where
  -- when nothing is held, every label is the distance
  module _ (empty : (p : ℕ) (k : C) → Held pivot label drawn p k → ⊥) where
    pub end_tells : (v : ℕ) → Tells W home v (label v)
    end_tells v = tells S (exact_end (bundles S pivot placed dear home home_pivot) ready empty v)

    -- and what was drawn are the pivots that can be reached
    pub drawn_are : (p : ℕ) → (drawn p ≡ true) ↔ ((pivot p ≡ true) × ((c : C) × Dist W home p c))
    drawn_are p =
        let e = drawn_end (bundles S pivot placed dear home home_pivot) ready empty p in
        (λ b. let r = e.0 b in (r.0, (r.1.0, dist_found S r.1.1)), λ r. e.1 (r.0, (r.1.0, dist_is S r.1.1)))
