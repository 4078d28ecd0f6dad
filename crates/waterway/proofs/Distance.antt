-- The distance as a function: Some where there is one, and None where the marks are apart.
use Rattle.std.proofs.Common.{◌≡◌, ℕ, Some, None, Option, sym, refl, ◌∙◌}
use Rattle.measure.specs.Kind.{Kind}
use Rattle.waterway.specs.Ways.{Water, Dist, Apart, Tells, Sound}
use Rattle.waterway.proofs.Rounds.{rounds, rounds_tell, less_of, less_sharp}

module _ {C : Type 0} {K : Kind C} {W : Water K} {n : ℕ} (S : Sound W n) where
  pub dist : ℕ → ℕ → Option C
  dist u v = rounds W (less_of S.lawful) v n u

  dist_tells : (u v : ℕ) → Tells W u v (dist u v)
  unfolding dist
  dist_tells u v = rounds_tell S (less_of S.lawful) (less_sharp S.lawful) v u

  pub dist_found : {u v : ℕ} {c : C} → dist u v ≡ Some c → Dist W u v c
  dist_found {u} {v} {c} = ((dist_tells u v).some c).0

  pub dist_none : {u v : ℕ} → dist u v ≡ None → Apart W u v
  dist_none {u} {v} = (dist_tells u v).none.0

  pub dist_is : {u v : ℕ} {c : C} → Dist W u v c → dist u v ≡ Some c
  dist_is {u} {v} {c} = ((dist_tells u v).some c).1

  pub apart_is : {u v : ℕ} → Apart W u v → dist u v ≡ None
  apart_is {u} {v} = (dist_tells u v).none.1

  pub tells : {u v : ℕ} {o : Option C} → o ≡ dist u v → Tells W u v o
  tells {u} {v} e = rw e (dist_tells u v)

  pub told : {u v : ℕ} {o : Option C} → Tells W u v o → o ≡ dist u v
  told {u} {v} {o} t = go (dist u v) refl
    where
      go : (p : Option C) → dist u v ≡ p → o ≡ dist u v
      go None e = t.none.1 (dist_none e) ∙ sym e
      go (Some c) e = (t.some c).1 (dist_found e) ∙ sym e
