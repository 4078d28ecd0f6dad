-- The steps home, and what is written of them. Assumes nothing.
use Rattle.std.specs.Prelude.{◌≡◌, ℕ, ◌<◌, ◌⊎◌, List, [], ◌∷◌, ◌++◌, length, Some, None, Option, slice_index_or}
use Rattle.measure.specs.Kind.{Kind}
use Rattle.waterway.specs.Ways.{Water, Joins, Apart, toll}
use Rattle.waterway.specs.Routes.{StepHome}
use Rattle.waterway.specs.declared.Label.{Label}
use Rattle.homeward.specs.declared.Step.{Step}
use Rattle.waterway.specs.Labels.{label_of}

-- over the leg k the label of w and the price make up the label of v
pub record Back {C : Type 0} {K : Kind C} (W : Water K) (labels : List (Label C)) (v k w : ℕ) : Type 0 where
  pub joins : Joins W.legs k v w
  pub near : C
  pub far : C
  pub to_w : label_of K labels w ≡ Some near
  pub to_v : label_of K labels v ≡ Some far
  pub adds : K.sum near (toll W k) ≡ Some far

-- the step back from v over the leg k, if it leads back
abbrev pub LeadsBack : {C : Type 0} {K : Kind C} → Water K → List (Label C) → ℕ → ℕ → Option Step → Type 0
LeadsBack W labels v k None = (w : ℕ) → Back W labels v k w → ⊥
LeadsBack W labels v k (Some s) = (s.leg ≡ k) × Back W labels v k s.next

-- the step home from v, or none at home and where no way leads home
abbrev pub StepIs : {C : Type 0} {K : Kind C} → Water K → ℕ → ℕ → Option Step → Type 0
StepIs W home v None = (v ≡ home) ⊎ Apart W home v
StepIs W home v (Some s) = StepHome W home v s.leg s.next

abbrev pub step_at : List (Option Step) → ℕ → Option Step
step_at steps v = slice_index_or steps v None

-- the steps of the marks below i
pub record StepsAre {C : Type 0} {K : Kind C} (W : Water K) (home : ℕ) (steps : List (Option Step)) (i : ℕ) : Type 0 where
  pub each : (v : ℕ) → v < i → StepIs W home v (step_at steps v)

-- the steps lead from v, over the legs ks from last to first, to a mark without a step
pub data Leads (steps : List (Option Step)) : ℕ → List ℕ → Type 0 where
  ends : {v : ℕ} → v < length steps → step_at steps v ≡ None → Leads steps v []
  onward : {v : ℕ} {s : Step} {ks : List ℕ} → v < length steps → step_at steps v ≡ Some s → Leads steps s.next ks → Leads steps v (ks ++ s.leg ∷ [])
