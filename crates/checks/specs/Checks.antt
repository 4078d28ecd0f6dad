-- How a call's checks decide its answer. Assumes nothing.
use Rattle.std.specs.Prelude.{◌≡◌, List, [], ◌∷◌, ◌⊎◌}

-- a call is refused where the condition holds
pub record Check (R : Type 0) : Type 1 where
  pub condition : Type 0
  pub refusal : R

infix 4 ◌refuses_by◌
abbrev pub ◌refuses_by◌ : {R : Type 0} → Type 0 → R → Check R
condition refuses_by refusal = record { condition = condition; refusal = refusal }

-- a answers a call with these checks: the refusal of the first whose condition holds, or what is right where none holds
abbrev pub Answers : {R A : Type 0} → (R → A) → (A → Type 0) → List (Check R) → A → Type 0
Answers refuse Right [] a = Right a
Answers refuse Right (check ∷ checks) a =
    (check.condition × (a ≡ refuse check.refusal)) ⊎ ((check.condition → ⊥) × Answers refuse Right checks a)
