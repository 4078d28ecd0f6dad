-- Whether a leg joins two marks is decided.
use Rattle.std.proofs.Common.{ℕ, Bool, true, false, T, ◌⊎◌, List, length, inl, inr}
use native.Mathlib.Decide.{ℕ_discrete, dec_lt}
use Rattle.waterway.specs.declared.Leg.{Leg}
use Rattle.waterway.specs.Legs.{leg_at, Ends}
use Rattle.waterway.specs.Ways.{Joins}

both_or : {A B : Type 0} → Dec A → Dec B → Dec (A × B)
both_or (no a) b = no (λ p. a p.0)
both_or (yes a) (no b) = no (λ p. b p.1)
both_or (yes a) (yes b) = yes (a, b)

either_or : {A B : Type 0} → Dec A → Dec B → Dec (A ⊎ B)
either_or (yes a) b = yes (inl a)
either_or (no a) (yes b) = yes (inr b)
either_or (no a) (no b) = no (λ s. elim s [ inl h ↦ a h | inr h ↦ b h ])

true_or : (b : Bool) → Dec (T b)
true_or true = yes tt
true_or false = no (λ t. t)

ends_or : (leg : Leg) (u v : ℕ) → Dec (Ends leg u v)
ends_or leg u v = either_or
    (both_or (ℕ_discrete leg.from u) (ℕ_discrete leg.to v))
    (both_or (ℕ_discrete leg.from v) (ℕ_discrete leg.to u))

pub joins_or : (legs : List Leg) (k u v : ℕ) → Dec (Joins legs k u v)
joins_or legs k u v = elim (dec_lt k (length legs)) [
  | no e ↦ no (λ j. e j.stands)
  | yes lt ↦ elim (true_or (leg_at legs k).«open») [
    | no e ↦ no (λ j. e j.free)
    | yes free ↦ elim (ends_or (leg_at legs k) u v) [
      | no e ↦ no (λ j. e j.ends)
      | yes ends ↦ yes (record { stands = lt; free = free; ends = ends })
    ]
  ]
]
