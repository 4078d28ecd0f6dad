-- The pivots that wait to be drawn, and how a draw changes them.
use Rattle.std.proofs.Common.{◌≡◌, ℕ, Bool, true, false, ◌⊎◌, Some, Option, inl, inr}
use Rattle.std.proofs.lemmas.Bool.{both_ways, false_from_ne_true}

pub true_false : {A : Type 0} {b : Bool} → b ≡ true → b ≡ false → A
true_false {b = b} e f = absurd (both_ways b f e)

-- A pivot with a label that is not drawn.
pub record Held {C : Type 0} (pivot : ℕ → Bool) (label : ℕ → Option C) (drawn : ℕ → Bool) (p : ℕ) (k : C) : Type 0 where
  pub pivotal : pivot p ≡ true
  pub undrawn : drawn p ≡ false
  pub key : label p ≡ Some k

-- u is drawn now, and what was drawn before still is.
pub record Draws (drawn drawn' : ℕ → Bool) (u : ℕ) : Type 0 where
  pub now : drawn' u ≡ true
  pub kept : (p : ℕ) → drawn p ≡ true → drawn' p ≡ true
  pub no_other : (p : ℕ) → drawn' p ≡ true → (drawn p ≡ true) ⊎ (p ≡ u)

pub is_undrawn : {drawn drawn' : ℕ → Bool} {u : ℕ} → Draws drawn drawn' u → (p : ℕ) → (p ≡ u → ⊥) → drawn p ≡ false → drawn' p ≡ false
is_undrawn {drawn' = drawn'} draws p other e = false_from_ne_true (drawn' p) (λ b. elim (draws.no_other p b) [ inl c ↦ true_false c e | inr f ↦ other f ])
