-- How many of the numbers below n pass a test: the marks that a queue holds, each draw one fewer.
use Rattle.std.proofs.Common.{◌≡◌, ℕ, zero, suc, ◌+◌, ◌<◌, Bool, true, false, ◌≢◌, is_some, None, sym, refl, ap, ◌∙◌, arith}
use native.Mathlib.Decide.{ℕ_discrete}
use Rattle.queue.specs.Held.{Held, Alike, drawn}
use Rattle.queue.specs.Calls.{Least}
use Rattle.queue.proofs.Alikes.{key_set, key_kept}

abbrev pub one_if : Bool → ℕ
one_if true = 1
one_if false = 0

abbrev pub tally : (ℕ → Bool) → ℕ → ℕ
tally f zero = 0
tally f (suc m) = one_if (f m) + tally f m

module _ (f g : ℕ → Bool) where
  pub tally_same : (n : ℕ) → ((p : ℕ) → p < n → g p ≡ f p) → tally g n ≡ tally f n
  tally_same zero same = refl
  tally_same (suc m) same = omega (arith, ap one_if (same m (omega arith)), tally_same m (λ p lt. same p (omega arith)))

  -- one number more passes
  pub tally_more : (n u : ℕ) → u < n → f u ≡ false → g u ≡ true → ((p : ℕ) → p ≢ u → g p ≡ f p) → tally g n ≡ tally f n + 1
  tally_more zero u lt e e' same = absurd (omega arith)
  tally_more (suc m) u lt e e' same = elim (ℕ_discrete m u) [
    | yes h ↦ omega (arith, ap one_if (ap f h ∙ e), ap one_if (ap g h ∙ e'), tally_same m (λ p l. same p (omega arith)))
    | no h ↦ omega (arith, ap one_if (same m h), tally_more m u (omega arith) e e' same)
  ]

-- how many marks a queue holds
abbrev pub held_count : {K : Type 0} → Held K → ℕ
held_count h = tally (λ m. is_some (h.key m)) h.span

pub draw_one_fewer : {K : Type 0} {Under : K → K → Type 0} (h h' : Held K) (m : ℕ) (k : K) → Least Under h m k → Alike h' (drawn h m) → held_count h ≡ held_count h' + 1
draw_one_fewer h h' m k l a =
    rw a.span (tally_more (λ n. is_some (h'.key n)) (λ n. is_some (h.key n)) h.span m l.below
    (ap is_some (a.key m ∙ key_set h m m None refl)) (ap is_some l.holds)
    (λ n ne. ap is_some (sym (a.key n ∙ key_kept h m n None ne))))
