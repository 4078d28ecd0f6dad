-- How many of the numbers below n pass a test.
use Rattle.std.proofs.Common.{◌≡◌, ℕ, zero, suc, ◌+◌, ◌<◌, ◌≤◌, Bool, true, false, ◌↔◌, [], ◌∷◌, ◌++◌, sym, refl, ap, ◌∙◌, inl, inr, arith, length-append}
use Rattle.std.proofs.lemmas.Bool.{cases_Bool}
use Rattle.waterway.specs.Counts.{Counts}
use Rattle.queue.proofs.Tally.{one_if, tally, tally_more}
use Rattle.bundling.proofs.Listed.{lists_none, lists_push, lists_skip}
use Rattle.bundling.proofs.Queue.{true_false, Draws, is_undrawn}

module _ (f : ℕ → Bool) where
  pub tally_below : (n : ℕ) → tally f n ≤ n
  tally_below zero = omega arith
  tally_below (suc m) = go (f m) (tally_below m)
    where
      go : (b : Bool) → tally f m ≤ m → one_if b + tally f m ≤ suc m
      go true h = omega arith
      go false h = omega arith

  pub tally_none : (n : ℕ) → ((p : ℕ) → f p ≡ false) → tally f n ≡ 0
  tally_none zero none = refl
  tally_none (suc m) none = omega (arith, ap one_if (none m), tally_none m none)

  pub tally_drawn : {g : ℕ → Bool} {u : ℕ} (n : ℕ) → Draws f g u → u < n → f u ≡ false → tally g n ≡ tally f n + 1
  tally_drawn {g} {u} n draws lt e = tally_more f g n u lt e draws.now (λ p ne. elim (cases_Bool (f p)) [ inl b ↦ draws.kept p b ∙ sym b | inr b ↦ is_undrawn draws p ne b ∙ sym b ])

module _ (f : ℕ → Bool) (P : ℕ → Type 0) (is : (p : ℕ) → (f p ≡ true) ↔ P p) where
  pub tally_counts : (n : ℕ) → Counts P n (tally f n)
  tally_counts zero = record { those = []; lists = lists_none 0 (λ x lt p. omega arith); many = refl }
  tally_counts (suc m) = let c = tally_counts m in elim (cases_Bool (f m)) [
    | inl b ↦ record {
      those = c.those ++ m ∷ [];
      lists = lists_push c.lists (omega arith) ((is m).0 b);
      many = omega (arith, length-append c.those (m ∷ []), c.many, ap one_if b);
    }
    | inr b ↦ record { those = c.those; lists = lists_skip c.lists (omega arith) (λ q. true_false ((is m).1 q) b); many = omega (arith, c.many, ap one_if b) }
  ]
