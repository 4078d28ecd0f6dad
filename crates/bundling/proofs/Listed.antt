-- The numbers with a property, listed one after the other.
use Rattle.std.proofs.Common.{◌≡◌, ℕ, ◌+◌, ◌<◌, List, [], ◌∷◌, ◌++◌, inl, inr, arith}
use native.Mathlib.Decide.{ℕ_discrete}
use Rattle.std.specs.List.{ContainsAt as Has, AllByRecursion}
use Rattle.std.proofs.ByRecursion.{has_push, has_push_cases, has_append_left, all_has_itself, All-push, All-weaker}
use Rattle.waterway.specs.Counts.{Rising, Lists}

rising_push : (xs : List ℕ) (m : ℕ) → Rising xs → AllByRecursion (λ x. x < m) xs → Rising (xs ++ m ∷ [])
rising_push [] m r a = (tt, tt)
rising_push (x ∷ xs) m r a = (All-push (λ y. x < y) xs m r.0 a.0, rising_push xs m r.1 a.1)

module _ {P : ℕ → Type 0} where
  pub lists_none : (n : ℕ) → ((x : ℕ) → x < n → P x → ⊥) → Lists P n []
  lists_none n none = record { rising = tt; only = λ x h. let lt = h.1 in absurd (omega arith); every = λ x lt p. absurd (none x lt p) }

  module _ {m n : ℕ} {xs : List ℕ} (r : Lists P m xs) (next : n ≡ m + 1) where
    -- m has the property too
    pub lists_push : P m → Lists P n (xs ++ m ∷ [])
    lists_push p = record {
      rising = rising_push xs m r.rising (All-weaker (Has xs) (λ x. x < m) (λ x h. (r.only x h).0) xs (all_has_itself xs));
      only = λ x h. elim (has_push_cases xs m x h) [ inl g ↦ (let o = r.only x g in let lt = o.0 in (omega arith, o.1)) | inr e ↦ (omega arith, rw e at p) ];
      every = λ x lt q. elim (ℕ_discrete x m) [ yes e ↦ rw e (has_push xs m) | no e ↦ has_append_left xs (m ∷ []) x (r.every x (omega arith) q) ];
    }

    -- m has not
    pub lists_skip : (P m → ⊥) → Lists P n xs
    lists_skip not = record {
      rising = r.rising;
      only = λ x h. let o = r.only x h in let lt = o.0 in (omega arith, o.1);
      every = λ x lt q. elim (ℕ_discrete x m) [ yes e ↦ absurd (not (rw e at q)) | no e ↦ r.every x (omega arith) q ];
    }
