-- What stands in the hosts that are read.
use Rattle.std.proofs.Common.{◌≡◌, ℕ, ◌<◌, true, ◌⊎◌, List, length, get_or, Some, None, Option, refl, sym, ap, inl, inr}
use Rattle.std.proofs.lemmas.List.{get_or_read}
use Rattle.std.proofs.lemmas.Bool.{eqb-true}
use Rattle.measure.specs.Kind.{Kind}
use Rattle.measure.proofs.Sums.{some_none, some_injective}
use Rattle.bundling.specs.declared.Host.{Host}
use Rattle.bundling.specs.declared.Near.{Near}
use Rattle.bundling.specs.Marks.{no_host, host_at, is_at, mark_or, cost_of, pivot_in, host_in, away_in}
use Rattle.bundling.proofs.Queue.{true_false}

pub either_option : {A : Type 0} (o : Option A) → (o ≡ None) ⊎ ((a : A) × (o ≡ Some a))
either_option None = inl refl
either_option (Some a) = inr (a, refl)

-- a pivot that is u
pub at_some : {C : Type 0} (o : Option (Near C)) {u : ℕ} → is_at o u ≡ true → (c : C) × (o ≡ Some (record { mark = u; cost = c }))
at_some None e = true_false e refl
at_some (Some p) {u} e = (p.cost, ap (λ m. Some (record { mark = m; cost = p.cost })) (eqb-true p.mark u e))

-- a pivot that is so far away
pub cost_some : {C : Type 0} (o : Option (Near C)) (v : ℕ) {c : C} → cost_of o ≡ Some c → o ≡ Some (record { mark = mark_or o v; cost = c })
cost_some None v e = some_none e refl
cost_some (Some p) v e = ap (λ d. Some (record { mark = p.mark; cost = d })) (some_injective refl e)

pub none_mark : {C : Type 0} (o : Option (Near C)) (v : ℕ) → cost_of o ≡ None → mark_or o v ≡ v
none_mark None v e = refl
none_mark (Some p) v e = some_none refl e

module _ {C : Type 0} (K : Kind C) (hosts : List (Host C)) (v : ℕ) (x : Host C) (lt : v < length hosts) (e : x ≡ get_or hosts v x) where
  pub host_read : host_at K hosts v ≡ x
  host_read = sym (get_or_read hosts v x lt e (no_host K))

  pub pivot_read : pivot_in K hosts v ≡ is_at x.pivot v
  unfolding pivot_in
  pivot_read = ap (λ (z : Host C). is_at z.pivot v) host_read

  pub mark_read : host_in K hosts v ≡ mark_or x.pivot v
  unfolding host_in
  mark_read = ap (λ (z : Host C). mark_or z.pivot v) host_read

  pub away_read : away_in K hosts v ≡ cost_of x.pivot
  unfolding away_in
  away_read = ap (λ (z : Host C). cost_of z.pivot) host_read
