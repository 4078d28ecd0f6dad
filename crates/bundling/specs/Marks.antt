-- The hosts that a search reads.
use Rattle.std.specs.Prelude.{ℕ, Bool, false, List, Some, None, Option, option_map, ◌==◌, slice_index_or}
use Rattle.measure.specs.Kind.{Kind}
use Rattle.bundling.specs.declared.Host.{Host}
use Rattle.bundling.specs.declared.Near.{Near}

abbrev pub no_host : {C : Type 0} → Kind C → Host C
no_host K = record { pivot = None; start = 0; end = 0 }

abbrev pub host_at : {C : Type 0} → Kind C → List (Host C) → ℕ → Host C
host_at K hosts v = slice_index_or hosts v (no_host K)

-- there is a pivot, and it is u
abbrev pub is_at : {C : Type 0} → Option (Near C) → ℕ → Bool
is_at None u = false
is_at (Some p) u = p.mark == u

-- the mark of the pivot, or v where there is none
abbrev pub mark_or : {C : Type 0} → Option (Near C) → ℕ → ℕ
mark_or None v = v
mark_or (Some p) v = p.mark

-- what the pivot is away
abbrev pub cost_of : {C : Type 0} → Option (Near C) → Option C
cost_of pivot = option_map (λ p. p.cost) pivot

-- a pivot is its own host
unfoldable pub pivot_in : {C : Type 0} → Kind C → List (Host C) → ℕ → Bool
pivot_in K hosts v = is_at (host_at K hosts v).pivot v

-- the host of a mark, or the mark itself where it has none
unfoldable pub host_in : {C : Type 0} → Kind C → List (Host C) → ℕ → ℕ
host_in K hosts v = mark_or (host_at K hosts v).pivot v

-- what the host is away
unfoldable pub away_in : {C : Type 0} → Kind C → List (Host C) → ℕ → Option C
away_in K hosts v = cost_of (host_at K hosts v).pivot
