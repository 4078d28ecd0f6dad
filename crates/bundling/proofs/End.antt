-- When nothing is held, the labels are the distances.
use Rattle.std.proofs.Common.{◌≡◌, ℕ, Bool, true, Some, Option}
use Rattle.std.proofs.lemmas.Bool.{true_from_ne_false}
use Rattle.measure.specs.Kind.{Kind}
use Rattle.waterway.proofs.Written.{lower_refl}
use Rattle.bundling.proofs.Graph.{Hosts}
use Rattle.bundling.proofs.Queue.{Held}
use Rattle.bundling.proofs.Nearby.{away}
use Rattle.bundling.proofs.Labels.{exact_if}
use Rattle.bundling.proofs.Steps.{Ready}
use Rattle.bundling.proofs.Draw.{front}

module _ {C : Type 0} {K : Kind C} {dist : ℕ → ℕ → Option C} {Edge : ℕ → ℕ → C → Type 0} {pivot : ℕ → Bool} {host : ℕ → ℕ} {s : ℕ}
    (hosts : Hosts K dist Edge pivot host s) where
  open K use {zero}
  open hosts use {ways}

  module _ {label : ℕ → Option C} {drawn : ℕ → Bool} (ready : Ready hosts label drawn) where
    -- The end: nothing is held.
    module _ (empty : (p : ℕ) (k : C) → Held pivot label drawn p k → ⊥) where
      source_drawn : drawn s ≡ true
      source_drawn =
          true_from_ne_false (drawn s) (λ b. empty s zero (record { pivotal = hosts.source; undrawn = b; key = ready.start }))

      pub all_settled : (v : ℕ) (d : C) → dist s v ≡ Some d → drawn (host v) ≡ true
      all_settled v d e =
          true_from_ne_false (drawn (host v)) (λ b. let f = front hosts ready source_drawn (away ways e) b in empty (host f.cross.y) f.j f.held)

      -- the labels are the costs of the cheapest ways, and None where there is no way
      pub exact_end : (v : ℕ) → label v ≡ dist s v
      exact_end v =
          exact_if ways ready.above v (λ d p. rw (ready.exact v (all_settled v d p.is)) (lower_refl ways.lawful (dist s) v d p.is))

      -- the drawn pivots are those that have a way
      pub drawn_end : (p : ℕ) → (drawn p ≡ true → (pivot p ≡ true) × ((d : C) × (dist s p ≡ Some d)))
          × ((pivot p ≡ true) × ((d : C) × (dist s p ≡ Some d)) → drawn p ≡ true)
      drawn_end p = (
        (λ b. (ready.drawn_pivot p b, ready.drawn_way p b)),
        (λ h. rw (hosts.own p h.0) at (all_settled p h.1.0 h.1.1)),
      )
