-- Distances as the search reads them: with their sizes, and the triangle as a mark that is not farther.
use Rattle.std.proofs.Common.{◌≡◌, ℕ, ◌^◌, ◌≤◌, Some, Option, ◌∙◌, arith}
use Rattle.measure.specs.Kind.{Kind, AtMost}
use Rattle.measure.proofs.Sums.{some_injective, at_most_refl, at_most_antisym, plus, sum_plus, zero_plus, plus_cancel}
use Rattle.waterway.specs.Labels.{Within}
use Rattle.bundling.proofs.Graph.{Ways}

module _ {C : Type 0} {K : Kind C} {dist : ℕ → ℕ → Option C} {Edge : ℕ → ℕ → C → Type 0} (ways : Ways K dist Edge) where
  open K use {zero, size}
  open ways use {lawful as L}

  infixl 65 ◌⊕◌
  infix 50 ◌≼◌
  abbrev ◌⊕◌ : C → C → C
  ◌⊕◌ = plus K

  abbrev ◌≼◌ : C → C → Type 0
  ◌≼◌ = AtMost K

  -- v is d away from u. `omega` reads the size from a hypothesis of this type.
  pub record Away (u v : ℕ) (d : C) : Type 0 where
    pub is : dist u v ≡ Some d
    pub short : size d ≤ 2 ^ 44

  pub away : {u v : ℕ} {d : C} → dist u v ≡ Some d → Away u v d
  away {u} {v} {d} e = record { is = e; short = ways.short u v d e }

  pub same_away : {u v : ℕ} {d e : C} → Away u v d → Away u v e → d ≡ e
  same_away p q = some_injective p.is q.is

  pub away_self : (u : ℕ) → Away u u zero
  away_self u = away (ways.self u)

  pub away_turn : {u v : ℕ} {d : C} → Away u v d → Away v u d
  away_turn {u} {v} p = away (ways.turn v u ∙ p.is)

  -- w is away from u, and not farther than r.
  pub record Nearby (u w : ℕ) (r : C) : Type 0 where
    pub cost : C
    pub away : Away u w cost
    pub upto : cost ≼ r

  nearby : {u w : ℕ} {r : C} → Within K (dist u w) r → Nearby u w r
  nearby m = record { cost = m.value; away = away m.is; upto = m.upto }

  pub away_nearby : {u w : ℕ} {d : C} → Away u w d → Nearby u w d
  away_nearby {d = d} p = record { cost = d; away = p; upto = at_most_refl L d }

  pub triangle : {u v w : ℕ} {d e : C} → Away u v d → Away v w e → Nearby u w (d ⊕ e)
  triangle {u} {v} {w} {d} {e} p q = nearby (ways.triangle u v w d e (d ⊕ e) p.is q.is (sum_plus L d e (omega arith)))

  pub triangle_leg : {u v w : ℕ} {d c : C} → Away u v d → Edge v w c → Nearby u w (d ⊕ c)
  triangle_leg {u} {v} {w} {d} {c} p l =
      nearby (ways.triangle_leg u v w d c (d ⊕ c) p.is l (sum_plus L d c (omega (arith, ways.short_leg v w c l))))

  pub leg_nearby : {u w : ℕ} {c : C} → Edge u w c → Nearby u w c
  leg_nearby {u} {w} {c} l = rw (zero_plus L c) at (triangle_leg (away_self u) l)

  -- If t and then the rest to v make up what v is away, and w is not farther than t, then w is t away.
  pub pinned : {o w v : ℕ} {t r : C} → Nearby o w t → size t ≤ 2 ^ 46 → Away w v r → Away o v (t ⊕ r) → Away o w t
  pinned {o} {w} {v} {t} {r} n small q whole =
      let m = triangle n.away q in
      let k : t ⊕ r ≼ n.cost ⊕ r = rw (same_away m.away whole) at m.upto in
      rw (at_most_antisym L n.upto (plus_cancel L t n.cost r (omega arith) (omega arith) k)) at n.away
