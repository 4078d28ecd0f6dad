-- The step home: from each mark that can be reached and is not home there is just one.
use Rattle.std.proofs.Common.{◌≡◌, ℕ, zero, suc, ◌≤◌, ◌⊎◌, Some, refl, ap, ◌∙◌, inl, inr, arith}
use Rattle.measure.specs.Kind.{Kind}
use Rattle.measure.proofs.Sums as sums
use Rattle.measure.proofs.Sums.{plus}
use Rattle.waterway.specs.Legs.{leg_at}
use Rattle.waterway.specs.Ways.{Joins, Water, toll, Dist, Sound, Dear}
use Rattle.waterway.specs.Routes.{Nearer, StepHome}
use Rattle.waterway.proofs.Bills as bills
use Rattle.waterway.proofs.Cuts as cuts
use Rattle.waterway.proofs.Decided.{joins_or}
use Rattle.waterway.proofs.Rounds.{apart_or_dist}
use Rattle.waterway.proofs.Metric as metric
use Rattle.waterway.proofs.Metric.{Geo, here, step}

-- the lowest number with a property that is decided
module _ (P : ℕ → Type 0) (or : (k : ℕ) → P k ⊎ (P k → ⊥)) where
  Lowest : Type 0
  Lowest = (j : ℕ) × P j × ((i : ℕ) → P i → j ≤ i)

  below : (m : ℕ) → ((i : ℕ) → P i → m ≤ i) ⊎ Lowest
  unfolding Lowest
  below zero = inl (λ i p. omega arith)
  below (suc m) = elim (below m) [
    | inr l ↦ inr l
    | inl none ↦ elim (or m) [
      | inl p ↦ inr (m, p, none)
      | inr a ↦ inl (λ i p. let le = none i p in let other : i ≡ m → ⊥ = λ e. a (rw e at p) in omega arith)
    ]
  ]

  lowest : (k : ℕ) → P k → Lowest
  lowest k p = elim (below (suc k)) [ inl none ↦ (let le = none k p in absurd (omega arith)) | inr l ↦ l ]

module _ {C : Type 0} {K : Kind C} {W : Water K} {n : ℕ} (S : Sound W n) (home : ℕ) where
  open S use {lawful as L}

  adds_or : (v k w : ℕ) (d c : C) → Joins W.legs k v w → Dist W home w d → Dist W home v c → Nearer W home v k w ⊎ (Nearer W home v k w → ⊥)
  adds_or v k w d c j D E = go (L.total (plus K d (toll W k)) c)
    where
      given : K.sum d (toll W k) ≡ Some (plus K d (toll W k))
      given = sums.sum_plus L d (toll W k) (omega (arith, cuts.dist_size S, bills.toll_small S))

      differ : (plus K d (toll W k) ≡ c → ⊥) → Nearer W home v k w → ⊥
      differ no_sum x = no_sum (sums.some_injective given (rw (cuts.dist_unique S x.to_w D, cuts.dist_unique S x.to_v E) at x.adds))

      go : (K.Below (plus K d (toll W k)) c) ⊎ ((plus K d (toll W k) ≡ c) ⊎ (K.Below c (plus K d (toll W k)))) → Nearer W home v k w ⊎ (Nearer W home v k w → ⊥)
      go (inl l) = inr (differ (λ e. L.irrefl c (rw e at l)))
      go (inr (inl e)) = inl (record { joins = j; near = d; far = c; to_w = D; to_v = E; adds = given ∙ ap Some e })
      go (inr (inr l)) = inr (differ (λ e. L.irrefl c (rw e at l)))

  nearer_or : (v k w : ℕ) → Nearer W home v k w ⊎ (Nearer W home v k w → ⊥)
  nearer_or v k w = elim (joins_or W.legs k v w) [
    | no e ↦ inr (λ x. e x.joins)
    | yes j ↦ elim (apart_or_dist S w home) [
      | inl a ↦ inr (λ x. a x.to_w.ks x.to_w.ms x.to_w.way)
      | inr D ↦ elim (apart_or_dist S v home) [
        | inl a ↦ inr (λ x. a x.to_v.ks x.to_v.ms x.to_v.way)
        | inr E ↦ adds_or v k w D.0 E.0 j D.1 E.1
      ]
    ]
  ]

  -- some mark w is nearer over the leg k: one of its two ends
  nearer_any : (v k : ℕ) → ((w : ℕ) × Nearer W home v k w) ⊎ (((w : ℕ) × Nearer W home v k w) → ⊥)
  nearer_any v k = elim (nearer_or v k (leg_at W.legs k).from) [
    | inl x ↦ inl ((leg_at W.legs k).from, x)
    | inr a ↦ elim (nearer_or v k (leg_at W.legs k).to) [
      | inl x ↦ inl ((leg_at W.legs k).to, x)
      | inr b ↦ inr (λ x. elim x.1.joins.ends [ inl e ↦ b (rw e.1 x.1) | inr e ↦ a (rw e.0 x.1) ])
    ]
  ]

  -- a least way home begins with such a leg
  pub nearer_exists : (v : ℕ) (c : C) → Dist W home v c → (v ≡ home → ⊥) → (k : ℕ) × (w : ℕ) × Nearer W home v k w
  nearer_exists v c D away = go (metric.dist_geo S (metric.dist_turned S D)) D away
    where
      go : {u : ℕ} {c : C} → Geo W home u c → Dist W home u c → (u ≡ home → ⊥) → (k : ℕ) × (w : ℕ) × Nearer W home u k w
      go here D away = absurd (away refl)
      go (step {k = k} {w = w} {d = d} j E g) D away =
          let near = metric.dist_turned S (metric.geo_dist S g) in
          let adds = sums.sum_plus L d (toll W k) (omega (arith, cuts.dist_size S, bills.toll_small S)) in
          (k, w, record { joins = j; near = d; far = plus K (toll W k) d; to_w = near; to_v = D; adds = adds ∙ ap Some (sums.plus_comm L d (toll W k)) })

  pub step_exists : (v : ℕ) (c : C) → Dist W home v c → (v ≡ home → ⊥) → (k : ℕ) × (w : ℕ) × StepHome W home v k w
  unfolding Lowest
  step_exists v c D away =
      let x = nearer_exists v c D away in
      let l = lowest (λ k. (w : ℕ) × Nearer W home v k w) (nearer_any v) x.0 (x.1, x.2) in
      (l.0, l.1.0, record { away = away; nearer = l.1.1; lowest = λ j y z. l.2 j (y, z) })

  pub step_unique : {v k w j x : ℕ} → StepHome W home v k w → StepHome W home v j x → (k ≡ j) × (w ≡ x)
  step_unique {v} {k} {w} {j} {x} s t =
      let p = s.lowest j x t.nearer in
      let q = t.lowest k w s.nearer in
      let same : k ≡ j = omega arith in
      let e = s.nearer.joins.ends in
      let f = (rw (← same) at t.nearer).joins.ends in
      (same, omega arith)

  -- where each leg costs something, a step home comes nearer
  pub step_below : Dear W → {v k w : ℕ} (s : StepHome W home v k w) → K.Below s.nearer.near s.nearer.far
  step_below dear {k = k} s =
      let x = s.nearer in
      let fits = sums.sum_fits L x.near (toll W k) x.far x.adds in
      rw (sums.plus_is L x.near (toll W k) x.far x.adds) at (sums.plus_above L x.near (toll W k) fits (metric.dear_toll S dear x.joins))
