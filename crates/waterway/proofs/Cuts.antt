-- A walk can be cut to a way that costs no more, so no walk costs less than the distance.
use Rattle.std.proofs.Common.{◌≡◌, ℕ, ◌^◌, ◌≤◌, ◌⊎◌, List, [], ◌∷◌, length, Some, None, Option, refl, ap, ◌∙◌, inl, inr, arith}
use native.Mathlib.Decide.{ℕ_discrete}
use Rattle.measure.specs.Kind.{Kind, AtMost, onto}
use Rattle.measure.proofs.Sums as sums
use Rattle.measure.proofs.Sums.{plus}
use Rattle.waterway.specs.Ways.{Walk, stay, along, Off, Simple, Way, Water, toll, cost, Dist, Apart, Tells, Sound}
use Rattle.waterway.proofs.Bills as bills
use Rattle.waterway.proofs.Bills.{bill}

-- some way from u to v costs at most d
pub record Cut {C : Type 0} {K : Kind C} (W : Water K) (u v : ℕ) (d : C) : Type 0 where
  pub js : List ℕ
  pub ns : List ℕ
  pub way : Way W.legs u v js ns
  pub fair : AtMost K (bill W js) d

module _ {C : Type 0} {K : Kind C} {W : Water K} {n : ℕ} (S : Sound W n) where
  open K use {size}
  open S use {lawful as L}

  cut_weaker : {u v : ℕ} {c d : C} → Cut W u v c → AtMost K c d → Cut W u v d
  cut_weaker t h = record { js = t.js; ns = t.ns; way = t.way; fair = sums.at_most_trans L t.fair h }

  cut_way : {u v : ℕ} {ks ms : List ℕ} → Way W.legs u v ks ms → Cut W u v (bill W ks)
  cut_way {ks = ks} {ms = ms} w = record { js = ks; ns = ms; way = w; fair = sums.at_most_refl L (bill W ks) }

  -- a way either misses the mark m, or leads on from it
  way_from : (m : ℕ) {u v : ℕ} {ks ms : List ℕ} → Walk W.legs u v ks ms → Simple ms → length ks ≤ 4096 → Off m ms ⊎ Cut W m v (bill W ks)
  way_from m (stay {v = v}) s h = elim (ℕ_discrete m v) [
    | yes e ↦ inr (rw e (cut_way (record { walk = stay; simple = s })))
    | no e ↦ inl (e, tt)
  ]
  way_from m (along {k = k} {u = u} {v = v} {ks = ks} j p) s h =
      let rest = bills.size_bill S ks (omega arith) in
      elim (ℕ_discrete m u) [
        | yes e ↦ inr (rw e (cut_way (record { walk = along j p; simple = s })))
        | no e ↦ elim (way_from m p s.1 (omega arith)) [
          | inl o ↦ inl (e, o)
          | inr t ↦ inr (cut_weaker t (sums.plus_more_left L (toll W k) (bill W ks) (omega (arith, bills.toll_small S))))
        ]
      ]

  pub cut : {u v : ℕ} {ks ms : List ℕ} → Walk W.legs u v ks ms → (d : C) → cost W ks ≡ Some d → Cut W u v d
  cut stay d e = record { js = []; ns = _; way = record { walk = stay; simple = (tt, tt) }; fair = sums.at_most_eq L (sums.some_injective refl e) }
  cut (along {k = k} {u = u} {w = w} {v = v} {ks = ks} j p) d e = go (cost W ks) (cut p) e
    where
      -- the rest is cut first; then the leg k is put before it, or the way that leads on from u is taken
      go : (o : Option C) → ((d : C) → o ≡ Some d → Cut W w v d) → onto K (toll W k) o ≡ Some d → Cut W u v d
      go None rest f = sums.some_none f refl
      go (Some c) rest f =
          let t = rest c refl in
          let more = plus K (toll W k) (bill W t.js) in
          let longer : AtMost K more d =
          rw (sums.plus_is L (toll W k) c d f) at (sums.plus_mono_left L (bill W t.js) c (toll W k)
          (omega (arith, bills.way_size S, bills.toll_small S)) (omega (arith, sums.sum_fits L (toll W k) c d f)) t.fair) in
          elim (way_from u t.way.walk t.way.simple (omega (arith, bills.way_short S))) [
            | inl o ↦ record { js = k ∷ t.js; ns = u ∷ t.ns; way = record { walk = along j t.way.walk; simple = (o, t.way.simple) }; fair = longer }
            | inr s ↦ cut_weaker s (sums.at_most_trans L
                (sums.plus_more_left L (toll W k) (bill W t.js) (omega (arith, bills.way_size S, bills.toll_small S))) longer)
          ]

  -- Distances

  pub dist_cost : {u v : ℕ} {c : C} → (D : Dist W u v c) → bill W D.ks ≡ c
  dist_cost D = sums.some_injective (bills.way_cost S D.way) D.costs

  pub dist_size : (u v : ℕ) (c : C) → Dist W u v c → size c ≤ 2 ^ 44
  dist_size u v c D = let e = ap size (dist_cost D) in omega (arith, bills.way_size S)

  pub dist_unique : {u v : ℕ} {c d : C} → Dist W u v c → Dist W u v d → c ≡ d
  dist_unique {c = c} {d = d} D E = sums.at_most_antisym L (D.least _ _ d E.way E.costs) (E.least _ _ c D.way D.costs)

  -- an answer tells the distance if what it says is right
  pub tells_from : {u v : ℕ} {o : Option C} → ((c : C) → o ≡ Some c → Dist W u v c) → (o ≡ None → Apart W u v) → Tells W u v o
  tells_from {u} {v} {o} found none = record { some = λ c. (found c, is o refl); none = (none, gone o refl) }
    where
      is : {c : C} (p : Option C) → o ≡ p → Dist W u v c → o ≡ Some c
      is None e D = absurd (none e D.ks D.ms D.way)
      is (Some d) e D = e ∙ ap Some (dist_unique (found d e) D)

      gone : (p : Option C) → o ≡ p → Apart W u v → o ≡ None
      gone None e a = e
      gone (Some d) e a = let D = found d e in absurd (a D.ks D.ms D.way)

  -- no walk costs less than the distance
  pub dist_walk : {u v : ℕ} {c : C} → Dist W u v c → {ks ms : List ℕ} → Walk W.legs u v ks ms → length ks ≤ 4096 → AtMost K c (bill W ks)
  dist_walk D {ks = ks} p h =
      let t = cut p (bill W ks) (bills.cost_bill S ks h) in
      sums.at_most_trans L (D.least t.js t.ns _ t.way (bills.way_cost S t.way)) t.fair

  -- a walk that costs no more than any way gives the distance
  pub walk_is_dist : {u v : ℕ} {ks ms : List ℕ} {c : C} → Walk W.legs u v ks ms → length ks ≤ 4096 → bill W ks ≡ c
      → ((js ns : List ℕ) → Way W.legs u v js ns → AtMost K c (bill W js)) → Dist W u v c
  walk_is_dist {ks = ks} {c = c} p few e low =
      let t = cut p c (bills.cost_bill S ks few ∙ ap Some e) in
      let same : bill W t.js ≡ c = sums.at_most_antisym L t.fair (low t.js t.ns t.way) in
      record {
        ks = t.js;
        ms = t.ns;
        way = t.way;
        costs = bills.way_cost S t.way ∙ ap Some same;
        least = λ js ns d x g. rw (sums.some_injective (bills.way_cost S x) g) at (low js ns x);
      }
