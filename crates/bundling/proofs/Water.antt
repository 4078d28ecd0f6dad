-- A waterway is such a graph: its distances and its open legs.
use Rattle.std.proofs.Common.{◌≡◌, ℕ, Some, sym, refl, ◌∙◌, inl, inr, arith}
use Rattle.measure.specs.Kind.{Kind, AtMost}
use Rattle.measure.proofs.Sums as sums
use Rattle.waterway.specs.Ways.{Joins, Water, toll, Dist, Sound}
use Rattle.waterway.proofs.Walks.{joins_turned}
use Rattle.waterway.proofs.Bills as bills
use Rattle.waterway.proofs.Cuts as cuts
use Rattle.waterway.proofs.Rounds.{apart_or_dist}
use Rattle.waterway.proofs.Metric as metric
use Rattle.waterway.proofs.Distance.{dist, dist_found, dist_is, apart_is}
use Rattle.waterway.specs.Labels.{Within}
use Rattle.bundling.proofs.Graph.{Geo, here, step, Ways}

-- an open leg from u to v at the price c
pub record Edge {C : Type 0} {K : Kind C} (W : Water K) (u v : ℕ) (c : C) : Type 0 where
  pub leg : ℕ
  pub joins : Joins W.legs leg u v
  pub costs : toll W leg ≡ c

module _ {C : Type 0} {K : Kind C} {W : Water K} {n : ℕ} (S : Sound W n) where
  open S use {lawful as L}

  within : {u v : ℕ} {c r : C} → Dist W u v c → AtMost K c r → Within K (dist S u v) r
  within {c = c} D h = record { value = c; is = dist_is S D; upto = h }

  same_turned : (u v : ℕ) → dist S u v ≡ dist S v u
  same_turned u v = elim (apart_or_dist S v u) [
    | inl a ↦ apart_is S a ∙ sym (apart_is S (metric.apart_turned S a))
    | inr D ↦ dist_is S D.1 ∙ sym (dist_is S (metric.dist_turned S D.1))
  ]

  -- each leg of a least way is a step of it
  leads : {v u : ℕ} {c : C} → metric.Geo W v u c → Geo K (dist S) (Edge W) v u
  leads metric.here = here
  leads (metric.step {k = k} {d = d} j D g) =
      let E = metric.geo_dist S g in
      step (record { leg = k; joins = j; costs = refl }) (dist_is S E) (dist_is S D)
      (sums.sum_plus L (toll W k) d (omega (arith, bills.toll_small S, cuts.dist_size S))) (leads g)

  over : (u v w : ℕ) (d e r : C) → Dist W u v d → Dist W v w e → K.sum d e ≡ Some r → Within K (dist S u w) r
  over u v w d e r D E g =
      let F = metric.triangle_dist S D E in
      within F.1 (rw (sums.plus_is L d e r g) at (metric.triangle S D E F.1))

  leg_over : (u v w : ℕ) (d c r : C) → Dist W u v d → Edge W v w c → K.sum d c ≡ Some r → Within K (dist S u w) r
  leg_over u v w d c r D l g =
      let j = joins_turned l.joins in
      let E = metric.dist_turned S D in
      let F = metric.leg_dist S j E in
      within (metric.dist_turned S F.1)
      (rw (l.costs, sums.plus_comm L c d, sums.plus_is L d c r g) at (metric.leg_most S j E F.1))

  pub ways : Ways K (dist S) (Edge W)
  ways = record {
    lawful = L;
    short = λ u v d e. cuts.dist_size S u v d (dist_found S e);
    short_leg = λ u v c l. rw l.costs at (bills.toll_small S l.leg);
    self = λ u. dist_is S (metric.dist_self S u);
    turn = same_turned;
    triangle = λ u v w d e r p q. over u v w d e r (dist_found S p) (dist_found S q);
    triangle_leg = λ u v w d c r p. leg_over u v w d c r (dist_found S p);
    walk = λ u v d e. leads (metric.dist_geo S (dist_found S e));
  }
