-- The theory in one place.
use Rattle.std.proofs.Common.{ℕ, Bool, ◌⊎◌, Some, ap, ◌∙◌, inl, inr, arith}
use Rattle.measure.specs.Kind.{Kind}
use Rattle.measure.proofs.Sums as sums
use Rattle.waterway.specs.Ways.{Water, Dist, Sound, Dear}
use Rattle.waterway.specs.Theory.{Distances, HostsAndBalls, Routes}
use Rattle.waterway.proofs.Bills as bills
use Rattle.waterway.proofs.Cuts as cuts
use Rattle.waterway.proofs.Rounds.{apart_or_dist}
use Rattle.waterway.proofs.Metric as metric
use Rattle.waterway.proofs.Between.{dist_between}
use Rattle.waterway.proofs.Steps.{nearer_exists}
use Rattle.waterway.proofs.Counted.{counts_exist}
use Rattle.waterway.proofs.Hosts as hosts
use Rattle.waterway.proofs.Balls as balls
use Rattle.waterway.proofs.Near as near
use Rattle.waterway.proofs.Routes as routes

module _ {C : Type 0} {K : Kind C} {W : Water K} {n : ℕ} (S : Sound W n) where
  open S use {lawful as L}

  reached_or : (u v : ℕ) → ((c : C) × Dist W u v c) ⊎ (((c : C) × Dist W u v c) → ⊥)
  reached_or u v = elim (apart_or_dist S v u) [ inl a ↦ inr (λ D. a D.1.ks D.1.ms D.1.way) | inr D ↦ inl D ]

  pub distances : Distances W n
  distances = record {
    few = λ u v ks ms w. bills.way_fewer S w;
    given = λ u v ks ms w. (bills.bill W ks, bills.way_cost S w);
    cut = λ u v ks ms c p e. let t = cuts.cut S p c e in (t.js, t.ns, bills.bill W t.js, t.way, bills.way_cost S t.way, t.fair);
    exists = λ u v. apart_or_dist S v u;
    unique = λ u v c d. cuts.dist_unique S;
    self = metric.dist_self S;
    turned = λ u v c. metric.dist_turned S;
    triangle = λ u v w a b A B. let D = metric.triangle_dist S A B in
        (D.0, sums.plus K a b, D.1, sums.sum_plus L a b (omega (arith, cuts.dist_size S)), metric.triangle S A B D.1);
    nearer = nearer_exists S;
    parts = λ u v x c D h. let B = dist_between S x D h in
        (B.first, B.second, B.to, B.on, sums.sum_plus L B.first B.second (omega (arith, cuts.dist_size S)) ∙ ap Some B.adds);
    counted = λ u. counts_exist (λ v. (c : C) × Dist W u v c) (reached_or u) n;
  }

  pub hosts_and_balls : Dear W → (pivot : ℕ → Bool) → HostsAndBalls W n pivot
  hosts_and_balls dear pivot = record {
    exists = hosts.host_or_none S pivot;
    unique = λ v u p c d. hosts.host_unique S pivot;
    own = λ v. hosts.host_own S pivot dear;
    bundled = λ v u p b d. (hosts.host_unique S pivot b.1 d.1).0;
    centre = λ v u c. balls.ball_centre S pivot dear;
    empty = λ v w. balls.ball_empty S pivot;
    listed = near.ball_rows_exist S pivot;
    one_list = λ v rows others. near.ball_rows_unique S pivot;
  }

  pub routes_home : Dear W → (home : ℕ) → Routes W home
  routes_home dear home = record {
    exists = λ v c. routes.route_exists S home dear;
    unique = λ v ks js. routes.route_unique S home;
    way = λ v ks. routes.route_way S home dear;
    least = λ v ks r. let l = routes.route_led S home dear r in (l.c, l.dist, l.costs);
  }
