-- The hosts and the balls of a waterway are such as the search asks for.
use Rattle.std.proofs.Common.{◌≡◌, ℕ, ◌≤◌, Bool, true, false, T, List, sym, refl, ◌∙◌, arith}
use native.Mathlib.Decide.{dec_lt}
use Rattle.std.proofs.lemmas.Float.{T_from_true}
use Rattle.measure.specs.Kind.{Kind}
use Rattle.measure.proofs.Sums as sums
use Rattle.waterway.specs.Ways.{Walk, stay, along, Water, Dist, Sound, Dear}
use Rattle.waterway.specs.Hosts.{Host, InBall}
use Rattle.waterway.proofs.Bills as bills
use Rattle.waterway.proofs.Metric as metric
use Rattle.waterway.proofs.Distance.{dist, dist_found, dist_is}
use Rattle.waterway.proofs.Hosts as hosts
use Rattle.bundling.proofs.Graph.{Hosted, Hosts, Ball}
use Rattle.bundling.proofs.Water.{Edge, ways}

-- a Boolean that holds is true
pub is_true : (b : Bool) → T b → b ≡ true
is_true true t = refl
is_true false t = absurd t

-- host gives each mark that has a host that host, and each pivot beyond the marks itself
pub record Placed {C : Type 0} {K : Kind C} (W : Water K) (n : ℕ) (pivot : ℕ → Bool) (host : ℕ → ℕ) : Type 0 where
  pub inside : (v u : ℕ) (c : C) → Host W n pivot v u c → host v ≡ u
  pub outside : (p : ℕ) → T (pivot p) → n ≤ p → host p ≡ p

module _ {C : Type 0} {K : Kind C} {W : Water K} {n : ℕ} (S : Sound W n) (pivot : ℕ → Bool) where
  open S use {lawful as L}

  -- from beyond the marks no leg leads on
  beyond : {u v : ℕ} {ks ms : List ℕ} → Walk W.legs u v ks ms → n ≤ u → u ≡ v
  beyond stay out = refl
  beyond (along j p) out = absurd (omega (arith, bills.joins_in S j))

  module _ {host : ℕ → ℕ} (placed : Placed W n pivot host) where
    -- where each leg costs something, with any set of pivots that holds home
    module _ (dear : Dear W) (home : ℕ) (home_pivot : T (pivot home)) where
      near_host : (v p : ℕ) (d : C) → T (pivot p) → Dist W v p d → Hosted K (dist S) pivot host v d
      near_host v p d is D = elim (dec_lt p n) [
        | yes p_in ↦ (let H = hosts.host_exists S pivot v p p_in is D in
            let e = placed.inside v H.0 H.1 H.2 in
            record {
              cost = H.1;
              pivotal = rw e (is_true _ H.2.is_pivot);
              is = rw e (dist_is S H.2.dist);
              upto = hosts.host_most S pivot H.2 p_in is D;
            })
        | no p_out ↦ (let same : p ≡ v = beyond (metric.dist_turned S D).way.walk (omega arith) in
            let e : host v ≡ v = rw same at (placed.outside p is (omega arith)) in
            record {
              cost = K.zero;
              pivotal = rw (e, ← same) (is_true _ is);
              is = rw e (dist_is S (metric.dist_self S v));
              upto = sums.zero_at_most L d;
            })
      ]

      own_host : (p : ℕ) → T (pivot p) → host p ≡ p
      own_host p is = elim (dec_lt p n) [
        | no p_out ↦ placed.outside p is (omega arith)
        | yes p_in ↦ (let self = metric.dist_self S p in
            let H = hosts.host_exists S pivot p p p_in is self in
            placed.inside p H.0 H.1 H.2
            ∙ sym (metric.dear_apart S dear (metric.dist_geo S H.2.dist) (hosts.host_most S pivot H.2 p_in is self)))
      ]

      pub bundles : Hosts K (dist S) (Edge W) pivot host home
      bundles = record {
        ways = ways S;
        source = is_true _ home_pivot;
        own = λ p b. own_host p (T_from_true _ b);
        near = λ v p d b e. near_host v p d (T_from_true _ b) (dist_found S e);
      }

    -- the balls of the search are those of the waterway, at each mark that has a host
    pub in_ball : {v w u : ℕ} {c : C} → Host W n pivot v u c → (B : Ball K (dist S) pivot host v w) → InBall W n pivot v w B.cost
    in_ball {v} {u = u} {c = c} H B = record {
      no_pivot = B.outer;
      dist = dist_found S B.is;
      host = u;
      far = B.rim;
      is_host = rw (sums.some_injective (dist_is S H.dist) (rw (placed.inside v u c H) at B.rim_is)) at H;
      nearer = B.inside;
    }
