-- Balls: whether a mark is in one is decided, and so its marks are listed in one way.
use Rattle.std.proofs.Common.{◌≡◌, ℕ, ◌<◌, Bool, true, false, ◌⊎◌, List, sym, refl, inl, inr, arith}
use Rattle.measure.specs.Kind.{Kind}
use Rattle.measure.proofs.Sums as sums
use Rattle.waterway.specs.Ways.{Water, Dist, Sound, Dear}
use Rattle.waterway.specs.Hosts.{Host, Hostless, InBall, Ball}
use Rattle.waterway.specs.Counts.{Lists}
use Rattle.waterway.proofs.Bills.{walk_ends}
use Rattle.waterway.proofs.Cuts.{dist_unique}
use Rattle.waterway.proofs.Rounds.{apart_or_dist}
use Rattle.waterway.proofs.Metric as metric
use Rattle.waterway.proofs.Hosts as hosts
use Rattle.waterway.proofs.Counted.{lists_exist}

module _ {C : Type 0} {K : Kind C} {W : Water K} {n : ℕ} (S : Sound W n) (pivot : ℕ → Bool) where
  open S use {lawful as L}

  pub in_ball_unique : {v w : ℕ} {d e : C} → InBall W n pivot v w d → InBall W n pivot v w e → d ≡ e
  in_ball_unique B E = dist_unique S B.dist E.dist

  -- a mark without a host has an empty ball
  pub ball_empty : {v w : ℕ} → Hostless W n pivot v → Ball W n pivot v w → ⊥
  ball_empty none b = let H = b.1.is_host in none b.1.host H.inside H.is_pivot H.dist.ks H.dist.ms H.dist.way

  pub ball_or : (v w : ℕ) → Ball W n pivot v w ⊎ (Ball W n pivot v w → ⊥)
  ball_or v w = at (pivot v) refl
    where
      Inside : Type 0
      Inside = Ball W n pivot v w ⊎ (Ball W n pivot v w → ⊥)

      near : pivot v ≡ false → (u : ℕ) (c : C) → Host W n pivot v u c → (d : C) → Dist W v w d → Inside
      near e u c H d D = elim (sums.below_or L d c) [
        | inl l ↦ inl (d, record { no_pivot = e; dist = D; host = u; far = c; is_host = H; nearer = l })
        | inr l ↦ inr (λ b. l (rw ((hosts.host_unique S pivot b.1.is_host H).1, dist_unique S b.1.dist D) at b.1.nearer))
      ]

      at : (b : Bool) → pivot v ≡ b → Inside
      at true e = inr (λ b. let q = b.1.no_pivot in let z : ◌≡◌ {A = ℕ} 0 1 = cc in omega arith)
      at false e = elim (hosts.host_or_none S pivot v) [
        | inl h ↦ inr (ball_empty h)
        | inr H ↦ elim (apart_or_dist S w v) [
          | inl a ↦ inr (λ b. a b.1.dist.ks b.1.dist.ms b.1.dist.way)
          | inr D ↦ near e H.0 H.1 H.2 D.0 D.1
        ]
      ]

  -- the members of a mark's ball are marks
  pub ball_marks : {v w : ℕ} → Ball W n pivot v w → v < n → w < n
  ball_marks B = walk_ends S B.1.dist.way.walk

  -- (one list at most: Counted's lists-unique)
  pub ball_list : (v : ℕ) → (ws : List ℕ) × Lists (Ball W n pivot v) n ws
  ball_list v = lists_exist (Ball W n pivot v) (ball_or v) n

  -- where each leg costs something, the ball of a mark that has a host holds the mark itself
  pub ball_centre : Dear W → {v u : ℕ} {c : C} → pivot v ≡ false → Host W n pivot v u c → InBall W n pivot v v K.zero
  ball_centre dear {v} {u} {c} e H = record { no_pivot = e; dist = metric.dist_self S v; host = u; far = c; is_host = H; nearer = go (L.total K.zero c) }
    where
      go : (K.Below K.zero c) ⊎ ((K.zero ≡ c) ⊎ (K.Below c K.zero)) → K.Below K.zero c
      go (inl l) = l
      go (inr (inl z)) =
          let same = metric.dear_apart S dear (metric.dist_geo S H.dist) (sums.at_most_eq L (sym z)) in
          absurd (rw (← same, e) at H.is_pivot)
      go (inr (inr l)) = absurd (L.least c l)
