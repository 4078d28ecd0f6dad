-- After step 1 every mark hosted by what is drawn has its exact label.
use Rattle.std.proofs.Common.{◌≡◌, ℕ, ◌+◌, ◌≤◌, Bool, Some, Option, inl, inr, arith}
use Rattle.std.proofs.lemmas.Bool.{cases_Bool}
use Rattle.measure.specs.Kind.{Kind, AtMost, limit}
use Rattle.measure.proofs.Sums.{at_most_trans, at_most_antisym, below_or, zero_at_most, below_at_most, plus, size_plus, plus_assoc, plus_halves, plus_chain, zero_plus, plus_mono, below_cancel_left}
use Rattle.waterway.specs.Labels.{Within}
use Rattle.waterway.proofs.Written.{within_lower}
use Rattle.bundling.proofs.Graph.{Hosts}
use Rattle.bundling.proofs.Queue.{Held}
use Rattle.bundling.proofs.Nearby.{away, same_away, away_self, away_turn, triangle, pinned, Away}
use Rattle.bundling.proofs.Crossing.{Crossing, crossing, Inner, Outer, inner_or_outer}
use Rattle.bundling.proofs.Labels.{tight, exact_if}
use Rattle.bundling.proofs.Steps.{InBall, in_ball, Ready, Step1}
use Rattle.bundling.proofs.Draw.{Front, front, first_draw, front_key, exact_key}

module _ {C : Type 0} {K : Kind C} {dist : ℕ → ℕ → Option C} {Edge : ℕ → ℕ → C → Type 0} {pivot : ℕ → Bool} {host : ℕ → ℕ} {s : ℕ}
    (hosts : Hosts K dist Edge pivot host s) where
  open K use {zero, size, Below}
  open hosts use {ways}
  open ways use {lawful as L}

  infixl 65 ◌⊕◌
  infix 50 ◌≼◌
  abbrev ◌⊕◌ : C → C → C
  ◌⊕◌ = plus K

  abbrev ◌≼◌ : C → C → Type 0
  ◌≼◌ = AtMost K

  module _ {label : ℕ → Option C} {drawn : ℕ → Bool} (ready : Ready hosts label drawn) {u : ℕ} {k : C} (held : Held pivot label drawn u k)
      (least : (p : ℕ) (j : C) → Held pivot label drawn p j → k ≼ j) where
    -- Step 1 for v, hosted by u and e away from it. The first unsettled mark y on a cheapest way to v is a away from the source,
    -- v is r away from y, and the host of y is h away from y.
    module _ {label' : ℕ → Option C} (step1 : Step1 hosts label label' u k) {v y : ℕ} {e a r h : C} (mine : host v ≡ u)
        (to_v : Away ways s v (a ⊕ r)) (to_u : Away ways v u e) (to_y : Away ways s y a) (rest : Away ways y v r) (to_host : Away ways y (host y) h)
        (exact_y : label y ≡ Some a) (key : k ≼ a ⊕ h)
        (in_balls : (z : ℕ) (b : C) → InBall hosts y z → Away ways y z b → Within K (label z) (a ⊕ b)) where
      by_own : k ⊕ e ≼ a ⊕ r → Within K (label' v) (a ⊕ r)
      by_own l =
          let m = step1.own v e mine (away_turn ways to_u).is in
          record { value = m.value; is = m.is; upto = at_most_trans L m.upto l }

      -- Else v is nearer to y than by way of the two hosts.
      nearer : Below (a ⊕ r) (k ⊕ e) → Below r (h ⊕ e)
      nearer l =
          let q = exact_key hosts ready held least in
          let one : k ⊕ e ≼ a ⊕ h ⊕ e = plus_mono L k (a ⊕ h) e (omega arith) (omega (arith, size_plus L a h)) key in
          let two : Below (a ⊕ r) (a ⊕ (h ⊕ e)) = rw (plus_assoc L a h e (omega arith)) at (below_at_most L l one) in
          below_cancel_left L r (h ⊕ e) a (omega arith) (omega (arith, size_plus L h e)) two

      by_ball : Below r e → Within K (label' v) (a ⊕ r)
      by_ball l = step1.ball v y a r mine (in_ball hosts (away_turn ways rest) (rw mine to_u) l) exact_y to_y.is rest.is

      -- A leg on the way from y to v that leaves the ball of y: it ends in the ball of v.
      by_rim : Below r (h ⊕ e) → Crossing ways (Inner ways y h) (Outer ways y h) y v → Within K (label' v) (a ⊕ r)
      by_rim l c =
          let (b, to_z, inside) = c.before in
          let b_is : b ≡ c.a = same_away ways to_z c.to_x in
          let r_is : r ≡ c.a ⊕ c.c ⊕ c.r = same_away ways rest c.whole in
          let far : h ⊕ e ≼ c.a ⊕ c.c ⊕ e =
          plus_mono L h (c.a ⊕ c.c) e (omega arith) (omega arith) (c.after (c.a ⊕ c.c) c.to_y) in
          let near : Below c.r e =
          below_cancel_left L c.r e (c.a ⊕ c.c) (omega arith) (omega arith) (below_at_most L (rw r_is at l) far) in
          let fits : size a + size c.a + size c.c + size c.r ≤ limit = omega arith in
          let whole : Away ways s v (a ⊕ c.a ⊕ (c.c ⊕ c.r)) = rw (plus_halves L a c.a c.c c.r fits) (rw r_is at to_v) in
          let s_z = pinned ways (triangle ways to_y c.to_x) (omega (arith, size_plus L a c.a)) c.from_x whole in
          let exact_z = tight ways ready.above (in_balls c.x c.a (in_ball hosts c.to_x to_host (rw b_is at inside)) c.to_x) s_z in
          let m = step1.rim v c.x c.y (a ⊕ c.a) c.c c.r mine (in_ball hosts (away_turn ways c.rest) (rw mine to_u) near)
          c.leg exact_z s_z.is c.rest.is in
          rw r_is (rw (plus_chain L a c.a c.c c.r fits) at m)

      far_off : Below r (h ⊕ e) → e ≼ r → Within K (label' v) (a ⊕ r)
      far_off l n =
          elim (crossing ways (inner_or_outer ways y h) rest (zero, away_self ways y, positive)) [
            | inl i ↦ whole_in_ball i
            | inr c ↦ by_rim l c
          ]
        where
          positive : Below zero h
          positive =
              elim (below_or L zero h) [
                | inl p ↦ p
                | inr p ↦ absurd (n (rw (at_most_antisym L p (zero_at_most L h), zero_plus L e) at l))
              ]

          whole_in_ball : Inner ways y h v → Within K (label' v) (a ⊕ r)
          whole_in_ball (b, q, i) = within_lower ways.lawful step1.lower (in_balls v r (in_ball hosts rest to_host (rw (same_away ways q rest) at i)) rest)

      reached : Within K (label' v) (a ⊕ r)
      reached =
          elim (below_or L (a ⊕ r) (k ⊕ e)) [
            | inl l ↦ elim (below_or L r e) [ inl n ↦ by_ball n | inr n ↦ far_off (nearer l) n ]
            | inr l ↦ by_own l
          ]

    -- After step 1 every mark hosted by u has its exact label.
    pub exact_bundle : {label' : ℕ → Option C} → Step1 hosts label label' u k → (v : ℕ) → host v ≡ u → label' v ≡ dist s v
    exact_bundle {label'} step1 v mine = exact_if ways step1.above v reach
      where
        by_front : {d : C} → Away ways s v d → Front hosts ready v → Within K (label' v) d
        by_front {d} q f =
            let c = f.cross in
            let n = hosts.near v s d hosts.source (away_turn ways q).is in
            let m = reached step1 mine c.whole (rw mine at (away ways n.is)) c.to_y c.rest f.to_host f.exact (front_key hosts ready held least f)
            (λ z b i n. ready.balls c.x c.y z c.a c.c b c.before c.to_x.is c.leg i n.is) in
            rw (same_away ways c.whole q) at m

        at_first : {d : C} → Away ways s v d → (u ≡ s) × (k ≡ zero) → Within K (label' v) d
        at_first {d} q (us, kz) = rw (kz, zero_plus L d) at (step1.own v d mine (rw us q.is))

        reach : (d : C) → Away ways s v d → Within K (label' v) d
        reach d q =
            elim (cases_Bool (drawn s)) [
              | inl b ↦ by_front q (front hosts ready b q (rw mine held.undrawn))
              | inr b ↦ at_first q (first_draw hosts ready held least b)
            ]
