-- Step 2: a settled mark offers its label on.
use Rattle.std.proofs.Common.{◌≡◌, ℕ, ◌+◌, List, length, Some, Option, ◌∙◌, inl, inr, arith}
use native.Mathlib.Decide.{dec_lt}
use Rattle.measure.specs.Kind.{Kind, Lawful}
use Rattle.measure.proofs.Sums.{some_injective, at_most_trans}
use Rattle.queue.specs.Held.{Held}
use Rattle.waterway.specs.declared.Leg.{Leg}
use Rattle.waterway.specs.Legs.{Ends, FarEnd, leg_at}
use Rattle.waterway.specs.Ways.{Water, Joins, Sound}
use Rattle.waterway.specs.Hosts.{InBall}
use Rattle.waterway.proofs.Bills.{toll_is}
use Rattle.waterway.proofs.Cuts.{dist_unique}
use Rattle.waterway.specs.declared.Label.{Label}
use Rattle.bundling.specs.declared.Host.{Host}
use Rattle.bundling.specs.declared.Near.{Near}
use Rattle.waterway.specs.Labels.{Within, label_of}
use Rattle.bundling.specs.Marks.{pivot_in}
use Rattle.relaxing.specs.Offers.{Tried, Relaxed, then_sum}
use Rattle.relaxing.specs.Search.{Housed, Balled, Ran, IsLeg, Mine, Spread, SpreadLeg, SpreadLegs, StepTwo, near_at, ball_in}
use Rattle.waterway.proofs.Written.{within_lower}
use Rattle.relaxing.proofs.Runs.{steady_trans, kept_trans, ran_trans, within_ran, still, reach_on, tried_ran, comes_reach, relaxed_tried}
use Rattle.relaxing.proofs.Legs.{then_is, leg_reach}

pub ends_turned : (leg : Leg) {u v : ℕ} → Ends leg u v → Ends leg v u
ends_turned leg (inl e) = inr e
ends_turned leg (inr e) = inl e

module _ {C : Type 0} {K : Kind C} (L : Lawful K) {hosts : List (Host C)} {ball : List (Near C)} where
  pub spread_more : {a b c : List (Label C)} {i j m : Held C} {k : ℕ} {q : C} → Spread K hosts ball a i b j k q
      → Tried K hosts b j c m (near_at K ball k).mark (K.sum q (near_at K ball k).cost) → Spread K hosts ball a i c m (k + 1) q
  spread_more {k = k} {q = q} done now = record {
    matched = now.matched;
    keeps = kept_trans L done.keeps now.keeps;
    steady = steady_trans done.steady now.steady;
    within = λ x r hi g. elim (dec_lt x k) [
      | yes less ↦ within_lower L now.keeps.lower (done.within x r less g)
      | no more ↦ (let same : x ≡ k = omega arith in rw same (now.within r (rw same at g)))
    ];
    change = λ v d e. elim (now.change v d e) [
      | inl f ↦ elim (done.change v d f) [
        | inl h ↦ inl h
        | inr h ↦ inr (h.0, h.1, omega (arith, h.2), h.3, h.4)
      ]
      | inr f ↦ inr (k, f.0, omega arith, f.1, f.2)
    ];
  }

module _ {C : Type 0} {K : Kind C} {W : Water K} {n : ℕ} (S : Sound W n) {hosts : List (Host C)} {near : List (Near C)} (housed : Housed W n hosts) (balled : Balled W n hosts near) where
  open S use {lawful as L}

  spread_ran : {b c : List (Label C)} {j m : Held C} (y : ℕ) {q : C} → Within K (label_of K b y) q
      → Spread K hosts (ball_in K hosts near y) b j c m (length (ball_in K hosts near y)) q → Ran W hosts b j c m
  spread_ran y w x = record {
    matched = x.matched;
    keeps = x.keeps;
    steady = x.steady;
    sure = λ s sure v d e. elim (x.change v d e) [
      | inl f ↦ sure v d f
      | inr f ↦ (let r = sure y w.value w.is in
          comes_reach S housed
          (reach_on S (record { dist = r.dist; is = r.is; upto = at_most_trans L r.upto w.upto }) (balled.only y f.0 f.2).dist f.3) f.4)
    ];
  }

  module _ {a b c : List (Label C)} {i j m : Held C} {leg : Leg} {x y : ℕ} {q t : C} {o l : Option C} (leg_is : IsLeg W leg)
      (far : FarEnd leg x (Some y)) (o_is : o ≡ then_sum K l t) (l_is : l ≡ label_of K a x) (t_is : t ≡ W.price leg) (is : o ≡ Some q) (first : Relaxed K hosts a i b j y q)
      (rows : Spread K hosts (ball_in K hosts near y) b j c m (length (ball_in K hosts near y)) q) where
    pub first_ran : Ran W hosts a i b j
    first_ran = tried_ran S housed (relaxed_tried L is first) (λ s r sure e. leg_reach S a leg_is far.0 (ends_turned leg far.1.0) o_is l_is t_is sure e)

    next_ran : Ran W hosts b j c m
    next_ran = spread_ran y first.within rows

    pub spread_leg_ran : Ran W hosts a i c m
    spread_leg_ran = ran_trans L first_ran next_ran

    same_cost : (d p : C) → label_of K a x ≡ Some d → K.sum d (W.price leg) ≡ Some p → p ≡ q
    same_cost d p e g = some_injective (o_is ∙ then_is K (l_is ∙ e) (rw t_is g)) is

    same_end : (z : ℕ) → Ends leg x z → z ≡ y
    same_end z ends = far.1.1 z (ends_turned leg ends)

    pub spread_leg : SpreadLeg W n hosts a c leg x
    spread_leg = record {
      end = λ z d p free ends e g. rw (same_end z ends, same_cost d p e g) (within_ran L y next_ran first.within);
      ball = λ z w d p f r free ends e g B h.
          let B' : InBall W n (pivot_in K hosts) y w f = rw (same_end z ends) at B in
          let row = balled.every y w f B' in
          let D = (balled.only y row.0 row.1).dist in
          let cost_is : (near_at K (ball_in K hosts near y) row.0).cost ≡ f = dist_unique S (rw row.2 at D) B'.dist in
          let g' : K.sum q (near_at K (ball_in K hosts near y) row.0).cost ≡ Some r = rw (cost_is, ← same_cost d p e g) h in
          rw row.2 at (rows.within row.0 r row.1 g');
    }

module _ {C : Type 0} {K : Kind C} {W : Water K} {n : ℕ} (S : Sound W n) {hosts : List (Host C)} {a b c : List (Label C)} {i j m : Held C}
    (p : Ran W hosts a i b j) (q : Ran W hosts b j c m) where
  open S use {lawful as L}

  pub spread_legs_more : {k x : ℕ} → SpreadLegs W n hosts a b k x → SpreadLeg W n hosts b c (leg_at W.legs k) x → SpreadLegs W n hosts a c (k + 1) x
  spread_legs_more {k} {x} done now = record {
    leg = λ s sure k' y l r lt J e D g. elim (dec_lt k' k) [
      | yes less ↦ within_ran L y q (done.leg s sure k' y l r less J e D g)
      | no more ↦ (let same : k' ≡ k = omega arith in
          let J' : Joins W.legs k x y = rw same at J in
          now.end y l r J'.free J'.ends (still S p sure e D) (rw (toll_is W k J'.stands) at (rw same at g)))
    ];
    ball = λ s sure k' y w l r f t lt J e D g B h. elim (dec_lt k' k) [
      | yes less ↦ within_ran L w q (done.ball s sure k' y w l r f t less J e D g B h)
      | no more ↦ (let same : k' ≡ k = omega arith in
          let J' : Joins W.legs k x y = rw same at J in
          now.ball y w l r f t J'.free J'.ends (still S p sure e D) (rw (toll_is W k J'.stands) at (rw same at g)) B h)
    ];
  }

  pub step_two_more : {u k : ℕ} → StepTwo W n hosts a b u k → (Mine K hosts u k → SpreadLegs W n hosts b c (length W.legs) k) → StepTwo W n hosts a c u (k + 1)
  step_two_more {u} {k} done now = record {
    each = λ x hi mine. elim (dec_lt x k) [
      | yes less ↦ (let f = done.each x less mine in record {
        leg = λ s sure k' y l r lt J e D g. within_ran L y q (f.leg s sure k' y l r lt J e D g);
        ball = λ s sure k' y w l r f' t lt J e D g B h. within_ran L w q (f.ball s sure k' y w l r f' t lt J e D g B h);
      })
      | no more ↦ (let same : x ≡ k = omega arith in let f = now (rw same at mine) in rw same (record {
        leg = λ s sure k' y l r lt J e D g. f.leg s (p.sure s sure) k' y l r lt J (still S p sure e D) D g;
        ball = λ s sure k' y w l r f' t lt J e D g B h. f.ball s (p.sure s sure) k' y w l r f' t lt J (still S p sure e D) D g B h;
      }))
    ];
  }
