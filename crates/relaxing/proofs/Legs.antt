-- Offers over legs.
use Rattle.std.proofs.Common.{◌≡◌, ℕ, ◌+◌, T, List, Some, None, Option, sym, refl, ap, ◌∙◌, arith}
use native.Mathlib.Decide.{dec_lt}
use Rattle.measure.specs.Kind.{Kind}
use Rattle.measure.proofs.Sums.{some_none}
use Rattle.queue.specs.Held.{Held}
use Rattle.waterway.specs.declared.Leg.{Leg}
use Rattle.waterway.specs.Legs.{Ends, leg_at}
use Rattle.waterway.specs.Ways.{Water, Dist, Joins, toll, Sound}
use Rattle.waterway.proofs.Bills.{toll_is}
use Rattle.waterway.specs.declared.Label.{Label}
use Rattle.bundling.specs.declared.Host.{Host}
use Rattle.bundling.specs.declared.Near.{Near}
use Rattle.waterway.specs.Labels.{Within, label_of}
use Rattle.relaxing.specs.Offers.{Tried, then_sum}
use Rattle.relaxing.specs.Search.{Reach, Sure, Housed, Ran, IsLeg, OverLeg, OverLegs, FromNear, FromHost, FromBall, Gathered, StepOne, Mine, near_at}
use Rattle.relaxing.proofs.Runs.{reach_on, reach_leg, tried_ran, within_ran, still}

-- a leg of the waterway, as it is read
module _ {C : Type 0} {K : Kind C} (W : Water K) {leg : Leg} (is : IsLeg W leg) where
  pub leg_joins : {u v : ℕ} → T leg.«open» → Ends leg u v → Joins W.legs is.0 u v
  leg_joins free ends = record { stands = is.1; free = rw is.2 free; ends = rw is.2 ends }

  pub leg_toll : toll W is.0 ≡ W.price leg
  leg_toll = toll_is W is.0 is.1 ∙ ap W.price is.2

module _ {C : Type 0} (K : Kind C) where
  pub then_given : (o : Option C) (b r : C) → then_sum K o b ≡ Some r → (a : C) × ((o ≡ Some a) × (K.sum a b ≡ Some r))
  then_given None b r e = some_none e refl
  then_given (Some a) b r e = (a, (refl, e))

  pub then_is : {o : Option C} {a b r : C} → o ≡ Some a → K.sum a b ≡ Some r → then_sum K o b ≡ Some r
  then_is {b = b} e f = ap (λ o. then_sum K o b) e ∙ f

-- from a mark whose label is right, a leg leads on
pub leg_reach : {C : Type 0} {K : Kind C} {W : Water K} {n : ℕ} (S : Sound W n) (a : List (Label C)) {leg : Leg} {z into : ℕ} {f l : Option C} {t : C} (is : IsLeg W leg)
    → T leg.«open» → Ends leg z into → f ≡ then_sum K l t → l ≡ label_of K a z → t ≡ W.price leg → {s : ℕ} → Sure W s a → {q : C} → f ≡ Some q → Reach W s into q
leg_reach {K = K} {W = W} S a {z = z} {l = l} is free ends f_is l_is t_is sure {q} e =
    let p = then_given K l (toll W is.0) q (sym (f_is ∙ ap (then_sum K l) (t_is ∙ sym (leg_toll W is))) ∙ e) in
    reach_leg S (sure z p.0 (sym l_is ∙ p.1.0)) (leg_joins W is free ends) p.1.1

module _ {C : Type 0} {K : Kind C} {W : Water K} {n : ℕ} (S : Sound W n) {hosts : List (Host C)} (housed : Housed W n hosts)
    {a b : List (Label C)} {i j : Held C} where
  -- one offer from the label of z over a leg, and on
  module _ {leg : Leg} {z into to : ℕ} {over : C} (is : IsLeg W leg) (free : T leg.«open») (ends : Ends leg z into) (D : Dist W into to over) {o f l : Option C} {t : C}
      (o_is : o ≡ then_sum K f over) (f_is : f ≡ then_sum K l t) (l_is : l ≡ label_of K a z) (t_is : t ≡ W.price leg) (x : Tried K hosts a i b j to o) where
    pub leg_ran : Ran W hosts a i b j
    leg_ran = tried_ran S housed x valid
      where
        valid : (s : ℕ) (r : C) → Sure W s a → o ≡ Some r → Reach W s to r
        valid s r sure e =
            let p = then_given K f over r (sym o_is ∙ e) in
            reach_on S (leg_reach S a is free ends f_is l_is t_is sure p.1.0) D p.1.1

    pub leg_offered : (l q r : C) → label_of K a z ≡ Some l → K.sum l (W.price leg) ≡ Some q → K.sum q over ≡ Some r → Within K (label_of K b to) r
    leg_offered l q r e g h = x.within r (o_is ∙ then_is K (f_is ∙ then_is K (l_is ∙ e) (rw t_is g)) h)

module _ {C : Type 0} {K : Kind C} {W : Water K} {n : ℕ} (S : Sound W n) {hosts : List (Host C)} {a b c : List (Label C)} {i j m : Held C} {k into to : ℕ} {over : C} where
  pub over_more : Ran W hosts a i b j → Ran W hosts b j c m → OverLegs W a b k into over to → OverLeg W b c (leg_at W.legs k) into over to → OverLegs W a c (k + 1) into over to
  over_more p q done now = record {
    each = λ s sure k' z l r' r lt J e D g h. elim (dec_lt k' k) [
      | yes less ↦ within_ran S.lawful to q (done.each s sure k' z l r' r less J e D g h)
      | no more ↦ (let same : k' ≡ k = omega arith in
          let J' : Joins W.legs k z into = rw same at J in
          let price = toll_is W k J'.stands in
          now.each z l r' r J'.free J'.ends (still S p sure e D) (rw price at (rw same at g)) h)
    ];
  }

-- what was offered has been offered after more runs
module _ {C : Type 0} {K : Kind C} {W : Water K} {n : ℕ} (S : Sound W n) {hosts : List (Host C)} {a b c : List (Label C)} {j m : Held C} (q : Ran W hosts b j c m) where
  pub over_kept : {into to e : ℕ} {over : C} → OverLegs W a b e into over to → OverLegs W a c e into over to
  over_kept {to = to} done = record { each = λ s sure k z l r' r lt J e D g h. within_ran S.lawful to q (done.each s sure k z l r' r lt J e D g h) }

  pub from_kept : {w to : ℕ} {e : C} → FromNear W a b w e to → FromNear W a c w e to
  from_kept {to = to} done = record {
    ball = λ s sure l r e D g. within_ran S.lawful to q (done.ball s sure l r e D g);
    rim = over_kept done.rim;
  }

  pub host_kept : {v : ℕ} → FromHost W hosts a b v → FromHost W hosts a c v
  host_kept {v = v} done = record { each = λ s sure l e r f D g h. within_ran S.lawful v q (done.each s sure l e r f D g h) }

  pub gathered_kept : {near : List (Near C)} {v : ℕ} → Gathered W hosts near a b v → Gathered W hosts near a c v
  gathered_kept done = record { own = host_kept done.own; ball = record { each = λ x hi. from_kept (done.ball.each x hi) } }

-- what is offered after some runs is offered from each label that was exact before them
module _ {C : Type 0} {K : Kind C} {W : Water K} {n : ℕ} (S : Sound W n) {hosts : List (Host C)} {a b c : List (Label C)} {i j : Held C} (p : Ran W hosts a i b j) where
  pub over_moved : {into to e : ℕ} {over : C} → OverLegs W b c e into over to → OverLegs W a c e into over to
  over_moved now = record { each = λ s sure k z l r' r lt J e D g h. now.each s (p.sure s sure) k z l r' r lt J (still S p sure e D) D g h }

  pub from_moved : {w to : ℕ} {e : C} → FromNear W b c w e to → FromNear W a c w e to
  from_moved now = record {
    ball = λ s sure l r e D g. now.ball s (p.sure s sure) l r (still S p sure e D) D g;
    rim = over_moved now.rim;
  }

  pub ball_moved : {ball : List (Near C)} {k to : ℕ} → FromBall W ball b c k to → FromBall W ball a c k to
  ball_moved now = record { each = λ x hi. from_moved (now.each x hi) }

  pub gathered_moved : {near : List (Near C)} {v : ℕ} → Gathered W hosts near b c v → Gathered W hosts near a c v
  gathered_moved now = record {
    own = record { each = λ s sure l e r f D g h. now.own.each s (p.sure s sure) l e r (still S p sure f D) D g h };
    ball = ball_moved now.ball;
  }

module _ {C : Type 0} {K : Kind C} {W : Water K} {n : ℕ} (S : Sound W n) {hosts : List (Host C)} {a b c : List (Label C)} {i j m : Held C}
    (p : Ran W hosts a i b j) (q : Ran W hosts b j c m) where
  pub ball_more : {ball : List (Near C)} {k to : ℕ} → FromBall W ball a b k to → FromNear W b c (near_at K ball k).mark (near_at K ball k).cost to → FromBall W ball a c (k + 1) to
  ball_more {k = k} {to = to} done now = record {
    each = λ x hi. elim (dec_lt x k) [
      | yes less ↦ from_kept S q (done.each x less)
      | no more ↦ (let same : x ≡ k = omega arith in rw same (from_moved S p now))
    ];
  }

  pub step_one_more : {near : List (Near C)} {u k : ℕ} → StepOne W hosts near a b u k → (Mine K hosts u k → Gathered W hosts near b c k) → StepOne W hosts near a c u (k + 1)
  step_one_more {u = u} {k = k} done now = record {
    each = λ x hi mine. elim (dec_lt x k) [
      | yes less ↦ gathered_kept S q (done.each x less mine)
      | no more ↦ (let same : x ≡ k = omega arith in rw same (gathered_moved S p (now (rw same at mine))))
    ];
  }

-- one offer from the label of z
module _ {C : Type 0} {K : Kind C} {W : Water K} {n : ℕ} (S : Sound W n) {hosts : List (Host C)} (housed : Housed W n hosts)
    {a b : List (Label C)} {i j : Held C} {z to : ℕ} {over : C} (D : Dist W z to over) {o l : Option C}
    (o_is : o ≡ then_sum K l over) (l_is : l ≡ label_of K a z) (x : Tried K hosts a i b j to o) where
  pub plain_ran : Ran W hosts a i b j
  plain_ran = tried_ran S housed x valid
    where
      valid : (s : ℕ) (r : C) → Sure W s a → o ≡ Some r → Reach W s to r
      valid s r sure e =
          let q = then_given K l over r (sym o_is ∙ e) in
          reach_on S (sure z q.0 (sym l_is ∙ q.1.0)) D q.1.1

  pub plain_offered : (l r : C) → label_of K a z ≡ Some l → K.sum l over ≡ Some r → Within K (label_of K b to) r
  plain_offered l r e g = x.within r (o_is ∙ then_is K (l_is ∙ e) g)
