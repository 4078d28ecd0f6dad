-- What the search by bundles asks for, and what its steps do.
use Rattle.std.specs.Prelude.{◌≡◌, ℕ, ◌<◌, ◌≤◌, T, ◌⊎◌, List, length, Some, None, slice_index_or, slice_range}
use Rattle.measure.specs.Kind.{Kind, AtMost}
use Rattle.queue.specs.Held.{Held}
use Rattle.waterway.specs.declared.Leg.{Leg}
use Rattle.waterway.specs.Legs.{leg_at, Ends}
use Rattle.waterway.specs.Ways.{Water, Dist, Joins, toll}
use Rattle.waterway.specs.Priced.{Charted}
use Rattle.waterway.specs.Hosts.{Host as Nearest, InBall}
use Rattle.waterway.specs.declared.Label.{Label}
use Rattle.bundling.specs.declared.Host.{Host}
use Rattle.bundling.specs.declared.Near.{Near}
use Rattle.waterway.specs.Labels.{Within, label_of}
use Rattle.bundling.specs.Marks.{host_at, pivot_in, host_in, away_in}
use Rattle.relaxing.specs.Offers.{Matched, Keeps, Steady, Comes}

-- v is at most c away from s
pub record Reach {C : Type 0} {K : Kind C} (W : Water K) (s v : ℕ) (c : C) : Type 0 where
  pub dist : C
  pub is : Dist W s v dist
  pub upto : AtMost K dist c

-- no label is below what its mark is away from s
abbrev pub Sure : {C : Type 0} {K : Kind C} → Water K → ℕ → List (Label C) → Type 0
Sure {C} {K} W s labels = (v : ℕ) (c : C) → label_of K labels v ≡ Some c → Reach W s v c

abbrev pub near_at : {C : Type 0} → Kind C → List (Near C) → ℕ → Near C
near_at K near j = slice_index_or near j (record { mark = 0; cost = K.zero })

-- the rows of the ball of each mark are a part of the near table
abbrev pub BallsFit : {C : Type 0} → Kind C → List (Host C) → List (Near C) → Type 0
BallsFit K hosts near = (v : ℕ) → ((host_at K hosts v).start ≤ (host_at K hosts v).end) × ((host_at K hosts v).end ≤ length near)

-- the ball of a mark
abbrev pub ball_in : {C : Type 0} → Kind C → List (Host C) → List (Near C) → ℕ → List (Near C)
ball_in K hosts near v = slice_range near (host_at K hosts v).start (host_at K hosts v).end

-- the hosts are the nearest pivots
pub record Housed {C : Type 0} {K : Kind C} (W : Water K) (n : ℕ) (hosts : List (Host C)) : Type 0 where
  pub long : length hosts ≡ n
  pub some : (v : ℕ) (c : C) → away_in K hosts v ≡ Some c → Nearest W n (pivot_in K hosts) v (host_in K hosts v) c
  pub none : (v u : ℕ) (c : C) → away_in K hosts v ≡ None → Nearest W n (pivot_in K hosts) v u c → ⊥

-- the ball of each mark stands in the near table
pub record Balled {C : Type 0} {K : Kind C} (W : Water K) (n : ℕ) (hosts : List (Host C)) (near : List (Near C)) : Type 0 where
  pub fits : BallsFit K hosts near
  pub inside : (v j : ℕ) → j < length (ball_in K hosts near v) → (near_at K (ball_in K hosts near v) j).mark < n
  pub only : (v j : ℕ) → j < length (ball_in K hosts near v)
      → InBall W n (pivot_in K hosts) v (near_at K (ball_in K hosts near v) j).mark (near_at K (ball_in K hosts near v) j).cost
  pub every : (v w : ℕ) (d : C) → InBall W n (pivot_in K hosts) v w d
      → (j : ℕ) × (j < length (ball_in K hosts near v)) × ((near_at K (ball_in K hosts near v) j).mark ≡ w)

-- legs, hosts and balls that are right
pub record Sea {C : Type 0} {K : Kind C} (W : Water K) (n : ℕ) (hosts : List (Host C)) (near : List (Near C)) : Type 0 where
  pub chart : Charted W.legs n
  pub housed : Housed W n hosts
  pub balled : Balled W n hosts near

-- the leg is one of those of the waterway
abbrev pub IsLeg : {C : Type 0} {K : Kind C} → Water K → Leg → Type 0
IsLeg W leg = (k : ℕ) × (k < length W.legs) × (leg_at W.legs k ≡ leg)

-- a run of relaxations
pub record Ran {C : Type 0} {K : Kind C} (W : Water K) (hosts : List (Host C)) (a : List (Label C)) (h : Held C) (b : List (Label C)) (h' : Held C) : Type 0 where
  pub matched : Matched K hosts b h'
  pub keeps : Keeps K hosts a h b h'
  pub steady : Steady h h'
  pub sure : (s : ℕ) → Sure W s a → Sure W s b

-- `to`, which is `over` away from `into`, has the offer over the leg from each label
pub record OverLeg {C : Type 0} {K : Kind C} (W : Water K) (a b : List (Label C)) (leg : Leg) (into : ℕ) (over : C) (to : ℕ) : Type 0 where
  pub each : (z : ℕ) (l q r : C) → T leg.«open» → Ends leg z into → label_of K a z ≡ Some l → K.sum l (W.price leg) ≡ Some q → K.sum q over ≡ Some r
      → Within K (label_of K b to) r

-- the same from each exact label, over each leg below i
pub record OverLegs {C : Type 0} {K : Kind C} (W : Water K) (a b : List (Label C)) (i into : ℕ) (over : C) (to : ℕ) : Type 0 where
  pub each : (s : ℕ) → Sure W s a → (k z : ℕ) (l q r : C) → k < i → Joins W.legs k z into → label_of K a z ≡ Some l → Dist W s z l
      → K.sum l (toll W k) ≡ Some q → K.sum q over ≡ Some r → Within K (label_of K b to) r

-- the same from the label of w, which is e away from `to`, and over each leg into w
pub record FromNear {C : Type 0} {K : Kind C} (W : Water K) (a b : List (Label C)) (w : ℕ) (e : C) (to : ℕ) : Type 0 where
  pub ball : (s : ℕ) → Sure W s a → (l r : C) → label_of K a w ≡ Some l → Dist W s w l → K.sum l e ≡ Some r → Within K (label_of K b to) r
  pub rim : OverLegs W a b (length W.legs) w e to

-- the same for each row of a ball before i
pub record FromBall {C : Type 0} {K : Kind C} (W : Water K) (ball : List (Near C)) (a b : List (Label C)) (i to : ℕ) : Type 0 where
  pub each : (j : ℕ) → j < i → FromNear W a b (near_at K ball j).mark (near_at K ball j).cost to

-- v has the offer from the label of its host
pub record FromHost {C : Type 0} {K : Kind C} (W : Water K) (hosts : List (Host C)) (a b : List (Label C)) (v : ℕ) : Type 0 where
  pub each : (s : ℕ) → Sure W s a → (l e r : C) → label_of K a (host_in K hosts v) ≡ Some l → Dist W s (host_in K hosts v) l
      → away_in K hosts v ≡ Some e → K.sum l e ≡ Some r → Within K (label_of K b v) r

-- step 1 for one mark v
pub record Gathered {C : Type 0} {K : Kind C} (W : Water K) (hosts : List (Host C)) (near : List (Near C)) (a b : List (Label C)) (v : ℕ) : Type 0 where
  pub own : FromHost W hosts a b v
  pub ball : FromBall W (ball_in K hosts near v) a b (length (ball_in K hosts near v)) v

-- u is the host of v, so far away
pub record Mine {C : Type 0} (K : Kind C) (hosts : List (Host C)) (u v : ℕ) : Type 0 where
  pub away : C
  pub pivot : (host_at K hosts v).pivot ≡ Some (record { mark = u; cost = away })

-- step 1 for each mark below i
pub record StepOne {C : Type 0} {K : Kind C} (W : Water K) (hosts : List (Host C)) (near : List (Near C)) (a b : List (Label C)) (u i : ℕ) : Type 0 where
  pub each : (v : ℕ) → v < i → Mine K hosts u v → Gathered W hosts near a b v

-- from the label q of y to each mark of its ball, by its rows before i
pub record Spread {C : Type 0} (K : Kind C) (hosts : List (Host C)) (ball : List (Near C)) (a : List (Label C)) (h : Held C) (b : List (Label C)) (h' : Held C) (i : ℕ) (q : C) : Type 0 where
  pub matched : Matched K hosts b h'
  pub keeps : Keeps K hosts a h b h'
  pub steady : Steady h h'
  pub within : (j : ℕ) (r : C) → j < i → K.sum q (near_at K ball j).cost ≡ Some r → Within K (label_of K b (near_at K ball j).mark) r
  pub change : (v : ℕ) (c : C) → label_of K b v ≡ Some c
      → (label_of K a v ≡ Some c)
      ⊎ ((j : ℕ) × (r : C) × (j < i) × (K.sum q (near_at K ball j).cost ≡ Some r)
      × Comes K (pivot_in K hosts) (host_in K hosts) (away_in K hosts) (near_at K ball j).mark r v c)

-- step 2 for the mark x over one leg: its far end, and the ball of that
pub record SpreadLeg {C : Type 0} {K : Kind C} (W : Water K) (n : ℕ) (hosts : List (Host C)) (a b : List (Label C)) (leg : Leg) (x : ℕ) : Type 0 where
  pub end : (y : ℕ) (l q : C) → T leg.«open» → Ends leg x y → label_of K a x ≡ Some l → K.sum l (W.price leg) ≡ Some q → Within K (label_of K b y) q
  pub ball : (y w : ℕ) (l q e r : C) → T leg.«open» → Ends leg x y → label_of K a x ≡ Some l → K.sum l (W.price leg) ≡ Some q
      → InBall W n (pivot_in K hosts) y w e → K.sum q e ≡ Some r → Within K (label_of K b w) r

-- the same from an exact label over each leg below i
pub record SpreadLegs {C : Type 0} {K : Kind C} (W : Water K) (n : ℕ) (hosts : List (Host C)) (a b : List (Label C)) (i x : ℕ) : Type 0 where
  pub leg : (s : ℕ) → Sure W s a → (k y : ℕ) (l q : C) → k < i → Joins W.legs k x y → label_of K a x ≡ Some l → Dist W s x l
      → K.sum l (toll W k) ≡ Some q → Within K (label_of K b y) q
  pub ball : (s : ℕ) → Sure W s a → (k y w : ℕ) (l q e r : C) → k < i → Joins W.legs k x y → label_of K a x ≡ Some l → Dist W s x l
      → K.sum l (toll W k) ≡ Some q → InBall W n (pivot_in K hosts) y w e → K.sum q e ≡ Some r → Within K (label_of K b w) r

-- step 2 for each mark below i that u hosts
pub record StepTwo {C : Type 0} {K : Kind C} (W : Water K) (n : ℕ) (hosts : List (Host C)) (a b : List (Label C)) (u i : ℕ) : Type 0 where
  pub each : (x : ℕ) → x < i → Mine K hosts u x → SpreadLegs W n hosts a b (length W.legs) x
