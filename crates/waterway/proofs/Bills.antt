-- What the legs of a walk cost together, as a sum that is always there, and how few legs a way has.
use Rattle.std.proofs.Common.{◌≡◌, ℕ, ◌+◌, ◌*◌, ◌^◌, ◌<◌, ◌≤◌, ◌⊎◌, List, [], ◌∷◌, ◌++◌, map, length, Some, sym, refl, ap, ◌∙◌, inl, inr, arith}
use native.Mathlib.Decide.{dec_lt}
use lib.ListN.{length-map, get_or-eq_default}
use Rattle.std.specs.List.{AllByRecursion}
use Rattle.std.proofs.lemmas.List.{get_or-map}
use Rattle.measure.specs.Kind.{Kind, onto}
use Rattle.measure.proofs.Sums as sums
use Rattle.measure.proofs.Sums.{plus}
use Rattle.waterway.specs.Legs.{no_leg, leg_at}
use Rattle.waterway.specs.Ways.{Joins, Walk, stay, along, Way, Water, toll, cost, Sound}
use Rattle.waterway.proofs.Pigeons.{pigeons}
use Rattle.waterway.proofs.Walks.{turned, length_turned, marks_length}

abbrev pub bill : {C : Type 0} {K : Kind C} → Water K → List ℕ → C
bill {C} {K} W [] = K.zero
bill {C} {K} W (k ∷ ks) = plus K (toll W k) (bill W ks)

pub toll_is : {C : Type 0} {K : Kind C} (W : Water K) (k : ℕ) → k < length W.legs → toll W k ≡ W.price (leg_at W.legs k)
unfolding toll
toll_is {C} {K} W k lt = get_or-map W.price W.legs k no_leg K.zero lt

pub no_toll : {C : Type 0} {K : Kind C} (W : Water K) (k : ℕ) → length W.legs ≤ k → toll W k ≡ K.zero
unfolding toll
no_toll {C} {K} W k le = get_or-eq_default (map W.price W.legs) K.zero (omega (arith, length-map W.legs W.price))

module _ {C : Type 0} {K : Kind C} {W : Water K} {n : ℕ} (S : Sound W n) where
  open K use {size}
  open S use {lawful as L}

  pub toll_small : (k : ℕ) → size (toll W k) ≤ 2 ^ 36
  toll_small k = elim (dec_lt k (length W.legs)) [
    | yes lt ↦ rw (toll_is W k lt) (S.small k lt)
    | no h ↦ rw (no_toll W k (omega arith), L.size_zero) (omega arith)
  ]

  pub size_bill : (ks : List ℕ) → length ks ≤ 4096 → size (bill W ks) ≤ 2 ^ 36 * length ks
  size_bill [] h = omega (arith, L.size_zero)
  size_bill (k ∷ ks) h =
      let q = size_bill ks (omega arith) in
      omega (arith, toll_small, sums.size_plus L)

  pub cost_bill : (ks : List ℕ) → length ks ≤ 4096 → cost W ks ≡ Some (bill W ks)
  cost_bill [] h = refl
  cost_bill (k ∷ ks) h =
      let q = size_bill ks (omega arith) in
      ap (onto K (toll W k)) (cost_bill ks (omega arith)) ∙ sums.sum_plus L (toll W k) (bill W ks) (omega (arith, toll_small))

  pub bill_joined : (ks js : List ℕ) → length ks + length js ≤ 4096 → bill W (ks ++ js) ≡ plus K (bill W ks) (bill W js)
  bill_joined [] js h = sym (sums.zero_plus L (bill W js))
  bill_joined (k ∷ ks) js h =
      let q = size_bill ks (omega arith) in
      let r = size_bill js (omega arith) in
      ap (plus K (toll W k)) (bill_joined ks js (omega arith)) ∙ sym (sums.plus_assoc L (toll W k) (bill W ks) (bill W js) (omega (arith, toll_small)))

  -- a leg at the end
  pub bill_push : (ks : List ℕ) (k : ℕ) → length ks ≤ 4095 → bill W (ks ++ k ∷ []) ≡ plus K (bill W ks) (toll W k)
  bill_push ks k h = bill_joined ks (k ∷ []) (omega arith) ∙ ap (plus K (bill W ks)) (sums.plus_zero L (toll W k))

  pub bill_turned : (ks : List ℕ) → length ks ≤ 4096 → bill W (turned ks) ≡ bill W ks
  bill_turned [] h = refl
  bill_turned (k ∷ ks) h =
      bill_push (turned ks) k (omega (arith, length_turned ks))
      ∙ ap (λ b. plus K b (toll W k)) (bill_turned ks (omega arith))
      ∙ sums.plus_comm L (bill W ks) (toll W k)

  -- A way has fewer legs than there are marks

  pub joins_in : {k u v : ℕ} → Joins W.legs k u v → (u < n) × (v < n)
  joins_in {k} j =
      let a = S.from_in k j.stands in
      let b = S.to_in k j.stands in
      elim j.ends [ inl e ↦ (omega arith, omega arith) | inr e ↦ (omega arith, omega arith) ]

  pub marks_in : {u v : ℕ} {ks ms : List ℕ} → Walk W.legs u v ks ms → u < n → AllByRecursion (λ m. m < n) ms
  marks_in stay h = (h, tt)
  marks_in (along j p) h = (h, marks_in p (joins_in j).1)

  pub walk_ends : {u v : ℕ} {ks ms : List ℕ} → Walk W.legs u v ks ms → u < n → v < n
  walk_ends stay lt = lt
  walk_ends (along j p) lt = walk_ends p (joins_in j).1

  walk_starts : {u v : ℕ} {ks ms : List ℕ} → Walk W.legs u v ks ms → (length ks ≡ 0) ⊎ (u < n)
  walk_starts stay = inl refl
  walk_starts (along j p) = inr (joins_in j).0

  pub way_fewer : {u v : ℕ} {ks ms : List ℕ} → Way W.legs u v ks ms → u < n → length ks < n
  way_fewer {ms = ms} w h = omega (arith, pigeons n ms w.simple (marks_in w.walk h), marks_length w.walk)

  -- (the next ones take all their arguments, so that omega applies them to each way and distance in reach)
  pub way_few : (u v : ℕ) (ks ms : List ℕ) → Way W.legs u v ks ms → length ks ≤ n
  way_few u v ks ms w = elim (walk_starts w.walk) [ inl e ↦ omega arith | inr h ↦ omega (arith, way_fewer w h) ]

  pub way_short : (u v : ℕ) (ks ms : List ℕ) → Way W.legs u v ks ms → length ks ≤ 255
  way_short u v ks ms w = elim (walk_starts w.walk) [ inl e ↦ omega arith | inr h ↦ omega (arith, way_fewer w h, S.few) ]

  pub way_cost : {u v : ℕ} {ks ms : List ℕ} → Way W.legs u v ks ms → cost W ks ≡ Some (bill W ks)
  way_cost {ks = ks} w = cost_bill ks (omega (arith, way_short))

  pub way_size : (u v : ℕ) (ks ms : List ℕ) → Way W.legs u v ks ms → size (bill W ks) ≤ 2 ^ 44
  way_size u v ks ms w = omega (arith, way_short, size_bill)
