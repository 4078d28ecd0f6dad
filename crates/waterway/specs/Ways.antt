-- Ways along the open legs of a waterway, what they cost, and which is least.
use Rattle.std.specs.Prelude.{◌≡◌, ℕ, ◌^◌, ◌<◌, ◌≤◌, T, ◌↔◌, List, [], ◌∷◌, map, length, Some, None, Option, ◌≢◌, slice_index_or}
use Rattle.measure.specs.Kind.{Kind, Lawful, AtMost, onto}
use Rattle.waterway.specs.declared.Leg.{Leg}
use Rattle.waterway.specs.Legs.{leg_at, Ends}

-- leg number k stands in the list, is open, and joins u and v, either way round
pub record Joins (legs : List Leg) (k u v : ℕ) : Type 0 where
  pub stands : k < length legs
  pub free : T (leg_at legs k).«open»
  pub ends : Ends (leg_at legs k) u v

-- a walk: the open legs numbered ks lead from u to v over the marks ms, u first and v last
pub data Walk (legs : List Leg) : ℕ → ℕ → List ℕ → List ℕ → Type 0 where
  stay : {v : ℕ} → Walk legs v v [] (v ∷ [])
  along : {k u w v : ℕ} {ks ms : List ℕ} → Joins legs k u w → Walk legs w v ks ms → Walk legs u v (k ∷ ks) (u ∷ ms)

-- m is none of these marks
abbrev pub Off : ℕ → List ℕ → Type 0
Off m [] = Unit {0}
Off m (x ∷ xs) = (m ≢ x) × Off m xs

-- no mark stands twice
abbrev pub Simple : List ℕ → Type 0
Simple [] = Unit {0}
Simple (m ∷ ms) = Off m ms × Simple ms

-- a way: a walk that visits no mark twice
pub record Way (legs : List Leg) (u v : ℕ) (ks ms : List ℕ) : Type 0 where
  pub walk : Walk legs u v ks ms
  pub simple : Simple ms

-- a waterway whose legs have a price
pub record Water {C : Type 0} (K : Kind C) : Type 0 where
  pub legs : List Leg
  pub price : Leg → C

-- what the leg number k costs, and zero where none stands
unfoldable pub toll : {C : Type 0} {K : Kind C} → Water K → ℕ → C
toll {C} {K} W k = slice_index_or (map W.price W.legs) k K.zero

-- what the legs ks cost together, where all sums are given; no legs cost zero
abbrev pub cost : {C : Type 0} {K : Kind C} → Water K → List ℕ → Option C
cost {C} {K} W [] = Some K.zero
cost {C} {K} W (k ∷ ks) = onto K (toll W k) (cost W ks)

-- c is the distance of u and v: some way between them costs c, and none costs less
pub record Dist {C : Type 0} {K : Kind C} (W : Water K) (u v : ℕ) (c : C) : Type 0 where
  pub ks : List ℕ
  pub ms : List ℕ
  pub way : Way W.legs u v ks ms
  pub costs : cost W ks ≡ Some c
  pub least : (js ns : List ℕ) (d : C) → Way W.legs u v js ns → cost W js ≡ Some d → AtMost K c d

-- no way leads from u to v
abbrev pub Apart : {C : Type 0} {K : Kind C} → Water K → ℕ → ℕ → Type 0
Apart W u v = (ks ms : List ℕ) → Way W.legs u v ks ms → ⊥

-- o tells the distance of u and v, and is None where there is no way
pub record Tells {C : Type 0} {K : Kind C} (W : Water K) (u v : ℕ) (o : Option C) : Type 0 where
  pub some : (c : C) → (o ≡ Some c) ↔ Dist W u v c
  pub none : (o ≡ None) ↔ Apart W u v

-- what the theory asks: lawful costs, at most 256 marks, and of each leg in the list a small price and ends that are marks
pub record Sound {C : Type 0} {K : Kind C} (W : Water K) (n : ℕ) : Type 0 where
  pub lawful : Lawful K
  pub few : n ≤ 256
  pub small : (k : ℕ) → k < length W.legs → K.size (W.price (leg_at W.legs k)) ≤ 2 ^ 36
  pub from_in : (k : ℕ) → k < length W.legs → (leg_at W.legs k).from < n
  pub to_in : (k : ℕ) → k < length W.legs → (leg_at W.legs k).to < n

-- each leg in the list costs something
pub record Dear {C : Type 0} {K : Kind C} (W : Water K) : Type 0 where
  pub each : (k : ℕ) → k < length W.legs → K.Below K.zero (W.price (leg_at W.legs k))
