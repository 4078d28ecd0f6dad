-- The search round one mark, in which every mark is its own host.
use Rattle.std.specs.Prelude.{◌≡◌, ℕ, ◌+◌, ◌<◌, ◌≤◌, Bool, true, false, ◌⊎◌, List, map, length, Some, None, Option, ◌≢◌, slice_index_or}
use Rattle.measure.specs.Kind.{Kind, AtMost}
use Rattle.std.specs.List.{AllByRecursion}
use Rattle.waterway.specs.Ways.{Water, Dist}
use Rattle.waterway.specs.Counts.{Lists}
use Rattle.waterway.specs.Near.{BallRows, Balls, blank as blank_row}
use Rattle.waterway.specs.Hosts.{Host as Nearest}
use Rattle.waterway.specs.declared.Label.{Label}
use Rattle.bundling.specs.declared.Host.{Host}
use Rattle.bundling.specs.declared.Near.{Near}
use Rattle.waterway.specs.Labels.{label_of}
use Rattle.bundling.specs.Marks.{host_at}
use Rattle.relaxing.specs.Search.{Sure, near_at}

-- the row of a mark
abbrev pub row : {C : Type 0} → ℕ → C → Near C
row v c = record { mark = v; cost = c }

-- a pivot's own host, whose ball is empty
abbrev pub own : {C : Type 0} → Kind C → ℕ → ℕ → Host C
own K v at = record { pivot = Some (row v K.zero); start = at; end = at }

-- each mark is its own host, with an empty ball
pub record Selves {C : Type 0} (K : Kind C) (selves : List (Host C)) (n : ℕ) : Type 0 where
  pub long : length selves ≡ n
  pub each : (v : ℕ) → v < n → host_at K selves v ≡ own K v 0

abbrev pub pivot_of : List Bool → ℕ → Bool
pivot_of pivots p = slice_index_or pivots p false

-- d is not above what any pivot is away from v
abbrev pub UptoPivots : {C : Type 0} {K : Kind C} → Water K → ℕ → List Bool → ℕ → C → Type 0
UptoPivots {C} {K} W n pivots v d = (p : ℕ) (c : C) → p < n → pivot_of pivots p ≡ true → Dist W v p c → AtMost K d c

-- the labels of all marks that are no farther from v than the nearest pivot are the distances, and none is below
pub record Around {C : Type 0} {K : Kind C} (W : Water K) (n : ℕ) (pivots : List Bool) (v : ℕ) (labels : List (Label C)) : Type 0 where
  pub sure : Sure W v labels
  pub exact : (w : ℕ) (d : C) → Dist W v w d → UptoPivots W n pivots v d → label_of K labels w ≡ Some d

-- whether a key is above the best, where there is one
abbrev pub Past : {C : Type 0} → Kind C → Option C → C → Type 0
Past K None key = ⊥
Past K (Some best) key = K.Below best key

-- the best is what some pivot is away
abbrev pub Found : {C : Type 0} {K : Kind C} → Water K → ℕ → List Bool → ℕ → Option C → Type 0
Found W n pivots v None = Unit {0}
Found W n pivots v (Some h) = (p : ℕ) × (p < n) × (pivot_of pivots p ≡ true) × Dist W v p h

-- a cost is below that of the best, or there is none
abbrev pub Beats : {C : Type 0} → Kind C → Option (Near C) → C → Type 0
Beats K None c = Unit {0}
Beats K (Some b) c = K.Below c b.cost

-- the best of the pivots so far, after one more mark v with the label o
abbrev pub Closer : {C : Type 0} → Kind C → Option (Near C) → Bool → Option C → ℕ → Option (Near C) → Type 0
Closer {C} K best pivot o v next =
    ((next ≡ best) × ((c : C) → pivot ≡ true → o ≡ Some c → (b : Near C) × ((best ≡ Some b) × AtMost K b.cost c)))
    ⊎ ((c : C) × (pivot ≡ true) × (o ≡ Some c) × (next ≡ Some (row v c)) × ((b : Near C) → best ≡ Some b → K.Below c b.cost))

-- the pivot with the least label among the marks below i, of equals the one with the smallest number
abbrev pub NearestOf : {C : Type 0} → Kind C → List Bool → List (Label C) → ℕ → Option (Near C) → Type 0
NearestOf {C} K pivots labels i None = (p : ℕ) (d : C) → p < i → pivot_of pivots p ≡ true → label_of K labels p ≢ Some d
NearestOf {C} K pivots labels i (Some b) =
    (b.mark < i) × (pivot_of pivots b.mark ≡ true) × (label_of K labels b.mark ≡ Some b.cost)
    × ((p : ℕ) (d : C) → p < i → pivot_of pivots p ≡ true → label_of K labels p ≡ Some d → (K.Below b.cost d) ⊎ ((b.cost ≡ d) × (b.mark ≤ p)))

-- the rows of the near table as the waterway knows them
abbrev pub pair : {C : Type 0} → Near C → ℕ × C
pair r = (r.mark, r.cost)

-- the marks below i with a label below the rim, by rising number, each with its label
pub record Inner {C : Type 0} (K : Kind C) (labels : List (Label C)) (rim : C) (i : ℕ) (rows : List (ℕ × C)) : Type 0 where
  pub members : Lists (λ w. (d : C) × (label_of K labels w ≡ Some d) × (K.Below d rim)) i (map (λ r. r.0) rows)
  pub costs : AllByRecursion (λ r. (label_of K labels r.0 ≡ Some r.1) × (K.Below r.1 rim)) rows

-- the rows stand in the near table from `first` on, as far as it reaches
pub record Stand {C : Type 0} (K : Kind C) (near : List (Near C)) (first : ℕ) (rows : List (ℕ × C)) : Type 0 where
  pub each : (j k : ℕ) → k ≡ first + j → j < length rows → k < length near → pair (near_at K near k) ≡ slice_index_or rows j (0, K.zero)

-- those rows are written to the near table from `first` on; `at` is past the last of them
pub record Written {C : Type 0} (K : Kind C) (labels : List (Label C)) (near near' : List (Near C)) (first at i : ℕ) (rim : C) : Type 0 where
  pub rows : List (ℕ × C)
  pub inner : Inner K labels rim i rows
  pub ends : at ≡ first + length rows
  pub short : length rows ≤ i
  pub before : (j : ℕ) → j < first → near_at K near' j ≡ near_at K near j
  pub stand : Stand K near' first rows

-- one row of the mark w with the label o, or none
abbrev pub RowWritten : {C : Type 0} → Kind C → Option C → List (Near C) → List (Near C) → ℕ → ℕ → C → ℕ → Type 0
RowWritten {C} K o near near' at w rim next =
    ((next ≡ at) × (((j : ℕ) → near_at K near' j ≡ near_at K near j) × ((d : C) → o ≡ Some d → K.Below d rim → ⊥)))
    ⊎ ((d : C) × (next ≡ at + 1) × (o ≡ Some d) × (K.Below d rim)
    × ((j : ℕ) → (j ≢ at) → near_at K near' j ≡ near_at K near j) × (at < length near → near_at K near' at ≡ row w d))

-- the pivot is the host of v, or v has none
abbrev pub IsHost : {C : Type 0} {K : Kind C} → Water K → ℕ → (ℕ → Bool) → ℕ → Option (Near C) → Type 0
IsHost {C} W n pivot v None = (u : ℕ) (c : C) → Nearest W n pivot v u c → ⊥
IsHost W n pivot v (Some p) = Nearest W n pivot v p.mark p.cost

-- the host of v and its ball, whose rows are written from `first` on
pub record HostMade {C : Type 0} {K : Kind C} (W : Water K) (n : ℕ) (pivots : List Bool) (v first : ℕ) (near near' : List (Near C)) (r : Host C) : Type 0 where
  pub host : IsHost W n (pivot_of pivots) v r.pivot
  pub starts : r.start ≡ first
  pub rows : List (ℕ × C)
  pub ball : BallRows W n (pivot_of pivots) v rows
  pub ends : r.end ≡ first + length rows
  pub short : length rows ≤ n
  pub before : (j : ℕ) → j < first → near_at K near' j ≡ near_at K near j
  pub stand : Stand K near' first rows

-- the host record of x, whose rows stand in the near table before `bound`
pub record HostRow {C : Type 0} {K : Kind C} (W : Water K) (n : ℕ) (pivots : List Bool) (near : List (Near C)) (x bound : ℕ) (r : Host C) : Type 0 where
  pub host : IsHost W n (pivot_of pivots) x r.pivot
  pub rows : List (ℕ × C)
  pub ball : BallRows W n (pivot_of pivots) x rows
  pub ends : r.end ≡ r.start + length rows
  pub fits : r.end ≤ bound
  pub stand : Stand K near r.start rows

-- the hosts of the marks below i, and their balls one after the other
pub record HostsMade {C : Type 0} {K : Kind C} (W : Water K) (n : ℕ) (pivots : List Bool) (hosts : List (Host C)) (near : List (Near C)) (i bound : ℕ) : Type 0 where
  pub each : (x : ℕ) → x < i → HostRow W n pivots near x bound (host_at K hosts x)
  pub rows : List (ℕ × C)
  pub balls : Balls W n (pivot_of pivots) i rows
  pub many : length rows ≡ bound
  pub stand : Stand K near 0 rows

-- all balls together hold so many marks
pub record Needed {C : Type 0} {K : Kind C} (W : Water K) (n : ℕ) (pivot : ℕ → Bool) (count : ℕ) : Type 0 where
  pub rows : List (ℕ × C)
  pub balls : Balls W n pivot n rows
  pub many : length rows ≡ count

-- the rows from `start` on and before i are blank, and those before `start` as they were
pub record RowsBlank {C : Type 0} (K : Kind C) (near near' : List (Near C)) (start i : ℕ) : Type 0 where
  pub before : (j : ℕ) → j < start → near_at K near' j ≡ near_at K near j
  pub blank : (j : ℕ) → start ≤ j → j < i → pair (near_at K near' j) ≡ blank_row K
