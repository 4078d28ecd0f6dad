-- What the search by bundles finds, and what it leaves.
use Rattle.std.specs.Prelude.{◌≡◌, ℕ, ◌<◌, Bool, true, List, map, length, None, Ok, Err, Result}
use Rattle.measure.specs.Kind.{Kind}
use Rattle.queue.specs.Held.{Held, Alike, cleared}
use Rattle.waterway.specs.declared.Label.{Label}
use Rattle.waterway.specs.Ways.{Water, Dist, Tells}
use Rattle.waterway.specs.Counts.{Counts}
use Rattle.waterway.specs.Near.{NearTable, blank as blank_row}
use Rattle.waterway.specs.Labels.{Clean, label_of}
use Rattle.bundling.specs.declared.Near.{Near}
use Rattle.relaxing.specs.Offers.{Blank}
use Rattle.relaxing.specs.Search.{near_at}
use Rattle.hosts.specs.Local.{pair, Needed}
use Rattle.hosts.specs.declared.making.TooFewRows.{TooFewRows}
use Rattle.bundle.specs.declared.working.Totals.{Totals}

-- each label tells the distance from home, and is blank where no way leads there
pub record Labelled {C : Type 0} {K : Kind C} (W : Water K) (home : ℕ) (labels : List (Label C)) : Type 0 where
  pub tells : (v : ℕ) → Tells W home v (label_of K labels v)
  pub clean : Clean K labels

-- the queue holds nothing, and has counted so many draws since it was cleared
pub record Emptied {C : Type 0} (h h' : Held C) (draws : ℕ) : Type 0 where
  pub empty : (p : ℕ) → h'.key p ≡ None
  pub span : h'.span ≡ h.span
  pub draws_are : h'.draws ≡ draws

-- every row is blank
pub record NoRows {C : Type 0} (K : Kind C) (near : List (Near C)) : Type 0 where
  pub each : (j : ℕ) → j < length near → pair (near_at K near j) ≡ blank_row K

-- the near table holds the balls, each label tells the distance from home, and what is counted is right:
-- the pivots with a way home, which were drawn; the marks of all balls; the marks with a way home
pub record WorkedOut {C : Type 0} {K : Kind C} (W : Water K) (n : ℕ) (pivot : ℕ → Bool) (home : ℕ) (near : List (Near C)) (labels : List (Label C)) (h h' : Held C) (t : Totals) : Type 0 where
  pub table : NearTable W n pivot (map pair near)
  pub labelled : Labelled W home labels
  pub emptied : Emptied h h' t.draws
  pub draws : Counts (λ p. (pivot p ≡ true) × ((c : C) × Dist W home p c)) n t.draws
  pub rows : Needed W n pivot t.rows
  pub reached : Counts (λ v. (c : C) × Dist W home v c) n t.reached

-- the balls hold more marks than the near table has rows: the rows and the labels are blank, and the queue is cleared
pub record TooFew {C : Type 0} {K : Kind C} (W : Water K) (n : ℕ) (pivot : ℕ → Bool) (near : List (Near C)) (labels : List (Label C)) (h h' : Held C) (refusal : TooFewRows) : Type 0 where
  pub needed : Needed W n pivot refusal.needed
  pub more : length near < refusal.needed
  pub no_rows : NoRows K near
  pub blank : Blank K labels
  pub cleared_queue : Alike h' (cleared h.span)

abbrev pub Answer : {C : Type 0} {K : Kind C} → Water K → ℕ → (ℕ → Bool) → ℕ → List (Near C) → List (Label C) → Held C → Held C → Result Totals TooFewRows → Type 0
Answer W n pivot home near labels h h' (Ok t) = WorkedOut W n pivot home near labels h h' t
Answer W n pivot home near labels h h' (Err e) = TooFew W n pivot near labels h h' e
