-- What a working-out over fresh memory answers, and what it leaves.
use Rattle.std.specs.Prelude.{◌≡◌, ℕ, ◌<◌, ◌≤◌, Bool, true, false, List, length, take, drop, Ok, Err, Result}
use Rattle.measure.specs.Kind.{Kind}
use Rattle.queue.specs.Held.{Held}
use Rattle.waterway.specs.declared.Leg.{Leg}
use Rattle.waterway.specs.declared.Label.{Label}
use Rattle.waterway.specs.Priced.{Charted}
use Rattle.waterway.specs.Ways.{Water}
use Rattle.bundling.specs.declared.Near.{Near}
use Rattle.hosts.specs.Local.{pivot_of}
use Rattle.bundle.specs.declared.working.Totals.{Totals}
use Rattle.bundle.specs.Answers.{WorkedOut, TooFew}
use Rattle.bundle_tests.specs.declared.refusal.Refusal.{Refusal}
use Rattle.bundle_tests.specs.declared.refusal.Refusal.TheVariants.{TooManyMarks, TooFewLabels, ShortQueue, HomeOffChart, HomeNoPivot, LegOffChart, OutOfMemory, Rows}

-- what a working-out asks for: at most 256 marks, with a label for each, a queue that spans them, home a pivot among them, and a chart
pub record Ready (legs : List Leg) (pivots : List Bool) (labels span home : ℕ) : Type 0 where
  pub few : length pivots ≤ 256
  pub labelled : length pivots ≤ labels
  pub spanned : length pivots ≤ span
  pub inside : home < length pivots
  pub pivot : pivot_of pivots home ≡ true
  pub chart : Charted legs (length pivots)

-- the check that fails first, and none where memory or rows are missing
abbrev pub Fails : List Leg → List Bool → ℕ → ℕ → ℕ → Refusal → Type 0
Fails legs pivots labels span home TooManyMarks = 256 < length pivots
Fails legs pivots labels span home TooFewLabels = (length pivots ≤ 256) × (labels < length pivots)
Fails legs pivots labels span home ShortQueue = (length pivots ≤ 256) × (length pivots ≤ labels) × (span < length pivots)
Fails legs pivots labels span home HomeOffChart = (length pivots ≤ 256) × (length pivots ≤ labels) × (length pivots ≤ span) × (length pivots ≤ home)
Fails legs pivots labels span home HomeNoPivot =
    (length pivots ≤ 256) × (length pivots ≤ labels) × (length pivots ≤ span) × (home < length pivots) × (pivot_of pivots home ≡ false)
Fails legs pivots labels span home LegOffChart =
    (length pivots ≤ 256) × (length pivots ≤ labels) × (length pivots ≤ span) × (home < length pivots) × (pivot_of pivots home ≡ true) × (Charted legs (length pivots) → ⊥)
Fails legs pivots labels span home OutOfMemory = ⊥
Fails legs pivots labels span home (Rows _) = ⊥

abbrev pub Checked : List Leg → List Bool → ℕ → ℕ → ℕ → Result (Unit {0}) Refusal → Type 0
Checked legs pivots labels span home (Ok _) = Ready legs pivots labels span home
Checked legs pivots labels span home (Err refusal) = Fails legs pivots labels span home refusal

-- the rows, the labels and the queue are as they were
pub record Same {C : Type 0} (near near' : List (Near C)) (labels labels' : List (Label C)) (h h' : Held C) : Type 0 where
  pub near_is : near' ≡ near
  pub labels_are : labels' ≡ labels
  pub held_is : h' ≡ h

-- the answer, and what it leaves: a working-out and one that lacks rows write the labels of the marks and none past them
abbrev pub Tried : {C : Type 0} {K : Kind C} → Water K → List Bool → ℕ → List (Near C) → List (Near C) → List (Label C) → List (Label C) → Held C → Held C → Result Totals Refusal → Type 0
Tried W pivots home near near' labels labels' h h' (Ok totals) =
    Ready W.legs pivots (length labels) h.span home
    × WorkedOut W (length pivots) (pivot_of pivots) home near' (take (length pivots) labels') h h' totals
    × (drop (length pivots) labels' ≡ drop (length pivots) labels)
Tried W pivots home near near' labels labels' h h' (Err (Rows rows)) =
    Ready W.legs pivots (length labels) h.span home
    × TooFew W (length pivots) (pivot_of pivots) near' (take (length pivots) labels') h h' rows
    × (drop (length pivots) labels' ≡ drop (length pivots) labels)
Tried W pivots home near near' labels labels' h h' (Err OutOfMemory) = Ready W.legs pivots (length labels) h.span home × Same near near' labels labels' h h'
Tried W pivots home near near' labels labels' h h' (Err refusal) = Fails W.legs pivots (length labels) h.span home refusal × Same near near' labels labels' h h'
