-- What the plain search answers, and what it leaves in the labels.
use Rattle.std.specs.Prelude.{◌≡◌, ℕ, ◌<◌, ◌≤◌, List, length, Ok, Err, Result}
use Rattle.measure.specs.Kind.{Kind}
use Rattle.waterway.specs.declared.Leg.{Leg}
use Rattle.waterway.specs.declared.Label.{Label}
use Rattle.waterway.specs.Labels.{label_of, Clean}
use Rattle.waterway.specs.Priced.{water, Charted}
use Rattle.waterway.specs.Ways.{Tells}
use Rattle.plain.specs.declared.Refusal.{Refusal}
use Rattle.plain.specs.declared.Refusal.TheVariants.{TooManyMarks, HomeOffChart, LegOffChart}

-- each label tells the distance of its mark from home, or that no way leads there
abbrev pub TellAll : {C : Type 0} (K : Kind C) → (ℕ → ℕ → C) → List Leg → ℕ → List (Label C) → Type 0
TellAll K priced legs home labels = (v : ℕ) → v < length labels → Tells (water K priced legs) home v (label_of K labels v)

-- the search of the legs from home, with a label for each mark; one that says no is blank. The first check that fails refuses it, and then the labels are as they were
abbrev pub Answers : {C : Type 0} (K : Kind C) → (ℕ → ℕ → C) → List Leg → ℕ → List (Label C) → List (Label C) → Result (Unit {0}) Refusal → Type 0
Answers K priced legs home before after (Ok _) = Charted legs (length before) × (home < length before) × TellAll K priced legs home after × Clean K after
Answers K priced legs home before after (Err TooManyMarks) = (256 < length before) × (after ≡ before)
Answers K priced legs home before after (Err HomeOffChart) = (length before ≤ 256) × (length before ≤ home) × (after ≡ before)
Answers K priced legs home before after (Err LegOffChart) = (length before ≤ 256) × (home < length before) × (Charted legs (length before) → ⊥) × (after ≡ before)
