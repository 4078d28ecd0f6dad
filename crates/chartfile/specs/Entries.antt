-- What a frame enters on a chart, and the frames that a chart takes one after the other.
use Rattle.std.specs.Prelude.{◌≡◌, ℕ, zero, suc, ◌+◌, ◌<◌, true, false, ◌⊎◌, List, [], ◌∷◌, ◌++◌, Some, Option, Result, MatchResult}
use Rattle.chart.specs.declared.refusal.Refusal.{Refusal}
use Rattle.chart.specs.declared.refusal.Refusal.TheVariants.{MarksFull}
use Rattle.checks.specs.Checks.{Check, ◌refuses_by◌}
use Rattle.chart.specs.State.{State, marks}
use Rattle.chart.specs.Calls.{with_mark, entering, naming, with_home, with_pivot}
use Rattle.chartfile.specs.declared.frame.Frame.{Frame}
use Rattle.chartfile.specs.declared.frame.Frame.TheVariants.{Head, Entry, Pivot, Home, Last}
use Rattle.chartfile.specs.Order.{Follows}

-- when the chart refuses the calls that make a frame's entry
abbrev pub entry_checks : State → Frame → List (Check Refusal)
entry_checks s (Head n) = ((256 < marks s + n) refuses_by MarksFull) ∷ []
entry_checks s (Entry leg) = entering s leg.from leg.to leg.length leg.locks
entry_checks s (Pivot mark) = naming s mark
entry_checks s (Home mark) = naming s mark
entry_checks s (Last count) = []

-- n marks more
abbrev pub with_marks : ℕ → State → State
with_marks zero s = s
with_marks (suc n) s = with_mark (with_marks n s)

-- the chart after that entry
abbrev pub entered : State → Frame → State
entered s (Head n) = with_marks n s
entered s (Entry leg) = record { legs = s.legs ++ leg ∷ []; pivots = s.pivots; home = s.home; worked = false }
entered s (Pivot mark) = with_pivot s mark true
entered s (Home mark) = with_home s mark
entered s (Last count) = s

-- no check refuses
abbrev pub Passed : List (Check Refusal) → Type 0
Passed [] = Unit {0}
Passed (check ∷ checks) = (check.condition → ⊥) × Passed checks

-- the first check whose condition holds refuses by this
abbrev pub RefusedBy : List (Check Refusal) → Refusal → Type 0
RefusedBy [] refusal = ⊥
RefusedBy (check ∷ checks) refusal =
    (check.condition × (refusal ≡ check.refusal)) ⊎ ((check.condition → ⊥) × RefusedBy checks refusal)

-- r and after are what the calls of a frame's entry bring: all are accepted, or one is refused
abbrev pub Enters : Frame → Result (Unit {0}) Refusal → State → State → Type 0
Enters frame r s after = MatchResult r (λ _. Passed (entry_checks s frame) × (after ≡ entered s frame)) (RefusedBy (entry_checks s frame))

-- after n frames, of which one is the latest, on a chart in the state s: each frame is in order, and the chart takes its entry
abbrev pub Sound : ℕ → Option Frame → State → List Frame → Type 0
Sound n latest s [] = Unit {0}
Sound n latest s (frame ∷ frames) = Follows n latest frame × Passed (entry_checks s frame) × Sound (suc n) (Some frame) (entered s frame) frames

-- the chart after all these entries
abbrev pub after : State → List Frame → State
after s [] = s
after s (frame ∷ frames) = after (entered s frame) frames
