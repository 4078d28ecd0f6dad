-- The law over lists of calls.
use Rattle.std.specs.Prelude.{◌≡◌, true, false, List, [], ◌∷◌, length, Ok, Err, Result}
use Rattle.chart.specs.declared.refusal.Refusal.{Refusal}
use Rattle.checks.specs.Checks.{Check, Answers}
use Rattle.chart.specs.State.{State, marks}
use Rattle.chart.specs.Calls.{onward, adding, with_mark, entering, with_leg, turning, with_leg_turned, naming, with_home, with_pivot}
use Rattle.calls.specs.declared.call.Call.{Call}
use Rattle.calls.specs.declared.call.Call.TheVariants.{AddMark, EnterLeg, Close, Reopen, SetHome, SetPivot}
use Rattle.calls.specs.declared.call.Answer.{Answer}
use Rattle.calls.specs.declared.call.Answer.TheVariants.{Mark, Leg, Closed, Reopened, Home, Pivot}

-- when a call is refused
abbrev pub checks : State → Call → List (Check Refusal)
checks s AddMark = adding s
checks s (EnterLeg a b tenths locks) = entering s a b tenths locks
checks s (Close leg) = turning s leg false
checks s (Reopen leg) = turning s leg true
checks s (SetHome mark) = naming s mark
checks s (SetPivot mark pivot) = naming s mark

-- what it is answered otherwise
abbrev pub given : State → Call → Answer
given s AddMark = Mark (marks s)
given s (EnterLeg a b tenths locks) = Leg (length s.legs)
given s (Close leg) = Closed leg
given s (Reopen leg) = Reopened leg
given s (SetHome mark) = Home mark
given s (SetPivot mark pivot) = Pivot mark pivot

-- and the chart that it then leaves
abbrev pub next : State → Call → State
next s AddMark = with_mark s
next s (EnterLeg a b tenths locks) = with_leg s a b tenths locks
next s (Close leg) = with_leg_turned s leg false
next s (Reopen leg) = with_leg_turned s leg true
next s (SetHome mark) = with_home s mark
next s (SetPivot mark pivot) = with_pivot s mark pivot

-- r is the right answer to the call on a chart in the state s
abbrev pub Right : State → Call → Result Answer Refusal → Type 0
Right s call = Answers Err (λ r. r ≡ Ok (given s call)) (checks s call)

-- each call has one answer, which is right in the state that the accepted calls before it leave, from s on
abbrev pub Told : State → List Call → List (Result Answer Refusal) → Type 0
Told s [] [] = Unit {0}
Told s [] (r ∷ rs) = ⊥
Told s (call ∷ calls) [] = ⊥
Told s (call ∷ calls) (r ∷ rs) = Right s call r × Told (onward r s (next s call)) calls rs
