-- The calls that change a chart: when each is refused, what it answers, and what it leaves.
use Rattle.std.specs.Prelude.{◌≡◌, ℕ, ◌≤◌, Bool, true, false, ◌⊎◌, List, [], ◌∷◌, ◌++◌, length, Some, Ok, Err, Result, slice_set}
use Rattle.measure.specs.Legal.{Legal}
use Rattle.waterway.specs.Legs.{leg_at, Joined}
use Rattle.chart.specs.declared.refusal.Refusal.{Refusal}
use Rattle.chart.specs.declared.refusal.Refusal.TheVariants.{MarksFull, NoSuchMark, SameEnds, OutOfLimits, LegsFull, JoinedAlready, NoSuchLeg, StandsAlready}
use Rattle.checks.specs.Checks.{Check, ◌refuses_by◌, Answers}
use Rattle.chart.specs.State.{State, marks}

-- an accepted call takes the chart on, and a refused one leaves it as it was
abbrev pub onward : {V : Type 0} → Result V Refusal → State → State → State
onward (Ok _) before next = next
onward (Err _) before next = before

-- r and after are what a call with these checks brings: the first refusal, and the chart as it was before;
-- or, where no check refuses, the value, and the chart as it is next
pub record Brings {V : Type 0} (checks : List (Check Refusal)) (value : V) (before next : State) (r : Result V Refusal) (after : State) : Type 0 where
  pub answer : Answers Err (λ a. a ≡ Ok value) checks r
  pub state : after ≡ onward r before next

-- Adding a mark: it gets the next number, and is no pivot

abbrev pub adding : State → List (Check Refusal)
adding s = ((256 ≤ marks s) refuses_by MarksFull) ∷ []

abbrev pub with_mark : State → State
with_mark s = record { legs = s.legs; pivots = s.pivots ++ false ∷ []; home = s.home; worked = false }

abbrev pub AddsMark : Result ℕ Refusal → State → State → Type 0
AddsMark r s = Brings (adding s) (marks s) s (with_mark s) r

-- Entering a leg between the marks a and b: it gets the next number, and is open

abbrev pub entering : State → ℕ → ℕ → ℕ → ℕ → List (Check Refusal)
entering s a b tenths locks =
    (((marks s ≤ a) ⊎ (marks s ≤ b)) refuses_by NoSuchMark) ∷ ((a ≡ b) refuses_by SameEnds) ∷ ((Legal tenths locks → ⊥) refuses_by OutOfLimits) ∷ ((1024 ≤ length s.legs) refuses_by LegsFull) ∷ (Joined s.legs a b refuses_by JoinedAlready) ∷ []

abbrev pub with_leg : State → ℕ → ℕ → ℕ → ℕ → State
with_leg s a b tenths locks = record {
  legs = s.legs ++ record { from = a; to = b; length = tenths; locks = locks; «open» = true } ∷ [];
  pivots = s.pivots;
  home = s.home;
  worked = false;
}

abbrev pub EntersLeg : ℕ → ℕ → ℕ → ℕ → Result ℕ Refusal → State → State → Type 0
EntersLeg a b tenths locks r s = Brings (entering s a b tenths locks) (length s.legs) s (with_leg s a b tenths locks) r

-- Closing and reopening the leg k: it must not be so already

abbrev pub turning : State → ℕ → Bool → List (Check Refusal)
turning s k to_open = ((length s.legs ≤ k) refuses_by NoSuchLeg) ∷ (((leg_at s.legs k).«open» ≡ to_open) refuses_by StandsAlready) ∷ []

abbrev pub with_leg_turned : State → ℕ → Bool → State
with_leg_turned s k to_open = let leg = leg_at s.legs k in record {
  legs = slice_set s.legs k (record { from = leg.from; to = leg.to; length = leg.length; locks = leg.locks; «open» = to_open });
  pivots = s.pivots;
  home = s.home;
  worked = false;
}

abbrev pub TurnsLeg : ℕ → Bool → Result (Unit {0}) Refusal → State → State → Type 0
TurnsLeg k to_open r s = Brings (turning s k to_open) tt s (with_leg_turned s k to_open) r

-- Naming a mark that is home from then on, or is a pivot or none from then on

abbrev pub naming : State → ℕ → List (Check Refusal)
naming s mark = ((marks s ≤ mark) refuses_by NoSuchMark) ∷ []

abbrev pub with_home : State → ℕ → State
with_home s mark = record { legs = s.legs; pivots = s.pivots; home = Some mark; worked = false }

abbrev pub SetsHome : ℕ → Result (Unit {0}) Refusal → State → State → Type 0
SetsHome mark r s = Brings (naming s mark) tt s (with_home s mark) r

-- a chart that is worked out stays so
abbrev pub with_pivot : State → ℕ → Bool → State
with_pivot s mark is_pivot = record { legs = s.legs; pivots = slice_set s.pivots mark is_pivot; home = s.home; worked = s.worked }

abbrev pub SetsPivot : ℕ → Bool → Result (Unit {0}) Refusal → State → State → Type 0
SetsPivot mark is_pivot r s = Brings (naming s mark) tt s (with_pivot s mark is_pivot) r
