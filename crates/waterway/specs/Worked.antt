-- One waterway, worked: the marks 0 to 4, home 0, and the pivots 0 and 3.
use Rattle.std.specs.Prelude.{ℕ, Bool, true, false, ◌||◌, List, [], ◌∷◌, ◌==◌}
use Rattle.measure.specs.Tenths.{of, in_tenths}
use Rattle.measure.specs.Passage.{of as passage, locks_first}
use Rattle.waterway.specs.declared.Leg.{Leg}
use Rattle.waterway.specs.Ways.{Water, Dist, Apart}
use Rattle.waterway.specs.Priced.{water}
use Rattle.waterway.specs.Hosts.{Host}
use Rattle.waterway.specs.Near.{BallRows}
use Rattle.waterway.specs.Routes.{Route}

abbrev pub leg : ℕ → ℕ → ℕ → ℕ → Bool → Leg
leg from to length locks is_open = record { from = from; to = to; length = length; locks = locks; «open» = is_open }

-- its legs, with leg 1 open or closed
abbrev pub worked : Bool → List Leg
worked is_open = leg 0 1 30 0 true ∷ leg 1 2 20 2 is_open ∷ leg 0 2 70 0 true ∷ leg 2 3 15 0 true ∷ []

abbrev pub pivot : ℕ → Bool
pivot v = v == 0 || v == 3

abbrev pub by_length : Bool → Water in_tenths
by_length is_open = water in_tenths (λ length _. of length) (worked is_open)

abbrev pub by_locks : Water locks_first
by_locks = water locks_first (λ length locks. passage locks length) (worked true)

pub record WorkedByLength : Type 0 where
  pub to_1 : Dist (by_length true) 0 1 (of 30)
  pub to_2 : Dist (by_length true) 0 2 (of 50)
  pub to_3 : Dist (by_length true) 0 3 (of 65)
  pub to_4 : Apart (by_length true) 0 4
  pub host_1 : Host (by_length true) 5 pivot 1 0 (of 30)
  pub ball_1 : BallRows (by_length true) 5 pivot 1 ((1, of 0) ∷ (2, of 20) ∷ [])
  pub host_2 : Host (by_length true) 5 pivot 2 3 (of 15)
  pub ball_2 : BallRows (by_length true) 5 pivot 2 ((2, of 0) ∷ [])
  pub route_3 : Route (by_length true) 0 3 (0 ∷ 1 ∷ 3 ∷ [])

pub record WorkedByLocks : Type 0 where
  pub to_2 : Dist by_locks 0 2 (passage 0 70)
  pub to_3 : Dist by_locks 0 3 (passage 0 85)
  pub route_3 : Route by_locks 0 3 (2 ∷ 3 ∷ [])

-- with leg 1 closed
pub record WorkedClosed : Type 0 where
  pub to_2 : Dist (by_length false) 0 2 (of 70)
  pub to_3 : Dist (by_length false) 0 3 (of 85)
