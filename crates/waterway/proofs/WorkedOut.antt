-- The worked waterway: what the definitions give, by the search that computes.
use Rattle.std.proofs.Common.{◌≡◌, ℕ, zero, suc, ◌<◌, Bool, true, false, ◌&&◌, ◌||◌, T, eqb, ltb, ◌⊎◌, [], ◌∷◌, Some, Decides, refl, ap, inl, inr, arith}
use native.Mathlib.Decide.{ℕ_discrete, dec_lt}
use Rattle.std.specs.List.{ContainsAt as Has}
use Rattle.std.proofs.ByRecursion.{All-get_or}
use Rattle.std.proofs.lemmas.Bool.{eqb-true, cases_Bool}
use Rattle.std.proofs.lemmas.Bool.Decides.{Decides-eqb, Decides-ltb, Decides-and, Decides-or}
use Rattle.measure.specs.Kind.{AtMost}
use Rattle.measure.specs.Legal.{Legal}
use Rattle.measure.specs.declared.tenths.Tenths.{Tenths}
use Rattle.measure.specs.declared.passage.Passage.{Passage}
use Rattle.measure.specs.Tenths.{of, in_tenths, in_tenths_lawful}
use Rattle.measure.specs.Passage.{of as passage, locks_first, locks_first_lawful}
use Rattle.measure.proofs.Sums.{some_injective}
use Rattle.waterway.specs.declared.Leg.{Leg}
use Rattle.waterway.specs.Legs.{no_leg, leg_at, Ends}
use Rattle.waterway.specs.Ways.{toll, Dist, Apart, Tells, Sound}
use Rattle.waterway.specs.Priced.{Charted}
use Rattle.waterway.specs.Hosts.{Host, InBall, Ball}
use Rattle.waterway.specs.Counts.{Lists}
use Rattle.waterway.specs.Routes.{Nearer, StepHome, at_home, onward}
use Rattle.waterway.specs.Worked.{worked, pivot, by_length, by_locks, WorkedByLength, WorkedByLocks, WorkedClosed}
use Rattle.waterway.proofs.Priced.{priced_sound}
use Rattle.waterway.proofs.Rounds.{rounds, offers, over, lesser, rounds_tell}
use Rattle.waterway.proofs.Cuts.{dist_unique}
use Rattle.waterway.proofs.Counted.{has_here, has_there, has_cases}
use Rattle.waterway.proofs.Hosts.{host_unique}

charted : (is_open : Bool) → Charted (worked is_open) 5
charted is_open = record {
  few = omega arith;
  legal = λ k lt. All-get_or (λ (l : Leg). Legal l.length l.locks) (worked is_open) k no_leg lt (omega arith);
  from_in = λ k lt. All-get_or (λ (l : Leg). l.from < 5) (worked is_open) k no_leg lt (omega arith);
  to_in = λ k lt. All-get_or (λ (l : Leg). l.to < 5) (worked is_open) k no_leg lt (omega arith);
}

-- By length

sound : (is_open : Bool) → Sound (by_length is_open) 5
sound is_open = priced_sound in_tenths (λ length _. of length) (charted is_open) in_tenths_lawful (λ length locks h. omega (arith, h.far))

abbrev shorter : Tenths → Tenths → Bool
shorter a b = ltb a.tenths b.tenths

told : (is_open : Bool) (u v : ℕ) → Tells (by_length is_open) u v (rounds (by_length is_open) shorter v 5 u)
told is_open u v = rounds_tell (sound is_open) shorter (λ a b. Decides-ltb a.tenths b.tenths) v u

-- the distance of any two marks that have a way is computed
length_of : {u v : ℕ} {c : Tenths} → rounds (by_length true) shorter v 5 u ≡ Some c → Dist (by_length true) u v c
length_of {u} {v} {c} e = ((told true u v).some c).0 e

pivot_is : (p : ℕ) → T (pivot p) → (p ≡ 0) ⊎ (p ≡ 3)
pivot_is p t = elim (cases_Bool (eqb p 0)) [
  | inl e ↦ inl (eqb-true p 0 e)
  | inr e ↦ elim (cases_Bool (eqb p 3)) [ inl f ↦ inr (eqb-true p 3 f) | inr f ↦ absurd (rw (e, f) at t) ]
]

-- with home and the pivot 3 at these distances from a mark, one of them is its host
host_home : {v : ℕ} {a b : Tenths} → Dist (by_length true) v 0 a → Dist (by_length true) v 3 b → in_tenths.Below a b → Host (by_length true) 5 pivot v 0 a
host_home D E l = record {
  inside = omega arith;
  is_pivot = tt;
  dist = D;
  nearest = λ p d lt is F. elim (pivot_is p is) [
    | inl e ↦ inr (dist_unique (sound true) D (rw e at F), omega arith)
    | inr e ↦ inl (rw (dist_unique (sound true) E (rw e at F)) at l)
  ];
}

host_three : {v : ℕ} {a b : Tenths} → Dist (by_length true) v 0 a → Dist (by_length true) v 3 b → in_tenths.Below b a → Host (by_length true) 5 pivot v 3 b
host_three D E l = record {
  inside = omega arith;
  is_pivot = tt;
  dist = E;
  nearest = λ p d lt is F. elim (pivot_is p is) [
    | inl e ↦ inl (rw (dist_unique (sound true) D (rw e at F)) at l)
    | inr e ↦ inr (dist_unique (sound true) E (rw e at F), omega arith)
  ];
}

-- a mark as far off as the host, or farther, is not in the ball
beyond : {v u w : ℕ} {a b : Tenths} → Host (by_length true) 5 pivot v u a → Dist (by_length true) v w b → AtMost in_tenths a b → Ball (by_length true) 5 pivot v w → ⊥
beyond H E far B = far (rw ((host_unique (sound true) pivot B.1.is_host H).1, dist_unique (sound true) B.1.dist E) at B.1.nearer)

five : (P : ℕ → Type 0) → P 0 → P 1 → P 2 → P 3 → P 4 → (x : ℕ) → x < 5 → P x
five P a b c d e zero lt = a
five P a b c d e (suc zero) lt = b
five P a b c d e (suc (suc zero)) lt = c
five P a b c d e (suc (suc (suc zero))) lt = d
five P a b c d e (suc (suc (suc (suc zero)))) lt = e
five P a b c d e (suc (suc (suc (suc (suc x))))) lt = absurd (omega arith)

-- Only leg 3 ends at mark 3, and leg 0 does not end at mark 2

not_at_three : (j x : ℕ) → j < 3 → Ends (leg_at (worked true) j) 3 x → ⊥
not_at_three zero x lt (inl e) = let f = e.0 in omega arith
not_at_three zero x lt (inr e) = let f = e.1 in omega arith
not_at_three (suc zero) x lt (inl e) = let f = e.0 in omega arith
not_at_three (suc zero) x lt (inr e) = let f = e.1 in omega arith
not_at_three (suc (suc zero)) x lt (inl e) = let f = e.0 in omega arith
not_at_three (suc (suc zero)) x lt (inr e) = let f = e.1 in omega arith
not_at_three (suc (suc (suc j))) x lt e = omega arith

not_at_two : (x : ℕ) → Ends (leg_at (worked true) 0) 2 x → ⊥
not_at_two x (inl e) = let f = e.0 in omega arith
not_at_two x (inr e) = let f = e.1 in omega arith

-- Distances, each computed

record Computed : Type 0 where
  home_home : Dist (by_length true) 0 0 (of 0)
  home_1 : Dist (by_length true) 0 1 (of 30)
  home_2 : Dist (by_length true) 0 2 (of 50)
  home_3 : Dist (by_length true) 0 3 (of 65)
  home_4 : Apart (by_length true) 0 4
  one_home : Dist (by_length true) 1 0 (of 30)
  one_one : Dist (by_length true) 1 1 (of 0)
  one_2 : Dist (by_length true) 1 2 (of 20)
  one_3 : Dist (by_length true) 1 3 (of 35)
  one_4 : Apart (by_length true) 1 4
  two_home : Dist (by_length true) 2 0 (of 50)
  two_1 : Dist (by_length true) 2 1 (of 20)
  two_two : Dist (by_length true) 2 2 (of 0)
  two_3 : Dist (by_length true) 2 3 (of 15)
  two_4 : Apart (by_length true) 2 4

computed : Computed
unfolding rounds offers over lesser toll
computed = record {
  home_home = length_of refl;
  home_1 = length_of refl;
  home_2 = length_of refl;
  home_3 = length_of refl;
  home_4 = (told true 0 4).none.0 refl;
  one_home = length_of refl;
  one_one = length_of refl;
  one_2 = length_of refl;
  one_3 = length_of refl;
  one_4 = (told true 1 4).none.0 refl;
  two_home = length_of refl;
  two_1 = length_of refl;
  two_two = length_of refl;
  two_3 = length_of refl;
  two_4 = (told true 2 4).none.0 refl;
}

open computed use {home_home, home_1, home_2, home_3, home_4, one_home, one_one, one_2, one_3, one_4, two_home, two_1, two_two, two_3, two_4}

-- Hosts and balls

host_1 : Host (by_length true) 5 pivot 1 0 (of 30)
host_1 = host_home one_home one_3 (omega arith)

host_2 : Host (by_length true) 5 pivot 2 3 (of 15)
host_2 = host_three two_home two_3 (omega arith)

centre_1 : InBall (by_length true) 5 pivot 1 1 (of 0)
centre_1 = record { no_pivot = refl; dist = one_one; host = 0; far = of 30; is_host = host_1; nearer = omega arith }

near_1 : InBall (by_length true) 5 pivot 1 2 (of 20)
near_1 = record { no_pivot = refl; dist = one_2; host = 0; far = of 30; is_host = host_1; nearer = omega arith }

centre_2 : InBall (by_length true) 5 pivot 2 2 (of 0)
centre_2 = record { no_pivot = refl; dist = two_two; host = 3; far = of 15; is_host = host_2; nearer = omega arith }

apart_ball : {v w : ℕ} → Apart (by_length true) v w → Ball (by_length true) 5 pivot v w → ⊥
apart_ball a B = a B.1.dist.ks B.1.dist.ms B.1.dist.way

members_1 : Lists (Ball (by_length true) 5 pivot 1) 5 (1 ∷ 2 ∷ [])
members_1 = record {
  rising = ((omega arith, tt), (tt, tt));
  only = λ x h. elim (has_cases 1 x (2 ∷ []) h) [
    | inl e ↦ (omega arith, rw (← e) (of 0, centre_1))
    | inr g ↦ elim (has_cases 2 x [] g) [ inl e ↦ (omega arith, rw (← e) (of 20, near_1)) | inr none ↦ (let lt = none.1 in absurd (omega arith)) ]
  ];
  every = five (λ x. Ball (by_length true) 5 pivot 1 x → Has (1 ∷ 2 ∷ []) x)
      (λ B. absurd (beyond host_1 one_home (λ l. omega arith) B))
      (λ B. has_here 1 (2 ∷ []))
      (λ B. has_there 1 2 (2 ∷ []) (has_here 2 []))
      (λ B. absurd (beyond host_1 one_3 (λ l. omega arith) B))
      (λ B. absurd (apart_ball one_4 B));
}

members_2 : Lists (Ball (by_length true) 5 pivot 2) 5 (2 ∷ [])
members_2 = record {
  rising = (tt, tt);
  only = λ x h. elim (has_cases 2 x [] h) [ inl e ↦ (omega arith, rw (← e) (of 0, centre_2)) | inr none ↦ (let lt = none.1 in absurd (omega arith)) ];
  every = five (λ x. Ball (by_length true) 5 pivot 2 x → Has (2 ∷ []) x)
      (λ B. absurd (beyond host_2 two_home (λ l. omega arith) B))
      (λ B. absurd (beyond host_2 two_1 (λ l. omega arith) B))
      (λ B. has_here 2 [])
      (λ B. absurd (beyond host_2 two_3 (λ l. omega arith) B))
      (λ B. absurd (apart_ball two_4 B));
}

-- The route

from_3 : StepHome (by_length true) 0 3 3 2
unfolding toll
from_3 = record {
  away = λ e. omega arith;
  nearer = record { joins = record { stands = omega arith; free = tt; ends = inr (refl, refl) }; near = of 50; far = of 65; to_w = home_2; to_v = home_3; adds = refl };
  lowest = λ j x z. elim (dec_lt j 3) [ yes lt ↦ absurd (not_at_three j x lt z.joins.ends) | no h ↦ omega arith ];
}

from_2 : StepHome (by_length true) 0 2 1 1
unfolding toll
from_2 = record {
  away = λ e. omega arith;
  nearer = record { joins = record { stands = omega arith; free = tt; ends = inr (refl, refl) }; near = of 30; far = of 50; to_w = home_1; to_v = home_2; adds = refl };
  lowest = λ j x z. elim (ℕ_discrete j 0) [ yes e ↦ absurd (not_at_two x (rw e at z.joins.ends)) | no h ↦ omega arith ];
}

from_1 : StepHome (by_length true) 0 1 0 0
unfolding toll
from_1 = record {
  away = λ e. omega arith;
  nearer = record { joins = record { stands = omega arith; free = tt; ends = inr (refl, refl) }; near = of 0; far = of 30; to_w = home_home; to_v = home_1; adds = refl };
  lowest = λ j x z. omega arith;
}

pub worked_by_length : WorkedByLength
worked_by_length = record {
  to_1 = home_1;
  to_2 = home_2;
  to_3 = home_3;
  to_4 = home_4;
  host_1 = host_1;
  ball_1 = record { members = members_1; costs = (centre_1, (near_1, tt)) };
  host_2 = host_2;
  ball_2 = record { members = members_2; costs = (centre_2, tt) };
  route_3 = onward from_3 (onward from_2 (onward from_1 at_home));
}

pub worked_closed : WorkedClosed
unfolding rounds offers over lesser toll
worked_closed = record { to_2 = ((told false 0 2).some (of 70)).0 refl; to_3 = ((told false 0 3).some (of 85)).0 refl }

-- By locks first

locks_sound : Sound by_locks 5
locks_sound = priced_sound locks_first (λ length locks. passage locks length) (charted true) locks_first_lawful (λ length locks h. omega (arith, h.far, h.few))

abbrev fewer : Passage → Passage → Bool
fewer a b = ltb a.locks b.locks || (eqb a.locks b.locks && ltb a.length b.length)

fewer_sharp : (a b : Passage) → Decides (fewer a b) (locks_first.Below a b)
fewer_sharp a b = Decides-or _ _ (Decides-ltb a.locks b.locks)
    (Decides-and _ _ (Decides-eqb a.locks b.locks) (Decides-ltb a.length b.length))

passage_of : {u v : ℕ} {c : Passage} → rounds by_locks fewer v 5 u ≡ Some c → Dist by_locks u v c
passage_of {u} {v} {c} e = ((rounds_tell locks_sound fewer fewer_sharp v u).some c).0 e

pub worked_by_locks : WorkedByLocks
unfolding rounds offers over lesser toll
worked_by_locks = record { to_2 = to_2; to_3 = to_3; route_3 = onward from_3 (onward from_2 at_home) }
  where
    to_1 : Dist by_locks 0 1 (passage 0 30)
    to_1 = passage_of refl

    to_2 : Dist by_locks 0 2 (passage 0 70)
    to_2 = passage_of refl

    to_3 : Dist by_locks 0 3 (passage 0 85)
    to_3 = passage_of refl

    from_3 : StepHome by_locks 0 3 3 2
    from_3 = record {
      away = λ e. omega arith;
      nearer = record { joins = record { stands = omega arith; free = tt; ends = inr (refl, refl) }; near = passage 0 70; far = passage 0 85; to_w = to_2; to_v = to_3; adds = refl };
      lowest = λ j x z. elim (dec_lt j 3) [ yes lt ↦ absurd (not_at_three j x lt z.joins.ends) | no h ↦ omega arith ];
    }

    -- over leg 1 mark 2 is two locks away
    not_over_one : (x : ℕ) → Nearer by_locks 0 2 1 x → ⊥
    not_over_one x z =
        let ends = z.joins.ends in
        let one : x ≡ 1 = omega arith in
        let near = dist_unique locks_sound (rw one at z.to_w) to_1 in
        let far = dist_unique locks_sound z.to_v to_2 in
        let same : passage 2 50 ≡ passage 0 70 = some_injective refl (rw (near, far) at z.adds) in
        let locks = ap (λ (p : Passage). p.locks) same in
        omega arith

    from_2 : StepHome by_locks 0 2 2 0
    from_2 = record {
      away = λ e. omega arith;
      nearer = record { joins = record { stands = omega arith; free = tt; ends = inr (refl, refl) }; near = passage 0 0; far = passage 0 70; to_w = passage_of refl; to_v = to_2; adds = refl };
      lowest = λ j x z. elim (ℕ_discrete j 0) [
        | yes e ↦ absurd (not_at_two x (rw e at z.joins.ends))
        | no h ↦ elim (ℕ_discrete j 1) [ yes e ↦ absurd (not_over_one x (rw e at z)) | no g ↦ omega arith ]
      ];
    }
