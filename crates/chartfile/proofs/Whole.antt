-- The frames of a possible chart are in order, and a blank chart takes them all.
use Rattle.std.proofs.Common.{◌≡◌, ℕ, zero, suc, ◌+◌, ◌<◌, ◌≤◌, Bool, true, false, List, [], ◌∷◌, ◌++◌, map, length, set, replicate, Some, None, Option, sym, refl, ap, ◌∙◌, subst, inl, inr, append-nil, add-one, arith, length-append}
use lib.ListN.{length-replicate}
use lib.Seq.{append_snoc, set_at, get_or-append_seam}
use Rattle.std.proofs.lemmas.List.{get_or_append_left, replicate_more}
use Rattle.measure.specs.Legal.{Legal}
use Rattle.waterway.specs.declared.Leg.{Leg}
use Rattle.waterway.specs.Legs.{no_leg, leg_at, Ends, Joined}
use Rattle.chart.specs.State.{State, marks, blank}
use Rattle.chart.specs.Calls.{with_mark, entering}
use Rattle.chart.specs.Sound.{Single, HomeIn}
use Rattle.chart.specs.Possible.{Possible}
use Rattle.chartfile.specs.declared.frame.Frame.{Frame}
use Rattle.chartfile.specs.declared.frame.Frame.TheVariants.{Head, Entry, Pivot, Home, Last}
use Rattle.chartfile.specs.Order.{rank, Counts, Follows, latest_of, Complete}
use Rattle.chartfile.specs.Entries.{with_marks, Passed, Sound, after}
use Rattle.chartfile.specs.File.{marked_from, home_frames, frames, all_frames, unworked}
use Rattle.chartfile.proofs.Loaded.{latest_append, after_append, sound_append}

-- a chart that is not worked out
abbrev chart_of : List Leg → List Bool → Option ℕ → State
chart_of legs pivots home = record { legs = legs; pivots = pivots; home = home; worked = false }

-- a chart takes frames, and this one is left
abbrev Takes : ℕ → Option Frame → State → List Frame → State → Type 0
Takes n latest s frames t = Sound n latest s frames × (after s frames ≡ t)

takes_append : (n : ℕ) (l : Option Frame) (s t u : State) (fs gs : List Frame) (k : ℕ) → k ≡ n + length fs → Takes n l s fs t → Takes k (latest_of l fs) t gs u → Takes n l s (fs ++ gs) u
takes_append n l s t u fs gs k is first second =
    (sound_append n l s fs gs k is first.0 (subst (λ (v : State). Sound k (latest_of l fs) v gs) (sym first.1) second.0), after_append s fs gs ∙ ap (λ (v : State). after v gs) first.1 ∙ second.1)

-- the latest frame is of one of the first kinds
abbrev Below : ℕ → Option Frame → Type 0
Below k None = ⊥
Below k (Some frame) = rank frame < k

below_more : (k l : ℕ) (latest : Option Frame) → k ≤ l → Below k latest → Below l latest
below_more k l None more below = below
below_more k l (Some frame) more below = omega arith

below_map : {A : Type 0} (f : A → Frame) (k : ℕ) → ((a : A) → rank (f a) < k) → (latest : Option Frame) (items : List A) → Below k latest → Below k (latest_of latest (map f items))
below_map f k all latest [] below = below
below_map f k all latest (a ∷ items) below = below_map f k all (Some (f a)) items (all a)

below_home : (latest : Option Frame) (home : Option ℕ) → Below 3 latest → Below 4 (latest_of latest (home_frames home))
below_home latest None below = below_more 3 4 latest (omega arith) below
below_home latest (Some h) below = omega arith

follows : (n : ℕ) (latest : Option Frame) (frame : Frame) → Below (rank frame) latest → Counts n frame → Follows n latest frame
follows n None frame below counts = absurd below
follows n (Some latest) frame below counts = (inl below, counts)

-- The marks

only_marks : (n : ℕ) → with_marks n blank ≡ chart_of [] (replicate n false) None
only_marks zero = refl
only_marks (suc n) = ap with_mark (only_marks n) ∙ ap (λ (ps : List Bool). chart_of [] ps None) (replicate_more n false ∙ ap (λ (k : ℕ). replicate k false) (add-one n))

-- The legs

turned : (leg other : Leg) → Ends other leg.from leg.to → Ends leg other.from other.to
turned leg other (inl e) = inl (sym e.0, sym e.1)
turned leg other (inr e) = inr (sym e.1, sym e.0)

module _ (legs pre : List Leg) (leg : Leg) (rest : List Leg) (is : legs ≡ pre ++ leg ∷ rest) where
  inside : length pre < length legs
  inside = omega (arith, ap length is, length-append pre (leg ∷ rest))

  here : leg_at legs (length pre) ≡ leg
  here = rw is (get_or-append_seam pre leg rest no_leg)

  earlier : (k : ℕ) → k < length pre → leg_at legs k ≡ leg_at pre k
  earlier k before = rw is (get_or_append_left pre (leg ∷ rest) no_leg k before)

  not_joined : Single legs → Joined pre leg.from leg.to → ⊥
  not_joined single (k, before, ends) = rw (here, earlier k before) at (single k (length pre) before inside) (turned leg (leg_at pre k) ends)

module _ (s : State) (p : Possible s) (pivots : List Bool) (long : length pivots ≡ marks s) where
  leg_passes : (pre : List Leg) (leg : Leg) (rest : List Leg) → s.legs ≡ pre ++ leg ∷ rest → Passed (entering (chart_of pre pivots None) leg.from leg.to leg.length leg.locks)
  leg_passes pre leg rest is =
      let k = length pre in
      let within = inside s.legs pre leg rest is in
      let this = here s.legs pre leg rest is in
      let legal : Legal leg.length leg.locks = rw this at (p.charted.legal k within) in
      let from_in = rw this at (p.charted.from_in k within) in
      let to_in = rw this at (p.charted.to_in k within) in
      let few = p.legs_few in
      (λ off. elim off [ inl a ↦ omega arith | inr b ↦ omega arith ], (rw this at (p.parted k within), (λ no. no legal, (λ full. omega arith, (not_joined s.legs pre leg rest is p.single, tt)))))

  legs_taken : (pre rest : List Leg) → s.legs ≡ pre ++ rest → (n : ℕ) (latest : Option Frame) → ((k : ℕ) (leg : Leg) → Follows k latest (Entry leg)) → Takes n latest (chart_of pre pivots None) (map Entry rest) (chart_of s.legs pivots None)
  legs_taken pre [] is n latest takes = (tt, ap (λ (l : List Leg). chart_of l pivots None) (sym (is ∙ append-nil pre)))
  legs_taken pre (leg ∷ rest) is n latest takes =
      let more = legs_taken (pre ++ leg ∷ []) rest (is ∙ sym (append_snoc pre leg rest)) (suc n) (Some (Entry leg)) (λ k next. (inr tt, tt)) in
      ((takes n leg, leg_passes pre leg rest is, more.0), more.1)

-- The pivots

module _ (legs : List Leg) (pivots : List Bool) where
  pivots_taken : (front rest : List Bool) (k : ℕ) → pivots ≡ front ++ rest → length front ≡ k → (n : ℕ) (latest : Option Frame) → ((m mark : ℕ) → k ≤ mark → Follows m latest (Pivot mark)) → Takes n latest (chart_of legs (front ++ replicate (length rest) false) None) (map Pivot (marked_from k rest)) (chart_of legs pivots None)
  pivots_taken front [] k is long n latest takes = (tt, ap (λ (ps : List Bool). chart_of legs ps None) (sym is))
  pivots_taken front (true ∷ rest) k is long n latest takes =
      let left = replicate (length rest) false in
      let turn : set (front ++ false ∷ left) k true ≡ front ++ true ∷ [] ++ left = set_at front false left true k long ∙ sym (append_snoc front true left) in
      let more = pivots_taken (front ++ true ∷ []) rest (suc k) (is ∙ sym (append_snoc front true rest)) (omega (arith, length-append front (true ∷ []))) (suc n) (Some (Pivot k)) (λ m mark later. (inr (omega arith), tt)) in
      let same = subst (λ (ps : List Bool). Takes (suc n) (Some (Pivot k)) (chart_of legs ps None) (map Pivot (marked_from (suc k) rest)) (chart_of legs pivots None)) (sym turn) more in
      ((takes n k (omega arith), (λ off. omega (arith, length-append front (false ∷ left)), tt), same.0), same.1)
  pivots_taken front (false ∷ rest) k is long n latest takes =
      let left = replicate (length rest) false in
      subst (λ (ps : List Bool). Takes n latest (chart_of legs ps None) (map Pivot (marked_from (suc k) rest)) (chart_of legs pivots None)) (append_snoc front false left)
      (pivots_taken (front ++ false ∷ []) rest (suc k) (is ∙ sym (append_snoc front false rest)) (omega (arith, length-append front (false ∷ []))) n latest (λ m mark later. takes m mark (omega arith)))

-- Home

home_taken : (n : ℕ) (latest : Option Frame) (legs : List Leg) (pivots : List Bool) (home : Option ℕ) → HomeIn (length pivots) home → Below 3 latest → Takes n latest (chart_of legs pivots None) (home_frames home) (chart_of legs pivots home)
home_taken n latest legs pivots None inside below = (tt, refl)
home_taken n latest legs pivots (Some h) inside below = let on = inside h refl in ((follows n latest (Home h) below tt, (λ off. omega arith, tt), tt), refl)

-- All of them

module _ (s : State) where
  abbrev leg_frames : List Frame
  leg_frames = map Entry s.legs

  abbrev pivot_frames : List Frame
  pivot_frames = map Pivot (marked_from 0 s.pivots)

  abbrev after_legs : Option Frame
  after_legs = latest_of (Some (Head (marks s))) leg_frames

  abbrev after_pivots : Option Frame
  after_pivots = latest_of after_legs pivot_frames

  below_pivots : Below 2 after_legs
  below_pivots = below_map Entry 2 (λ leg. omega arith) (Some (Head (marks s))) s.legs (omega arith)

  below_homes : Below 3 after_pivots
  below_homes = below_map Pivot 3 (λ mark. omega arith) after_legs (marked_from 0 s.pivots) (below_more 2 3 after_legs (omega arith) below_pivots)

  below_last : Below 4 (latest_of None (frames s))
  below_last =
      subst (Below 4) (sym (latest_append (Some (Head (marks s))) leg_frames (pivot_frames ++ home_frames s.home) ∙ latest_append after_legs pivot_frames (home_frames s.home))) (below_home after_pivots s.home below_homes)

  frames_taken : Possible s → Takes 0 None blank (frames s) (unworked s)
  frames_taken p =
      let m = marks s in
      let few = p.charted.few in
      let bare = replicate m false in
      let legs = legs_taken s p bare (length-replicate m false) [] s.legs refl 1 (Some (Head m)) (λ k leg. (inl (omega arith), tt)) in
      let pivots = pivots_taken s.legs s.pivots [] s.pivots 0 refl refl (1 + length leg_frames) after_legs (λ k mark later. follows k after_legs (Pivot mark) below_pivots tt) in
      let home = home_taken (1 + length leg_frames + length pivot_frames) after_pivots s.legs s.pivots s.home p.home_in below_homes in
      let tail = takes_append (1 + length leg_frames) after_legs (chart_of s.legs bare None) (chart_of s.legs s.pivots None) (unworked s) pivot_frames (home_frames s.home) (1 + length leg_frames + length pivot_frames) refl pivots home in
      let body = takes_append 1 (Some (Head m)) (chart_of [] bare None) (chart_of s.legs bare None) (unworked s) leg_frames (pivot_frames ++ home_frames s.home) (1 + length leg_frames) refl legs tail in
      let all = subst (λ (t : State). Takes 1 (Some (Head m)) t (leg_frames ++ (pivot_frames ++ home_frames s.home)) (unworked s)) (sym (only_marks m)) body in
      ((refl, (λ many. omega arith, tt), all.0), all.1)

  all_taken : Possible s → Takes 0 None blank (all_frames s) (unworked s)
  all_taken p =
      let n = length (frames s) in
      takes_append 0 None blank (unworked s) (unworked s) (frames s) (Last n ∷ []) n (omega arith) (frames_taken p) ((follows n (latest_of None (frames s)) (Last n) below_last refl, tt, tt), refl)

  pub whole_sound : Possible s → Sound 0 None blank (all_frames s)
  whole_sound p = (all_taken p).0

  pub whole_after : Possible s → after blank (all_frames s) ≡ unworked s
  whole_after p = (all_taken p).1

  pub whole_complete : Complete (latest_of None (all_frames s))
  whole_complete = subst Complete (sym (latest_append None (frames s) (Last (length (frames s)) ∷ []))) refl
