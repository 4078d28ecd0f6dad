-- Sound frames to the end of a file are those of the chart that they leave.
use Rattle.std.proofs.Common.{◌≡◌, ℕ, zero, suc, ◌+◌, ◌<◌, ◌≤◌, Bool, true, false, ◌⊎◌, List, [], ◌∷◌, ◌++◌, map, length, get_or, set, Some, None, sym, refl, ap, ◌∙◌, inl, inr, append_assoc, append-nil, arith, length-append, length-set}
use native.Mathlib.Decide.{dec_lt}
use Rattle.std.proofs.lemmas.List.{map_push}
use Rattle.waterway.specs.declared.Leg.{Leg}
use Rattle.chart.specs.State.{State, marks, blank}
use Rattle.chartfile.specs.declared.frame.Frame.{Frame}
use Rattle.chartfile.specs.declared.frame.Frame.TheVariants.{Head, Entry, Pivot, Home, Last}
use Rattle.chartfile.specs.Frames.{lines}
use Rattle.chartfile.specs.File.{marked_from, frames, all_frames, file}
use Rattle.chartfile.specs.Order.{rank, Repeats, Follows, Complete, latest_of}
use Rattle.chartfile.specs.Entries.{with_marks, entry_checks, entered, Passed, Sound, after}
use Rattle.chartfile.specs.Loading.{Loaded}
use Rattle.chartfile.proofs.Marking.{marks_with_marks}

-- no mark from k on is marked
abbrev Above : ℕ → List Bool → Type 0
Above k pivots = (j : ℕ) → k ≤ j → get_or pivots j false ≡ false

none_marked : (b : ℕ) (pivots : List Bool) → Above 0 pivots → marked_from b pivots ≡ []
none_marked b [] above = refl
none_marked b (true ∷ pivots) above = let here : true ≡ false = above 0 (omega arith) in let z : ◌≡◌ {A = ℕ} 0 1 = cc in absurd (omega arith)
none_marked b (false ∷ pivots) above = none_marked (suc b) pivots (λ j h. above (suc j) (omega arith))

-- a pivot above all others comes last
marked_set : (b i : ℕ) (pivots : List Bool) → i < length pivots → Above i pivots → marked_from b (set pivots i true) ≡ marked_from b pivots ++ (b + i) ∷ []
marked_set b i [] inside above = absurd (omega arith)
marked_set b zero (true ∷ pivots) inside above = let here : true ≡ false = above 0 (omega arith) in let z : ◌≡◌ {A = ℕ} 0 1 = cc in absurd (omega arith)
marked_set b zero (false ∷ pivots) inside above =
    let rest = none_marked (suc b) pivots (λ j h. above (suc j) (omega arith)) in
    let same : b + 0 ≡ b = omega arith in
    rw (rest, same)
marked_set b (suc i) (true ∷ pivots) inside above =
    let same : b + suc i ≡ suc b + i = omega arith in
    rw same (ap (λ (l : List ℕ). b ∷ l) (marked_set (suc b) i pivots (omega arith) (λ j h. above (suc j) (omega arith))))
marked_set b (suc i) (false ∷ pivots) inside above =
    let same : b + suc i ≡ suc b + i = omega arith in
    rw same (marked_set (suc b) i pivots (omega arith) (λ j h. above (suc j) (omega arith)))

above_set : (i : ℕ) (pivots : List Bool) → Above i pivots → Above (suc i) (set pivots i true)
above_set i [] above j h = above j (omega arith)
above_set zero (p ∷ pivots) above zero h = absurd (omega arith)
above_set zero (p ∷ pivots) above (suc j) h = above (suc j) (omega arith)
above_set (suc i) (p ∷ pivots) above zero h = absurd (omega arith)
above_set (suc i) (p ∷ pivots) above (suc j) h = above_set i pivots (λ k g. above (suc k) (omega arith)) j (omega arith)

-- What is still unwritten when a frame was the latest

abbrev Tail : Frame → State → Type 0
Tail (Head n) s = Above 0 s.pivots × (s.home ≡ None)
Tail (Entry leg) s = Above 0 s.pivots × (s.home ≡ None)
Tail (Pivot mark) s = Above (suc mark) s.pivots × (s.home ≡ None)
Tail (Home mark) s = Unit {0}
Tail (Last count) s = Unit {0}

-- the frames that a chart has when this one was the latest
abbrev written : Frame → State → List Frame
written (Head n) s = frames s
written (Entry leg) s = frames s
written (Pivot mark) s = frames s
written (Home mark) s = frames s
written (Last count) s = all_frames s

record Stage (done : List Frame) (latest : Frame) (s : State) : Type 0 where
  is : done ≡ written latest s
  idle : s.worked ≡ false
  tail : Tail latest s

before_last : (f : Frame) (s : State) → rank f < 4 → written f s ≡ frames s
before_last (Head n) s h = refl
before_last (Entry leg) s h = refl
before_last (Pivot mark) s h = refl
before_last (Home mark) s h = refl
before_last (Last count) s h = absurd (omega arith)

homeless : (f : Frame) (s : State) → rank f < 3 → Tail f s → s.home ≡ None
homeless (Head n) s h tail = tail.1
homeless (Entry leg) s h tail = tail.1
homeless (Pivot mark) s h tail = tail.1
homeless (Home mark) s h tail = absurd (omega arith)
homeless (Last count) s h tail = absurd (omega arith)

unmarked : (f : Frame) (s : State) → rank f < 2 → Tail f s → Above 0 s.pivots
unmarked (Head n) s h tail = tail.0
unmarked (Entry leg) s h tail = tail.0
unmarked (Pivot mark) s h tail = absurd (omega arith)
unmarked (Home mark) s h tail = absurd (omega arith)
unmarked (Last count) s h tail = absurd (omega arith)

-- what each kind may follow
head_follows : (f : Frame) (n : ℕ) → (rank f < 0) ⊎ Repeats f (Head n) → ⊥
head_follows f n (inl h) = omega arith
head_follows (Head m) n (inr h) = h
head_follows (Entry leg) n (inr h) = h
head_follows (Pivot mark) n (inr h) = h
head_follows (Home mark) n (inr h) = h
head_follows (Last count) n (inr h) = h

leg_follows : (f : Frame) (leg : Leg) → (rank f < 1) ⊎ Repeats f (Entry leg) → rank f < 2
leg_follows f leg (inl h) = omega arith
leg_follows (Entry before) leg (inr h) = omega arith
leg_follows (Head n) leg (inr h) = absurd h
leg_follows (Pivot mark) leg (inr h) = absurd h
leg_follows (Home mark) leg (inr h) = absurd h
leg_follows (Last count) leg (inr h) = absurd h

pivot_follows : (f : Frame) (mark : ℕ) (s : State) → (rank f < 2) ⊎ Repeats f (Pivot mark) → Tail f s → (rank f < 3) × Above mark s.pivots
pivot_follows f mark s (inl h) tail = let above = unmarked f s h tail in (omega arith, λ j k. above j (omega arith))
pivot_follows (Pivot before) mark s (inr h) tail = (omega arith, λ j k. tail.0 j (omega arith))
pivot_follows (Head n) mark s (inr h) tail = absurd h
pivot_follows (Entry leg) mark s (inr h) tail = absurd h
pivot_follows (Home before) mark s (inr h) tail = absurd h
pivot_follows (Last count) mark s (inr h) tail = absurd h

last_follows : (f : Frame) (count : ℕ) → (rank f < 4) ⊎ Repeats f (Last count) → rank f < 4
last_follows f count (inl h) = h
last_follows (Head n) count (inr h) = absurd h
last_follows (Entry leg) count (inr h) = absurd h
last_follows (Pivot mark) count (inr h) = absurd h
last_follows (Home mark) count (inr h) = absurd h
last_follows (Last before) count (inr h) = absurd h

home_follows : (f : Frame) (mark : ℕ) → (rank f < 3) ⊎ Repeats f (Home mark) → rank f < 3
home_follows f mark (inl h) = h
home_follows (Head n) mark (inr h) = absurd h
home_follows (Entry leg) mark (inr h) = absurd h
home_follows (Pivot before) mark (inr h) = absurd h
home_follows (Home before) mark (inr h) = absurd h
home_follows (Last count) mark (inr h) = absurd h

-- The first frame

bare_marks : (n : ℕ) → ((with_marks n blank).legs ≡ []) × Above 0 (with_marks n blank).pivots × ((with_marks n blank).home ≡ None) × ((with_marks n blank).worked ≡ false)
bare_marks zero = (refl, λ j h. refl, refl, refl)
bare_marks (suc n) = let before = bare_marks n in (before.0, λ j h. above_push (with_marks n blank).pivots j (λ k. before.1 k (omega arith)), before.2, refl)
  where
    above_push : (pivots : List Bool) (j : ℕ) → ((k : ℕ) → get_or pivots k false ≡ false) → get_or (pivots ++ false ∷ []) j false ≡ false
    above_push [] zero all = refl
    above_push [] (suc j) all = refl
    above_push (p ∷ pivots) zero all = all 0
    above_push (p ∷ pivots) (suc j) all = above_push pivots j (λ k. all (suc k))

head_stage : (n : ℕ) → Stage (Head n ∷ []) (Head n) (with_marks n blank)
head_stage n =
    let bare = bare_marks n in
    let many : marks (with_marks n blank) ≡ n = marks_with_marks n blank ∙ omega arith in
    let none = none_marked 0 (with_marks n blank).pivots bare.1 in
    let legs = bare.0 in
    let home = bare.2 in
    record { is = rw (many, legs, none, home); idle = bare.3; tail = (bare.1, home) }

-- One frame more

abbrev front : State → List Frame
front s = Head (marks s) ∷ map Entry s.legs

-- frames at the end of a list in three parts
regroup : (xs ys : List Frame) (f : Frame) → (xs ++ (ys ++ [])) ++ f ∷ [] ≡ xs ++ (ys ++ f ∷ [])
regroup xs ys f = rw (append-nil ys, append_assoc xs ys (f ∷ []))

module _ (done : List Frame) (p : Frame) (s : State) (stage : Stage done p s) where
  so_far : rank p < 4 → done ≡ frames s
  so_far h = stage.is ∙ before_last p s h

  leg_stage : (leg : Leg) → rank p < 2 → Stage (done ++ Entry leg ∷ []) (Entry leg) (entered s (Entry leg))
  leg_stage leg h =
      let above = unmarked p s h stage.tail in
      let home = homeless p s (omega arith) stage.tail in
      let none = none_marked 0 s.pivots above in
      let old : frames s ≡ front s = rw (none, home) (append-nil (front s)) in
      let new : frames (entered s (Entry leg)) ≡ front s ++ Entry leg ∷ [] = rw (none, home) (append-nil (front (entered s (Entry leg))) ∙ ap (λ (l : List Frame). Head (marks s) ∷ l) (map_push Entry s.legs leg)) in
      record { is = ap (λ (l : List Frame). l ++ Entry leg ∷ []) (so_far (omega arith) ∙ old) ∙ sym new; idle = refl; tail = (above, home) }

  pivot_stage : (mark : ℕ) → rank p < 3 → Above mark s.pivots → mark < marks s → Stage (done ++ Pivot mark ∷ []) (Pivot mark) (entered s (Pivot mark))
  pivot_stage mark h above inside =
      let home = homeless p s h stage.tail in
      let marked : marked_from 0 (set s.pivots mark true) ≡ marked_from 0 s.pivots ++ mark ∷ [] = marked_set 0 mark s.pivots inside above ∙ ap (λ (n : ℕ). marked_from 0 s.pivots ++ n ∷ []) (omega arith) in
      let many = length-set s.pivots mark true in
      let old : frames s ≡ front s ++ (map Pivot (marked_from 0 s.pivots) ++ []) = rw home in
      let new : frames (entered s (Pivot mark)) ≡ front s ++ (map Pivot (marked_from 0 s.pivots) ++ Pivot mark ∷ []) = rw (home, many, marked, append-nil, map_push Pivot (marked_from 0 s.pivots) mark) in
      record {
        is = ap (λ (l : List Frame). l ++ Pivot mark ∷ []) (so_far (omega arith) ∙ old) ∙ regroup (front s) _ (Pivot mark) ∙ sym new;
        idle = stage.idle;
        tail = (above_set mark s.pivots above, home);
      }

  home_stage : (mark : ℕ) → rank p < 3 → Stage (done ++ Home mark ∷ []) (Home mark) (entered s (Home mark))
  home_stage mark h =
      let home = homeless p s h stage.tail in
      let old : frames s ≡ front s ++ (map Pivot (marked_from 0 s.pivots) ++ []) = rw home in
      record { is = ap (λ (l : List Frame). l ++ Home mark ∷ []) (so_far (omega arith) ∙ old) ∙ regroup (front s) _ (Home mark); idle = refl; tail = tt }

  last_stage : (count : ℕ) → rank p < 4 → count ≡ length done → Stage (done ++ Last count ∷ []) (Last count) s
  last_stage count h is =
      let same = so_far h in
      record { is = ap (λ (n : ℕ). done ++ Last n ∷ []) is ∙ ap (λ (l : List Frame). l ++ Last (length l) ∷ []) same; idle = stage.idle; tail = tt }

  step : (f : Frame) → Follows (length done) (Some p) f → Passed (entry_checks s f) → Stage (done ++ f ∷ []) f (entered s f)
  step (Head n) follows passed = absurd (head_follows p n follows.0)
  step (Entry leg) follows passed = leg_stage leg (leg_follows p leg follows.0)
  step (Pivot mark) follows passed = let next = pivot_follows p mark s follows.0 stage.tail in pivot_stage mark next.0 next.1 (elim (dec_lt mark (marks s)) [ yes h ↦ h | no h ↦ absurd (passed.0 (omega arith)) ])
  step (Home mark) follows passed = home_stage mark (home_follows p mark follows.0)
  step (Last count) follows passed = last_stage count (last_follows p count follows.0) follows.1

-- To the end

at_last : (p : Frame) (s : State) → rank p ≡ 4 → written p s ≡ all_frames s
at_last (Head n) s h = absurd (omega arith)
at_last (Entry leg) s h = absurd (omega arith)
at_last (Pivot mark) s h = absurd (omega arith)
at_last (Home mark) s h = absurd (omega arith)
at_last (Last count) s h = refl

finish : (done : List Frame) (p : Frame) (s : State) (n : ℕ) (rest : List Frame) → length done ≡ n → Stage done p s → Sound n (Some p) s rest → Complete (latest_of (Some p) rest) → (done ++ rest ≡ all_frames (after s rest)) × ((after s rest).worked ≡ false)
finish done p s n [] many stage sound complete = (append-nil done ∙ stage.is ∙ at_last p s complete, stage.idle)
finish done p s n (f ∷ rest) many stage sound complete =
    let longer : length (done ++ f ∷ []) ≡ suc n = length-append done (f ∷ []) ∙ omega arith in
    let next = step done p s stage f (rw many sound.0) sound.1 in
    let whole = finish (done ++ f ∷ []) f (entered s f) (suc n) rest longer next sound.2 complete in
    (sym (append_assoc done (f ∷ []) rest) ∙ whole.0, whole.1)

from_head : (all : List Frame) → Sound 0 None blank all → Complete (latest_of None all) → (all ≡ all_frames (after blank all)) × ((after blank all).worked ≡ false)
from_head [] sound complete = absurd complete
from_head (Head n ∷ rest) sound complete = finish (Head n ∷ []) (Head n) (with_marks n blank) 1 rest refl (head_stage n) sound.2 complete
from_head (Entry leg ∷ rest) sound complete = let first = sound.0 in absurd (omega arith)
from_head (Pivot mark ∷ rest) sound complete = let first = sound.0 in absurd (omega arith)
from_head (Home mark ∷ rest) sound complete = let first = sound.0 in absurd (omega arith)
from_head (Last count ∷ rest) sound complete = let first = sound.0 in absurd (omega arith)

pub loaded_file : {text : List ℕ} {s : State} → Loaded text s → (text ≡ file s) × (s.worked ≡ false)
loaded_file loaded =
    let whole = from_head loaded.all loaded.sound loaded.complete in
    (loaded.is ∙ ap lines whole.0 ∙ ap file (sym loaded.state), ap (λ (t : State). t.worked) loaded.state ∙ whole.1)
