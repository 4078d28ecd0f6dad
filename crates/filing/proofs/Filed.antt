-- A file that was loaded stands for the calls that make its entries.
use Rattle.std.proofs.Common.{◌≡◌, ℕ, zero, suc, ◌+◌, ◌<◌, ◌≤◌, Bool, true, false, List, [], ◌∷◌, ◌++◌, length, replicate, None, Ok, Option, sym, refl, ap, ◌∙◌, subst, inl, inr, arith}
use Rattle.std.proofs.Math.Nat.{eq-zero-or-pos}
use Rattle.std.proofs.lemmas.List.{length_push}
use Rattle.waterway.specs.declared.Leg.{Leg}
use Rattle.chart.specs.Possible.{Possible}
use Rattle.chart.specs.State.{State, marks, blank}
use Rattle.chart.specs.Calls.{with_mark, with_leg, turning}
use Rattle.chart.proofs.States.{blank_without_marks}
use Rattle.chartfile.specs.declared.frame.Frame.{Frame}
use Rattle.chartfile.specs.declared.frame.Frame.TheVariants.{Head, Entry, Pivot, Home, Last}
use Rattle.chartfile.specs.Entries.{with_marks, entry_checks, entered, Passed, Sound, after}
use Rattle.chartfile.specs.File.{all_frames, unworked}
use Rattle.chartfile.specs.Loading.{Loads}
use Rattle.chartfile.proofs.Marking.{closing_new, closed_new}
use Rattle.chartfile.proofs.Whole.{whole_sound, whole_after}
use Rattle.calls.specs.declared.call.Call.{Call}
use Rattle.calls.specs.declared.call.Call.TheVariants.{AddMark}
use Rattle.filing.specs.Filing.{closing, entry_calls, all_calls, file_calls, Accepted}

accepted_append : (s t u : State) (first rest : List Call) → Accepted s first t → Accepted t rest u → Accepted s (first ++ rest) u
accepted_append s t u [] rest same more = subst (λ (v : State). Accepted v rest u) (sym same) more
accepted_append s t u (c ∷ first) rest all more = (all.0, accepted_append _ t u first rest all.1 more)

mark_first : (n : ℕ) (s : State) → with_marks n (with_mark s) ≡ with_marks (suc n) s
mark_first zero s = refl
mark_first (suc n) s = ap with_mark (mark_first n s)

marks_accepted : (n : ℕ) (s : State) → (256 < marks s + n → ⊥) → Accepted s (replicate n AddMark) (with_marks n s)
marks_accepted zero s few = refl
marks_accepted (suc n) s few =
    let more = marks_accepted n (with_mark s) (λ many. few (omega (arith, length_push s.pivots false))) in
    ((λ full. few (omega arith), tt), subst (Accepted (with_mark s) (replicate n AddMark)) (mark_first n s) more)

module _ (s : State) (leg : Leg) where
  abbrev entered_open : State
  entered_open = with_leg s leg.from leg.to leg.length leg.locks

  can_close : Passed (turning entered_open (length s.legs) false)
  can_close =
      let none = closing_new s leg entered_open (length s.legs) refl refl in
      let stands : length entered_open.legs ≤ length s.legs → ⊥ = λ off. none _ (inl (off, refl)) in
      (stands, (λ shut. none _ (inr (stands, inl (shut, refl))), tt))

  leg_accepted : (b : Bool) → leg.«open» ≡ b → Accepted entered_open (closing b (length s.legs)) (entered s (Entry leg))
  leg_accepted true free =
      let state = sym free in
      let same : record { from = leg.from; to = leg.to; length = leg.length; locks = leg.locks; «open» = true } ≡ leg = λ i. record { from = leg.from; to = leg.to; length = leg.length; locks = leg.locks; «open» = state i } in
      λ i. record { legs = s.legs ++ same i ∷ []; pivots = s.pivots; home = s.home; worked = false }
  leg_accepted false shut = (can_close, closed_new s leg entered_open (length s.legs) refl refl shut)

frame_accepted : (s : State) (frame : Frame) → Passed (entry_checks s frame) → Accepted s (entry_calls s frame) (entered s frame)
frame_accepted s (Head n) passed = marks_accepted n s passed.0
frame_accepted s (Entry leg) passed = (passed, leg_accepted s leg leg.«open» refl)
frame_accepted s (Pivot mark) passed = (passed, refl)
frame_accepted s (Home mark) passed = (passed, refl)
frame_accepted s (Last count) passed = refl

all_accepted : (n : ℕ) (latest : Option Frame) (s : State) (frames : List Frame) → Sound n latest s frames → Accepted s (all_calls s frames) (after s frames)
all_accepted n latest s [] sound = refl
all_accepted n latest s (frame ∷ frames) sound =
    accepted_append s (entered s frame) _ (entry_calls s frame) (all_calls (entered s frame) frames)
    (frame_accepted s frame sound.1) (all_accepted _ _ (entered s frame) frames sound.2)

file_accepted : (s : State) → Possible s → s.worked ≡ false → Accepted blank (file_calls s) s
file_accepted s p idle =
    let same : unworked s ≡ s = λ i. record { legs = s.legs; pivots = s.pivots; home = s.home; worked = sym idle i } in
    subst (Accepted blank (file_calls s)) (whole_after s p ∙ same) (all_accepted 0 None blank (all_frames s) (whole_sound s p))

module _ {text : List ℕ} (s s' : State) (p : Possible s) where
  bare : Loads text s (Ok tt) s' → marks s ≡ 0
  bare loads = grind (arith, eq-zero-or-pos (marks s))

  pub loaded : Possible s' → Loads text s (Ok tt) s' → (s ≡ blank) × Accepted s (file_calls s') s'
  loaded p' loads =
      let was = blank_without_marks s p (bare loads) in
      (was, subst (λ (t : State). Accepted t (file_calls s') s') (sym was) (file_accepted s' p' (loads.loaded (bare loads)).1))
