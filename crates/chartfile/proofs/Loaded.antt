-- One more line of a file.
use Rattle.std.proofs.Common.{◌≡◌, ℕ, suc, ◌+◌, ◌%◌, ◌<◌, ◌≤◌, List, [], ◌∷◌, ◌++◌, length, Some, None, sum, Option, sym, refl, ap, ◌∙◌, subst, append_assoc, append-nil, arith, length-append}
use Rattle.std.proofs.lemmas.List.{take_all}
use Rattle.chart.specs.State.{State, blank}
use Rattle.chartfile.specs.declared.fault.Cause.TheVariants.{BadDigits, BadFrame}
use Rattle.chartfile.specs.declared.fault.Fault.{Fault}
use Rattle.chartfile.specs.declared.frame.Frame.{Frame}
use Rattle.chartfile.specs.declared.before.Before.{Before}
use Rattle.chartfile.specs.Hex.{hex}
use Rattle.chartfile.specs.Frames.{body, checked, line, lines}
use Rattle.chartfile.specs.Order.{Follows, Complete, latest_of}
use Rattle.chartfile.specs.Entries.{entry_checks, entered, Passed, Sound, after}
use Rattle.chartfile.specs.Faults.{FirstLine, BadBytes, BadLine, no_frame, no_digits, missing, Faulty}
use Rattle.chartfile.specs.Loading.{FrameLine, LoadedTo}
use Rattle.chartfile.proofs.Unframing.{one_frame}

module _ (n : ℕ) (latest : Option Frame) (s : State) where
  pub bad_digits : (text : List ℕ) → 0 < length text → ((bytes rest : List ℕ) → FirstLine text bytes rest → ⊥) → BadLine n latest s text BadDigits
  bad_digits [] some none = absurd (omega arith)
  bad_digits (b ∷ text) some none = no_digits none

  pub bad_order : (bytes : List ℕ) (frame : Frame) → sum bytes % 256 ≡ 0 → bytes ≡ checked (body frame) → (Follows n latest frame → ⊥) → BadBytes n latest s bytes BadFrame
  bad_order bytes frame adds is not_next =
      no_frame adds (λ other also next. not_next (subst (Follows n latest) (one_frame bytes other frame also is) next))

-- One frame more

pub lines_append : (fs gs : List Frame) → lines (fs ++ gs) ≡ lines fs ++ lines gs
lines_append [] gs = refl
lines_append (f ∷ fs) gs = ap (λ (rest : List ℕ). line f ++ rest) (lines_append fs gs) ∙ sym (append_assoc (line f) (lines fs) (lines gs))

long_lines : (fs : List Frame) → length fs ≤ length (lines fs)
long_lines [] = omega arith
long_lines (f ∷ fs) =
    let rest = long_lines fs in
    let both = length-append (line f) (lines fs) in
    let end = length-append (hex (checked (body f))) (10 ∷ []) in
    omega arith

pub lines_push : (fs : List Frame) (f : Frame) → lines (fs ++ f ∷ []) ≡ lines fs ++ line f
lines_push fs f = lines_append fs (f ∷ []) ∙ ap (λ (rest : List ℕ). lines fs ++ rest) (append-nil (line f))

pub latest_append : (l : Option Frame) (fs gs : List Frame) → latest_of l (fs ++ gs) ≡ latest_of (latest_of l fs) gs
latest_append l [] gs = refl
latest_append l (f ∷ fs) gs = latest_append (Some f) fs gs

pub after_append : (s : State) (fs gs : List Frame) → after s (fs ++ gs) ≡ after (after s fs) gs
after_append s [] gs = refl
after_append s (f ∷ fs) gs = after_append (entered s f) fs gs

pub sound_append : (n : ℕ) (l : Option Frame) (s : State) (fs gs : List Frame) (k : ℕ) → k ≡ n + length fs → Sound n l s fs → Sound k (latest_of l fs) (after s fs) gs → Sound n l s (fs ++ gs)
sound_append n l s [] gs k is sound more = let same : k ≡ n = omega arith in rw same at more
sound_append n l s (f ∷ fs) gs k is sound more = (sound.0, sound.1, sound_append (suc n) (Some f) (entered s f) fs gs k (omega arith) sound.2 more)

module _ {text rest : List ℕ} {before : Before} {s : State} (to : LoadedTo text rest before s) where
  pub loaded_more : {next : List ℕ} {then : Before} {after_it : State} (frame : Frame) → FrameLine before rest frame next → Passed (entry_checks s frame) → after_it ≡ entered s frame → then.count ≡ before.count + 1 → then.latest ≡ Some frame → LoadedTo text next then after_it
  loaded_more {next} frame first passed is count latest =
      let frames = to.frames in
      let longer = length-append frames (frame ∷ []) in
      record {
        frames = frames ++ frame ∷ [];
        split = to.split ∙ ap (λ (r : List ℕ). lines frames ++ r) (first.first.is ∙ sym (append_assoc (hex (checked (body frame))) (10 ∷ []) next)) ∙ sym (append_assoc (lines frames) (line frame) next) ∙ ap (λ (l : List ℕ). l ++ next) (sym (lines_push frames frame));
        sound = sound_append 0 None blank frames (frame ∷ []) before.count (to.count ∙ omega arith) to.sound (rw (← to.latest, ← to.state) (first.follows, passed, tt));
        count = count ∙ omega (arith, to.count);
        latest = latest ∙ sym (latest_append None frames (frame ∷ []));
        state = is ∙ ap (λ (t : State). entered t frame) to.state ∙ sym (after_append blank frames (frame ∷ []));
      }

  -- the line after those is bad
  pub bad_line : (fault : Fault) → BadLine before.count before.latest s rest fault.cause → fault.line ≡ before.count + 1 → Faulty text fault
  bad_line fault bad line = record {
    before = to.frames;
    rest = rest;
    split = to.split;
    sound = to.sound;
    line = line ∙ ap (λ (n : ℕ). n + 1) to.count;
    bad = rw (← to.count, ← to.latest, ← to.state) bad;
  }

  pub missing_last : (fault : Fault) → length rest ≡ 0 → (Complete before.latest → ⊥) → fault.line ≡ before.count + 1 → fault.cause ≡ BadFrame → Faulty text fault
  missing_last fault end open_end line cause =
      let none = take_all 0 rest (omega arith) in
      bad_line fault (rw (cause, ← none) (missing open_end)) line

  -- there are no fewer bytes than frames
  pub short : before.count + length rest ≤ length text
  short =
      let long = ap length to.split in
      let both = length-append (lines to.frames) rest in
      let many = long_lines to.frames in
      let count = to.count in
      omega arith
