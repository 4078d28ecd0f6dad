-- The file of a possible chart has no fault.
use Rattle.std.proofs.Common.{◌≡◌, ℕ, suc, ◌+◌, ◌%◌, ◌<◌, ◌≤◌, Bool, true, false, List, [], ◌∷◌, ◌++◌, map, length, Some, None, sum, Option, sym, refl, ap, ◌∙◌, subst, inl, inr, append_assoc, append-nil, arith, length-append}
use lib.ListN.{length-map}
use lib.Seq.{append_snoc}
use Rattle.std.specs.List.{AllByRecursion}
use Rattle.std.proofs.ByRecursion.{All-from_get_or, All-append, All-push, All-map, All-weaker}
use Rattle.std.proofs.lemmas.List.Sums.{sum_by_push}
use Rattle.waterway.specs.declared.Leg.{Leg}
use Rattle.waterway.specs.Legs.{no_leg, leg_at}
use Rattle.chart.specs.declared.refusal.Refusal.{Refusal}
use Rattle.checks.specs.Checks.{Check}
use Rattle.chart.specs.State.{State, marks, blank}
use Rattle.chart.specs.Sound.{HomeIn}
use Rattle.chart.specs.Possible.{Possible}
use Rattle.chartfile.specs.declared.fault.Cause.{Cause}
use Rattle.chartfile.specs.declared.fault.Fault.{Fault}
use Rattle.chartfile.specs.declared.frame.Frame.{Frame}
use Rattle.chartfile.specs.declared.frame.Frame.TheVariants.{Head, Entry, Pivot, Home, Last}
use Rattle.chartfile.specs.Hex.{hex}
use Rattle.chartfile.specs.Frames.{leg_kind, body, check, checked, line, lines}
use Rattle.chartfile.specs.Order.{Follows, Complete, latest_of}
use Rattle.chartfile.specs.Entries.{entry_checks, entered, Passed, RefusedBy, Sound, after}
use Rattle.chartfile.specs.Faults.{FirstLine, BadBytes, BadLine, Faulty, sum_wrong, no_frame, refused, missing, no_digits, bad_bytes}
use Rattle.chartfile.specs.File.{marked_from, home_frames, frames, all_frames, file, unworked}
use Rattle.chartfile.specs.Loading.{Loaded}
use Rattle.chartfile.proofs.Digits.{hex_unique, all_rest}
use Rattle.chartfile.proofs.Loaded.{latest_append}
use Rattle.chartfile.proofs.Unframing.{one_frame}
use Rattle.chartfile.proofs.Whole.{whole_sound, whole_after, whole_complete}

-- A text is read in one way only

not_empty : (bytes rest : List ℕ) → [] ≡ hex bytes ++ 10 ∷ rest → ⊥
not_empty bytes rest e = omega (arith, ap length e, length-append (hex bytes) (10 ∷ rest))

line_then : (f : Frame) (rest : List ℕ) → line f ++ rest ≡ hex (checked (body f)) ++ 10 ∷ rest
line_then f rest = append_snoc (hex (checked (body f))) 10 rest

lines_then : (f : Frame) (fs : List Frame) (rest : List ℕ) → lines (f ∷ fs) ++ rest ≡ hex (checked (body f)) ++ 10 ∷ (lines fs ++ rest)
lines_then f fs rest = append_assoc (line f) (lines fs) rest ∙ line_then f (lines fs ++ rest)

-- where the lines of some frames begin those of all, the rest are those of the frames left
left_over : (before all : List Frame) (rest : List ℕ) → lines all ≡ lines before ++ rest → (left : List Frame) × (all ≡ before ++ left) × (rest ≡ lines left)
left_over [] all rest e = (all, refl, sym e)
left_over (f ∷ before) [] rest e = absurd (not_empty (checked (body f)) (lines before ++ rest) (e ∙ lines_then f before rest))
left_over (f ∷ before) (g ∷ all) rest e =
    let both = hex_unique (checked (body g)) (checked (body f)) (lines all) (lines before ++ rest) (sym (line_then g (lines all)) ∙ e ∙ lines_then f before rest) in
    let same = one_frame (checked (body g)) g f refl both.0 in
    let more = left_over before all rest both.1 in
    let is = more.1 in
    (more.0, cc, more.2)

nothing_left : (left : List Frame) → [] ≡ lines left → left ≡ []
nothing_left [] e = refl
nothing_left (f ∷ left) e = absurd (not_empty (checked (body f)) (lines left) (e ∙ line_then f (lines left)))

same_lines : (fs gs : List Frame) → lines fs ≡ lines gs → fs ≡ gs
same_lines fs gs e =
    let over = left_over fs gs [] (sym e ∙ sym (append-nil (lines fs))) in
    sym (over.1 ∙ ap (λ (left : List Frame). fs ++ left) (nothing_left over.0 over.2) ∙ append-nil fs)

-- Frames that a chart took, and those that follow

sound_rest : (n : ℕ) (l : Option Frame) (s : State) (fs gs : List Frame) (k : ℕ) → k ≡ n + length fs → Sound n l s (fs ++ gs) → Sound k (latest_of l fs) (after s fs) gs
sound_rest n l s [] gs k is sound = let same : k ≡ n = omega arith in rw same sound
sound_rest n l s (f ∷ fs) gs k is sound = sound_rest (suc n) (Some f) (entered s f) fs gs k (omega arith) sound.2

not_both : (checks : List (Check Refusal)) (refusal : Refusal) → Passed checks → RefusedBy checks refusal → ⊥
not_both [] refusal passed none = none
not_both (check ∷ checks) refusal passed (inl h) = passed.0 h.0
not_both (check ∷ checks) refusal passed (inr h) = not_both checks refusal passed.1 h.1

-- The bytes of a frame

sum_checked : (bytes : List ℕ) → sum (checked bytes) % 256 ≡ 0
sum_checked bytes = let more = sum_by_push (λ (x : ℕ). x) bytes (check bytes) in omega arith

-- each number fits its bytes
abbrev Fits : Frame → Type 0
Fits (Head marks) = marks < 65536
Fits (Entry leg) = (leg.from < 65536) × (leg.to < 65536) × (leg.length < 65536) × (leg.locks < 256)
Fits (Pivot mark) = mark < 65536
Fits (Home mark) = mark < 65536
Fits (Last count) = count < 65536

kind_byte : (b : Bool) → leg_kind b < 256
kind_byte true = omega arith
kind_byte false = omega arith

body_bytes : (f : Frame) → Fits f → AllByRecursion (λ (b : ℕ). b < 256) (body f)
body_bytes (Head marks) fits = (omega arith, (omega arith, (omega arith, (omega arith, tt))))
body_bytes (Entry leg) fits =
    (kind_byte leg.«open», (omega arith, (omega arith, (omega arith, (omega arith, (omega arith, (omega arith, (omega arith, tt))))))))
body_bytes (Pivot mark) fits = (omega arith, (omega arith, (omega arith, tt)))
body_bytes (Home mark) fits = (omega arith, (omega arith, (omega arith, tt)))
body_bytes (Last count) fits = (omega arith, (omega arith, (omega arith, tt)))

short_body : (f : Frame) → length (body f) ≤ 31
short_body (Head marks) = omega arith
short_body (Entry leg) = omega arith
short_body (Pivot mark) = omega arith
short_body (Home mark) = omega arith
short_body (Last count) = omega arith

first_line : (f : Frame) (fs : List Frame) → Fits f → FirstLine (lines (f ∷ fs)) (checked (body f)) (lines fs)
first_line f fs fits =
    let long = length-append (body f) (check (body f) ∷ []) in
    let short = short_body f in
    record {
      is = line_then f (lines fs);
      some = omega arith;
      few = omega arith;
      each = All-push (λ (b : ℕ). b < 256) (body f) (check (body f)) (body_bytes f fits) (omega arith);
    }

-- The numbers of a possible chart fit

marked_below : (k n : ℕ) (pivots : List Bool) → k + length pivots ≡ n → AllByRecursion (λ (mark : ℕ). mark < n) (marked_from k pivots)
marked_below k n [] end = tt
marked_below k n (true ∷ pivots) end = (omega arith, marked_below (suc k) n pivots (omega arith))
marked_below k n (false ∷ pivots) end = marked_below (suc k) n pivots (omega arith)

marked_few : (k : ℕ) (pivots : List Bool) → length (marked_from k pivots) ≤ length pivots
marked_few k [] = omega arith
marked_few k (true ∷ pivots) = let few = marked_few (suc k) pivots in omega arith
marked_few k (false ∷ pivots) = let few = marked_few (suc k) pivots in omega arith

home_fits : (n : ℕ) (home : Option ℕ) → n ≤ 256 → HomeIn n home → AllByRecursion Fits (home_frames home) × (length (home_frames home) ≤ 1)
home_fits n None few inside = (tt, omega arith)
home_fits n (Some h) few inside = let on = inside h refl in ((omega arith, tt), omega arith)

all_fit : (s : State) → Possible s → AllByRecursion Fits (all_frames s)
all_fit s p =
    let few = p.charted.few in
    let some_legs = p.legs_few in
    let marked = marked_from 0 s.pivots in
    let legs = map Entry s.legs in
    let pivots = map Pivot marked in
    let home = home_fits (marks s) s.home few p.home_in in
    let leg_fits : (k : ℕ) → k < length s.legs → Fits (Entry (leg_at s.legs k)) = λ k inside. let legal = p.charted.legal k inside in let from_in = p.charted.from_in k inside in let to_in = p.charted.to_in k inside in (omega arith, omega arith, omega arith, omega arith) in
    let legs_fit = All-map Fits Entry s.legs (All-from_get_or (λ (leg : Leg). Fits (Entry leg)) s.legs no_leg leg_fits) in
    let pivots_fit = All-map Fits Pivot marked (All-weaker (λ (mark : ℕ). mark < marks s) (λ mark. mark < 65536) (λ mark h. omega arith) marked (marked_below 0 (marks s) s.pivots (omega arith))) in
    let frames_fit : AllByRecursion Fits (frames s) = (omega arith, All-append Fits legs (pivots ++ home_frames s.home) legs_fit (All-append Fits pivots (home_frames s.home) pivots_fit home.0)) in
    let long = length-append legs (pivots ++ home_frames s.home) in
    let longer = length-append pivots (home_frames s.home) in
    let leg_count = length-map s.legs Entry in
    let pivot_count = length-map marked Pivot in
    let pivots_few = marked_few 0 s.pivots in
    All-push Fits (frames s) (Last (length (frames s))) frames_fit (omega arith)

-- No line is bad

module _ (n : ℕ) (latest : Option Frame) (s : State) where
  not_bad_bytes : (f : Frame) (bytes : List ℕ) {cause : Cause} → bytes ≡ checked (body f) → Follows n latest f → Passed (entry_checks s f) → BadBytes n latest s bytes cause → ⊥
  not_bad_bytes f bytes is follows passed (sum_wrong wrong) = wrong (rw is (sum_checked (body f)))
  not_bad_bytes f bytes is follows passed (no_frame adds none) = none f is follows
  not_bad_bytes f bytes is follows passed (refused g {refusal} also next by) =
      not_both (entry_checks s f) refusal passed (subst (λ (h : Frame). RefusedBy (entry_checks s h) refusal) (one_frame bytes g f also is) by)

  not_bad : (fs : List Frame) {text : List ℕ} {cause : Cause} → Sound n latest s fs → Complete (latest_of latest fs) → AllByRecursion Fits fs → text ≡ lines fs → BadLine n latest s text cause → ⊥
  not_bad [] sound complete fits is (missing none) = none complete
  not_bad (f ∷ fs) sound complete fits is (missing none) = not_empty (checked (body f)) (lines fs) (is ∙ line_then f (lines fs))
  not_bad [] sound complete fits is (no_digits none) = omega (arith, ap length is)
  not_bad (f ∷ fs) sound complete fits is (no_digits none) = none (checked (body f)) (lines fs) (rw is (first_line f fs fits.0))
  not_bad [] sound complete fits is (bad_bytes {bytes = bytes} {rest = rest} first bad) = not_empty bytes rest (sym is ∙ first.is)
  not_bad (f ∷ fs) sound complete fits is (bad_bytes {bytes = bytes} {rest = rest} first bad) =
      let both = hex_unique bytes (checked (body f)) rest (lines fs) (sym first.is ∙ is ∙ line_then f (lines fs)) in
      not_bad_bytes f bytes both.0 sound.0 sound.1 bad

pub not_faulty : (s : State) (text : List ℕ) (fault : Fault) → Possible s → text ≡ file s → Faulty text fault → ⊥
not_faulty s text fault p is faulty =
    let before = faulty.before in
    let over = left_over before (all_frames s) faulty.rest (sym is ∙ faulty.split) in
    let left = over.0 in
    let all = over.1 in
    let sound = subst (λ (fs : List Frame). Sound 0 None blank fs) all (whole_sound s p) in
    let complete = subst (λ (fs : List Frame). Complete (latest_of None fs)) all (whole_complete s) in
    let fits = subst (AllByRecursion Fits) all (all_fit s p) in
    not_bad (length before) (latest_of None before) (after blank before) left
    (sound_rest 0 None blank before left (length before) (omega arith) sound)
    (subst Complete (latest_append None before left) complete)
    (all_rest Fits before left fits) over.2 faulty.bad

-- a chart that was written and loaded comes back
pub comes_back : {text : List ℕ} {s : State} (t : State) → Possible t → text ≡ file t → Loaded text s → s ≡ unworked t
comes_back t p is loaded =
    let same = same_lines loaded.all (all_frames t) (sym loaded.is ∙ is) in
    loaded.state ∙ ap (after blank) same ∙ whole_after t p
