-- Lines written one after the other.
use Rattle.std.proofs.Common.{◌≡◌, ℕ, ◌+◌, ◌*◌, ◌≤◌, List, ◌++◌, map, length, is_some, Some, None, Option, sym, refl, ap, ◌∙◌, append_assoc, arith, length-append}
use mir.Val.{bool_byte}
use Rattle.std.proofs.lemmas.List.{length-map}
use Rattle.chart.specs.State.{State, marks}
use Rattle.chartfile.specs.declared.frame.Frame.{Frame}
use Rattle.chartfile.specs.declared.frame.Frame.TheVariants.{Head, Entry, Pivot, Last}
use Rattle.chartfile.specs.Frames.{line, lines}
use Rattle.chartfile.specs.File.{marked_from, home_frames, frames, file}
use Rattle.chartfile.specs.declared.writing.Writer.{Writer}
use Rattle.chartfile.specs.Writing.{Puts}
use Rattle.chartfile.proofs.Counting.{length_legs, length_pivots}
use Rattle.chartfile.proofs.Loaded.{lines_append, lines_push}
use Rattle.chartfile.proofs.Puts.{puts_more, puts_as}

-- A whole file

pub homes_are : (home : Option ℕ) → bool_byte (is_some home) ≡ length (home_frames home)
homes_are None = refl
homes_are (Some mark) = refl

pub length_homes : (home : Option ℕ) → length (lines (home_frames home)) ≡ 9 * length (home_frames home)
length_homes None = refl
length_homes (Some mark) = refl

module _ (s : State) where
  marked : List ℕ
  marked = marked_from 0 s.pivots

  homes : List Frame
  homes = home_frames s.home

  last : Frame
  last = Last (length (frames s))

  pub count_frames : length (frames s) ≡ 1 + length s.legs + length (marked_from 0 s.pivots) + length (home_frames s.home)
  unfolding marked homes
  count_frames =
      let legs = length-map s.legs Entry in
      let pivots = length-map marked Pivot in
      let outer = length-append (map Entry s.legs) (map Pivot marked ++ homes) in
      let inner = length-append (map Pivot marked) homes in
      omega arith

  -- the lines by their kinds
  in_parts : file s ≡ line (Head (marks s)) ++ (lines (map Entry s.legs) ++ (lines (map Pivot marked) ++ (lines homes ++ line last)))
  unfolding marked homes last
  in_parts =
      let legs = map Entry s.legs in
      let pivots = map Pivot marked in
      ap (λ (r : List ℕ). line (Head (marks s)) ++ r) (
      lines_push (legs ++ (pivots ++ homes)) last ∙ ap (λ (r : List ℕ). r ++ line last) (lines_append legs (pivots ++ homes) ∙ ap (λ (r : List ℕ). lines legs ++ r) (lines_append pivots homes)) ∙ append_assoc (lines legs) (lines pivots ++ lines homes) (line last) ∙ ap (λ (r : List ℕ). lines legs ++ r) (append_assoc (lines pivots) (lines homes) (line last))
      )

  pub length_file : length (file s) ≡ 20 + 19 * length s.legs + 9 * length (marked_from 0 s.pivots) + 9 * length (home_frames s.home)
  unfolding marked homes last
  length_file =
      let whole = ap length in_parts in
      let a = length-append (line (Head (marks s))) (lines (map Entry s.legs) ++ (lines (map Pivot marked) ++ (lines homes ++ line last))) in
      let b = length-append (lines (map Entry s.legs)) (lines (map Pivot marked) ++ (lines homes ++ line last)) in
      let c = length-append (lines (map Pivot marked)) (lines homes ++ line last) in
      let d = length-append (lines homes) (line last) in
      let legs = length_legs s.legs in
      let pivots = length_pivots marked in
      let home = length_homes s.home in
      omega arith

  -- five parts, written one after the other, are the file
  pub puts_file : {a b c d e f : Writer} (n : ℕ) → n ≡ length (frames s) → a.at + length (file s) ≤ length a.buffer.now → Puts (line (Head (marks s))) a b → Puts (lines (map Entry s.legs)) b c → Puts (lines (map Pivot (marked_from 0 s.pivots))) c d → Puts (lines (home_frames s.home)) d e → Puts (line (Last n)) e f → Puts (file s) a f
  unfolding marked homes last
  puts_file n many room first second third fourth fifth =
      let head = line (Head (marks s)) in
      let legs = lines (map Entry s.legs) in
      let pivots = lines (map Pivot marked) in
      let home = lines homes in
      let long = length_file in
      let ll = length_legs s.legs in
      let lp = length_pivots marked in
      let lh = length_homes s.home in
      let l2 = length-append head legs in
      let l3 = length-append (head ++ legs) pivots in
      let l4 = length-append ((head ++ legs) ++ pivots) home in
      let all = puts_more (puts_more (puts_more (puts_more first second (omega arith)) third (omega arith)) fourth (omega arith)) fifth (omega arith) in
      let flat : (((head ++ legs) ++ pivots) ++ home) ++ line (Last n) ≡ file s =
      append_assoc ((head ++ legs) ++ pivots) home (line (Last n)) ∙ append_assoc (head ++ legs) pivots (home ++ line (Last n)) ∙ append_assoc head legs (pivots ++ (home ++ line (Last n))) ∙ ap (λ (k : ℕ). head ++ (legs ++ (pivots ++ (home ++ line (Last k))))) many ∙ sym in_parts
      in
      puts_as flat all
