-- The file of a chart.
use Rattle.std.specs.Prelude.{ℕ, suc, Bool, true, false, List, [], ◌∷◌, ◌++◌, map, length, Some, None, Option}
use Rattle.chart.specs.State.{State, marks}
use Rattle.chartfile.specs.declared.frame.Frame.{Frame}
use Rattle.chartfile.specs.declared.frame.Frame.TheVariants.{Head, Entry, Pivot, Home, Last}
use Rattle.chartfile.specs.Frames.{lines}

-- the marked ones of the marks from k on, rising
abbrev pub marked_from : ℕ → List Bool → List ℕ
marked_from k [] = []
marked_from k (true ∷ pivots) = k ∷ marked_from (suc k) pivots
marked_from k (false ∷ pivots) = marked_from (suc k) pivots

abbrev pub home_frames : Option ℕ → List Frame
home_frames None = []
home_frames (Some mark) = Home mark ∷ []

-- the marks, the legs by number, the marked pivots, and home if it was set
abbrev pub frames : State → List Frame
frames s = Head (marks s) ∷ map Entry s.legs ++ (map Pivot (marked_from 0 s.pivots) ++ home_frames s.home)

-- and last how many frames there were
abbrev pub all_frames : State → List Frame
all_frames s = frames s ++ Last (length (frames s)) ∷ []

abbrev pub file : State → List ℕ
file s = lines (all_frames s)

-- the same chart, not worked out
abbrev pub unworked : State → State
unworked s = record { legs = s.legs; pivots = s.pivots; home = s.home; worked = false }
