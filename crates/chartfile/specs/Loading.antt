-- Loading a file onto a chart.
use Rattle.std.specs.Prelude.{◌≡◌, ℕ, ◌<◌, true, false, List, ◌++◌, length, is_ok, None, Err, Result, MatchResult}
use Rattle.chart.specs.Possible.{Possible}
use Rattle.chart.specs.State.{State, marks, blank}
use Rattle.chartfile.specs.declared.fault.Cause.TheVariants.{HasMarks}
use Rattle.chartfile.specs.declared.fault.Fault.{Fault}
use Rattle.chartfile.specs.declared.frame.Frame.{Frame}
use Rattle.chartfile.specs.declared.before.Before.{Before}
use Rattle.chartfile.specs.Frames.{body, checked, lines}
use Rattle.chartfile.specs.File.{file, unworked}
use Rattle.chartfile.specs.Order.{Follows, Complete, latest_of}
use Rattle.chartfile.specs.Entries.{Sound, after}
use Rattle.chartfile.specs.Faults.{FirstLine, Faulty}

-- the first line of a text is a frame that may follow, and this is the rest
pub record FrameLine (before : Before) (text : List ℕ) (frame : Frame) (rest : List ℕ) : Type 0 where
  pub first : FirstLine text (checked (body frame)) rest
  pub follows : Follows before.count before.latest frame

-- the sound frames before the rest of a text, and the chart that they leave
pub record LoadedTo (text rest : List ℕ) (before : Before) (s : State) : Type 0 where
  pub frames : List Frame
  pub split : text ≡ lines frames ++ rest
  pub sound : Sound 0 None blank frames
  pub count : before.count ≡ length frames
  pub latest : before.latest ≡ latest_of None frames
  pub state : s ≡ after blank frames

-- a text is sound frames to its end, the last one among them, and they leave this chart
pub record Loaded (text : List ℕ) (s : State) : Type 0 where
  pub all : List Frame
  pub is : text ≡ lines all
  pub sound : Sound 0 None blank all
  pub complete : Complete (latest_of None all)
  pub state : s ≡ after blank all

-- r and s' are what loading a text onto a chart in the state s brings. A chart with marks stays as it is. Otherwise the
-- file is that of the chart, which is not worked out; or it has a fault, and the chart is blank
pub record Loads (text : List ℕ) (s : State) (r : Result (Unit {0}) Fault) (s' : State) : Type 0 where
  pub refused : 0 < marks s → (r ≡ Err (record { line = 0; cause = HasMarks })) × (s' ≡ s)
  pub loaded : marks s ≡ 0 → MatchResult r (λ _. (text ≡ file s') × (s'.worked ≡ false)) (λ fault. Faulty text fault × (s' ≡ blank))
  -- the file of a chart is accepted, and the chart comes back the same
  pub accepted : marks s ≡ 0 → (t : State) → Possible t → text ≡ file t → (is_ok r ≡ true) × (s' ≡ unworked t)
