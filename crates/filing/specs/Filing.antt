-- Loading a chart from its file, and writing that.
use Rattle.std.specs.Prelude.{◌≡◌, ℕ, Bool, true, false, List, [], ◌∷◌, ◌++◌, length, replicate, Ok, Err, Result, MatchResult}
use Rattle.chart.specs.State.{State, marks, blank}
use Rattle.chartfile.specs.declared.fault.Fault.{Fault}
use Rattle.chartfile.specs.declared.fault.ShortBuffer.{ShortBuffer}
use Rattle.chartfile.specs.declared.frame.Frame.{Frame}
use Rattle.chartfile.specs.declared.frame.Frame.TheVariants.{Head, Entry, Pivot, Home, Last}
use Rattle.chartfile.specs.Entries.{Passed, entered}
use Rattle.chartfile.specs.File.{all_frames}
use Rattle.chartfile.specs.Loading.{Loads}
use Rattle.chartfile.specs.Writing.{Writes}
use Rattle.calls.specs.Law.{checks, next}
use Rattle.calls.specs.declared.call.Call.{Call}
use Rattle.calls.specs.declared.call.Call.TheVariants.{AddMark, EnterLeg, Close, SetHome, SetPivot}
use Rattle.filing.specs.declared.errand.Done.{Done}
use Rattle.filing.specs.declared.errand.Done.TheVariants.{Loaded, Written}
use Rattle.filing.specs.declared.errand.Refused.{Refused}
use Rattle.filing.specs.declared.errand.Refused.TheVariants.{File, Buffer}

-- a leg that is not open is closed once it is entered
abbrev pub closing : Bool → ℕ → List Call
closing true leg = []
closing false leg = Close leg ∷ []

-- the calls that make a frame's entry on a chart in the state s
abbrev pub entry_calls : State → Frame → List Call
entry_calls s (Head marks) = replicate marks AddMark
entry_calls s (Entry leg) = EnterLeg leg.from leg.to leg.length leg.locks ∷ closing leg.«open» (length s.legs)
entry_calls s (Pivot mark) = SetPivot mark true ∷ []
entry_calls s (Home mark) = SetHome mark ∷ []
entry_calls s (Last count) = []

abbrev pub all_calls : State → List Frame → List Call
all_calls s [] = []
all_calls s (frame ∷ frames) = entry_calls s frame ++ all_calls (entered s frame) frames

-- the calls that make the entries of a chart's file, on a blank chart
abbrev pub file_calls : State → List Call
file_calls s = all_calls blank (all_frames s)

-- from s on each call is accepted, and all together leave t
abbrev pub Accepted : State → List Call → State → Type 0
Accepted s [] t = s ≡ t
Accepted s (call ∷ calls) t = Passed (checks s call) × Accepted (next s call) calls t

abbrev pub told_loaded : State → Result (Unit {0}) Fault → Result Done Refused
told_loaded s (Ok _) = Ok (Loaded (marks s) (length s.legs))
told_loaded s (Err fault) = Err (File fault)

-- r and s' are what loading a text onto a chart in the state s brings
pub record Loading (text : List ℕ) (s : State) (r : Result Done Refused) (s' : State) : Type 0 where
  pub outcome : Result (Unit {0}) Fault
  pub loads : Loads text s outcome s'
  pub answer : r ≡ told_loaded s' outcome
  -- an accepted load stands for the calls that make its entries, and a refused one changes nothing
  pub state : MatchResult r (λ _. (s ≡ blank) × Accepted s (file_calls s') s') (λ _. s' ≡ s)

abbrev pub told_written : Result ℕ ShortBuffer → Result Done Refused
told_written (Ok long) = Ok (Written long)
told_written (Err short) = Err (Buffer short)

-- r and new are what writing the file of a chart in the state s into a buffer brings
pub record Writing (s : State) (old : List ℕ) (r : Result Done Refused) (new : List ℕ) : Type 0 where
  pub outcome : Result ℕ ShortBuffer
  pub writes : Writes s old outcome new
  pub answer : r ≡ told_written outcome
