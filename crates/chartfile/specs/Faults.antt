-- What is wrong with a file that is no chart's: a number, a line, and the chart's own number where it refused an entry.
use Rattle.std.specs.Prelude.{◌≡◌, ℕ, ◌+◌, ◌%◌, ◌<◌, ◌≤◌, List, [], ◌∷◌, ◌++◌, length, None, sum, Option, ◌≢◌}
use Rattle.std.specs.List.{AllByRecursion}
use Rattle.chart.specs.declared.refusal.Refusal.{Refusal}
use Rattle.chart.specs.State.{State, blank}
use Rattle.chartfile.specs.declared.fault.Cause.{Cause}
use Rattle.chartfile.specs.declared.fault.Cause.TheVariants.{HasMarks, BadDigits, BadSum, BadFrame, BadEntry}
use Rattle.chartfile.specs.declared.fault.Fault.{Fault}
use Rattle.chartfile.specs.declared.frame.Frame.{Frame}
use Rattle.chartfile.specs.Hex.{hex}
use Rattle.chartfile.specs.Frames.{body, checked, lines}
use Rattle.chartfile.specs.Order.{Follows, Complete, latest_of}
use Rattle.chartfile.specs.Entries.{entry_checks, RefusedBy, Sound, after}

abbrev pub number_of : Cause → ℕ
number_of HasMarks = 16
number_of BadDigits = 18
number_of BadSum = 19
number_of BadFrame = 20
number_of (BadEntry refusal) = 21

-- the first line is the digits of 1 to 32 bytes
pub record FirstLine (text bytes rest : List ℕ) : Type 0 where
  pub is : text ≡ hex bytes ++ 10 ∷ rest
  pub some : 1 ≤ length bytes
  pub few : length bytes ≤ 32
  pub each : AllByRecursion (λ b. b < 256) bytes

-- what is wrong with bytes that add up, or do not, after n frames
pub data BadBytes (n : ℕ) (latest : Option Frame) (s : State) (bytes : List ℕ) : Cause → Type 0 where
  sum_wrong : (sum bytes % 256 ≢ 0) → BadBytes n latest s bytes BadSum
  no_frame : sum bytes % 256 ≡ 0 → ((frame : Frame) → bytes ≡ checked (body frame) → Follows n latest frame → ⊥) → BadBytes n latest s bytes BadFrame
  refused : (frame : Frame) {refusal : Refusal} → bytes ≡ checked (body frame) → Follows n latest frame → RefusedBy (entry_checks s frame) refusal → BadBytes n latest s bytes (BadEntry refusal)

-- what is wrong with the first line of a text, after n frames; a text that ends there lacks the last frame
pub data BadLine (n : ℕ) (latest : Option Frame) (s : State) : List ℕ → Cause → Type 0 where
  missing : (Complete latest → ⊥) → BadLine n latest s [] BadFrame
  no_digits : {b : ℕ} {text : List ℕ} → ((bytes rest : List ℕ) → FirstLine (b ∷ text) bytes rest → ⊥) → BadLine n latest s (b ∷ text) BadDigits
  bad_bytes : {text bytes rest : List ℕ} {cause : Cause} → FirstLine text bytes rest → BadBytes n latest s bytes cause → BadLine n latest s text cause

-- the fault of a text: the first line that is no sound frame
pub record Faulty (text : List ℕ) (fault : Fault) : Type 0 where
  pub before : List Frame
  pub rest : List ℕ
  pub split : text ≡ lines before ++ rest
  pub sound : Sound 0 None blank before
  pub line : fault.line ≡ length before + 1
  pub bad : BadLine (length before) (latest_of None before) (after blank before) rest fault.cause
