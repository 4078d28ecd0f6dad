-- Writing a chart's file into a buffer.
use Rattle.std.specs.Prelude.{◌≡◌, ℕ, zero, suc, ◌+◌, ◌<◌, ◌≤◌, List, [], ◌∷◌, ◌++◌, length, drop, Ok, Err, Result}
use Rattle.chart.specs.State.{State}
use Rattle.chartfile.specs.declared.fault.ShortBuffer.{ShortBuffer}
use Rattle.chartfile.specs.declared.writing.Writer.{Writer}
use Rattle.chartfile.specs.File.{file}

-- a list with other bytes from a place on
abbrev pub splice : List ℕ → ℕ → List ℕ → List ℕ
splice [] zero bytes = bytes
splice [] (suc at) bytes = bytes
splice (b ∷ old) zero [] = b ∷ old
splice (b ∷ old) zero (c ∷ bytes) = c ∷ splice old zero bytes
splice (b ∷ old) (suc at) bytes = b ∷ splice old at bytes

-- there is room for these bytes
abbrev pub Room : List ℕ → Writer → Type 0
Room bytes w = w.at + length bytes ≤ length w.buffer.now

-- these bytes are written next, in the same buffer
pub record Puts (bytes : List ℕ) (old new : Writer) : Type 0 where
  pub same : new.buffer.ghost_name ≡ old.buffer.ghost_name
  pub at : new.at ≡ old.at + length bytes
  pub buffer : new.buffer.now ≡ splice old.buffer.now old.at bytes

-- r and new are what writing the file of s into a buffer brings: its length, and the file in the first places; or a refusal
-- where the buffer is shorter, which then stays as it is
pub record Writes (s : State) (old : List ℕ) (r : Result ℕ ShortBuffer) (new : List ℕ) : Type 0 where
  pub written : length (file s) ≤ length old → (r ≡ Ok (length (file s))) × (new ≡ file s ++ drop (length (file s)) old)
  pub refused : length old < length (file s) → (r ≡ Err (record {})) × (new ≡ old)
