use Rattle.std.proofs.Common.{◌≡◌, ◌<◌, ◌≤◌, ◌++◌, length}
use Rattle.std.specs.List.{AllByRecursion}
use Rattle.chartfile.specs.Hex.{hex}
use Rattle.chartfile.proofs.hex.decode.Given as goal

-- the bytes so far, and the rest of the text
abbrev pub invariant-loop-high : goal.invariant-loop-high
invariant-loop-high l = (l.text ≡ hex l.bytes.items ++ l.rest) × AllByRecursion (λ b. b < 256) l.bytes.items × (length l.bytes.items ≤ 32)

abbrev pub decreases-loop-high : goal.decreases-loop-high
decreases-loop-high l = length l.rest
