use Rattle.std.proofs.Common.{take}
use Rattle.chartfile.specs.Hex.{hex}
use Rattle.chartfile.specs.Writing.{Puts}
use Rattle.chartfile.proofs.writing.Writer.put_line.Given as goal

abbrev pub invariant-loop-byte : goal.invariant-loop-byte
invariant-loop-byte l = Puts (hex (take l.byte-index l.body)) l.initial.self l.self
