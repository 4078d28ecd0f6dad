use Rattle.std.proofs.Common.{map, take}
use Rattle.chartfile.specs.declared.frame.Frame.TheVariants.{Entry}
use Rattle.chartfile.specs.Frames.{lines}
use Rattle.chartfile.specs.Writing.{Puts}
use Rattle.chartfile.proofs.writing.Writer.put_legs.Given as goal

abbrev pub invariant-loop-leg : goal.invariant-loop-leg
invariant-loop-leg l = Puts (lines (map Entry (take l.leg-index l.legs))) l.initial.self l.self
