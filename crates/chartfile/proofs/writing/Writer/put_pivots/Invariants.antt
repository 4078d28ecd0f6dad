use Rattle.std.proofs.Common.{◌≡◌, ◌≤◌, length, map, take, drop}
use Rattle.chartfile.specs.declared.frame.Frame.TheVariants.{Pivot}
use Rattle.chartfile.specs.File.{marked_from}
use Rattle.chartfile.specs.Frames.{lines}
use Rattle.chartfile.specs.Writing.{Puts}
use Rattle.chartfile.proofs.writing.Writer.put_pivots.Given as goal

abbrev pub invariant-loop-mark : goal.invariant-loop-mark
invariant-loop-mark l =
    let i = l.mark-iterator.a.start in
    (drop i l.pivots ≡ l.mark-iterator.b.rest.now) × (i ≤ length l.pivots) × Puts (lines (map Pivot (marked_from 0 (take i l.pivots)))) l.initial.self l.self
