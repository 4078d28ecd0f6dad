use Rattle.std.proofs.Common.{◌≡◌}
use Rattle.chart.specs.Shown.{Changes}
use Rattle.chartfile.specs.Entries.{with_marks}
use Rattle.chartfile.proofs.entry.add_marks.Given as goal

abbrev pub invariant-loop-added : goal.invariant-loop-added
invariant-loop-added g l = Changes (λ before after. after ≡ with_marks l._added before) l.initial.chart l.chart
