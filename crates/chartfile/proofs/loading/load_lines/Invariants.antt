use Rattle.std.proofs.Common.{length}
use Rattle.chart.specs.Shown.{Changes}
use Rattle.chartfile.specs.Loading.{LoadedTo}
use Rattle.chartfile.proofs.loading.load_lines.Given as goal

abbrev pub invariant-loop-rest : goal.invariant-loop-rest
invariant-loop-rest g l = Changes (λ _ s. LoadedTo l.text l.rest l.before s) l.initial.chart l.chart

abbrev pub decreases-loop-rest : goal.decreases-loop-rest
decreases-loop-rest g l = length l.rest
