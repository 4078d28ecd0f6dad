use Rattle.std.proofs.Common.{List, ◌++◌, drop, vec_items, Result}
use Rattle.chart.specs.declared.refusal.Refusal.{Refusal}
use Rattle.chart.specs.Shown.{state}
use Rattle.chart.specs.State.{blank}
use Rattle.calls.specs.declared.call.Answer.{Answer}
use Rattle.calls.specs.Law.{Told}
use Rattle.calls.proofs.run.Given as goal

-- whatever is told of the calls to come completes what was told so far
abbrev pub invariant-loop-call : goal.invariant-loop-call
invariant-loop-call g l =
    (rest : List (Result Answer Refusal)) → Told (state l.chart) (drop l.call-index l.calls) rest → Told blank l.calls (vec_items l.answers ++ rest)
