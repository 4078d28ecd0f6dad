use Rattle.std.proofs.Common.{◌≡◌, List, ◌++◌, take, drop, vec_items, Result}
use Rattle.chart.specs.Shown.{state}
use Rattle.chart.specs.State.{blank}
use Rattle.filing.specs.declared.errand.Errand.{Errand}
use Rattle.filing.specs.declared.errand.Done.{Done}
use Rattle.filing.specs.declared.errand.Refused.{Refused}
use Rattle.filing.specs.Law.{Told}
use Rattle.filing.proofs.run.Given as goal

-- the errands to come are as they were handed in, and whatever is told of them completes what was told so far
abbrev pub invariant-loop-errand : goal.invariant-loop-errand
invariant-loop-errand g l =
    (drop l.errand-index l.errands ≡ drop l.errand-index l.initial.errands)
    × ((rest : List Errand) (answers : List (Result Done Refused)) → Told (state l.chart) (drop l.errand-index l.initial.errands) rest answers
    → Told blank l.initial.errands (take l.errand-index l.errands ++ rest) (vec_items l.answers ++ answers))
