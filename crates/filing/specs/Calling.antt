-- The chart's own calls, as errands.
use Rattle.std.specs.Prelude.{◌≡◌, Ok, Err, Result, MatchResult}
use Rattle.checks.specs.Checks.{Answers}
use Rattle.chart.specs.State.{State}
use Rattle.calls.specs.declared.call.Call.{Call}
use Rattle.calls.specs.Law.{checks, given, next}
use Rattle.filing.specs.declared.errand.Done.{Done}
use Rattle.filing.specs.declared.errand.Done.TheVariants.{Called}
use Rattle.filing.specs.declared.errand.Refused.{Refused}
use Rattle.filing.specs.declared.errand.Refused.TheVariants.{Chart}

-- r and s' are what a call brings on a chart in the state s
pub record Calls (s : State) (call : Call) (r : Result Done Refused) (s' : State) : Type 0 where
  pub answer : Answers (λ refusal. Err (Chart refusal)) (λ a. a ≡ Ok (Called (given s call))) (checks s call) r
  pub state : MatchResult r (λ _. s' ≡ next s call) (λ _. s' ≡ s)
