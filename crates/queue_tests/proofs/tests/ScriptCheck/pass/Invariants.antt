use Rattle.queue_tests.proofs.tests.ScriptCheck.pass.Given as goal

abbrev pub invariant-loop-step : goal.invariant-loop-step
invariant-loop-step g l = g.Q.Queue.Laid l.queue
