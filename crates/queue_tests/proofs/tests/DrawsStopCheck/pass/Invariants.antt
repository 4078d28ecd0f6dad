use Rattle.queue_tests.proofs.tests.DrawsStopCheck.pass.Given as goal

abbrev pub invariant-loop : goal.invariant-loop
invariant-loop g l = g.Q.Queue.Laid l.queue
