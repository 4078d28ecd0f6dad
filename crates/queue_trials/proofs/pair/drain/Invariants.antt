use Rattle.queue_trials.proofs.pair.drain.Given as goal

abbrev pub invariant-loop : goal.invariant-loop
invariant-loop g l = g.A.Queue.Laid l.a × g.B.Queue.Laid l.b
