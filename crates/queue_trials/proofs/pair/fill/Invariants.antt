use Rattle.queue_trials.proofs.pair.fill.Given as goal

abbrev pub invariant-loop-mark : goal.invariant-loop-mark
invariant-loop-mark g l = g.A.Queue.Laid l.a × g.B.Queue.Laid l.b
