use Rattle.std.proofs.Common.{[], append-nil, arith}
use Rattle.std.proofs.lemmas.List.{drop_all}
use Rattle.calls.proofs.run.Goals as goal

pub returns : goal.returns
returns g c = rw append-nil at (c.loop-call.invariant [] (rw (drop_all c.loop-call.call-index c.args.calls.now (omega arith)) tt))
