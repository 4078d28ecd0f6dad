use Rattle.std.proofs.Common.{[], append-nil, arith}
use Rattle.std.proofs.lemmas.List.{drop_all, take_all}
use Rattle.filing.proofs.run.Goals as goal

pub returns : goal.returns
returns g c =
    let i = c.loop-errand.errand-index in
    rw (append-nil, append-nil, take_all i c.loop-errand.errands (omega arith)) at (c.loop-errand.invariant.1 [] [] (rw (drop_all i c.args.errands.now (omega arith)) tt))
