use Rattle.relaxing.specs.Bundles.{waters}
use Rattle.relaxing.specs.Search.{Ran, OverLegs}
use Rattle.relaxing.proofs.bundles.Bundles.over_legs.Given as goal

abbrev pub invariant-loop-leg : goal.invariant-loop-leg
invariant-loop-leg g l =
    let W = waters g.M.Cost.Cost.kind g.M.Measure.priced l.self in
    record {
      laid : g.Q.Queue.Laid l.queue;
      ran : Ran W l.self.hosts.now l.initial.labels (g.Q.Queue.held l.initial.queue) l.labels (g.Q.Queue.held l.queue);
      offered : OverLegs W l.initial.labels l.labels l.leg-index l.member.mark l.member.cost l.to;
    }
