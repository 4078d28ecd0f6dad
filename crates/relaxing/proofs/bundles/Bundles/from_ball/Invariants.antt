use Rattle.relaxing.specs.Bundles.{waters}
use Rattle.relaxing.specs.Search.{Ran, FromBall}
use Rattle.relaxing.proofs.bundles.Bundles.from_ball.Given as goal

abbrev pub invariant-loop-member : goal.invariant-loop-member
invariant-loop-member g l =
    let W = waters g.M.Cost.Cost.kind g.M.Measure.priced l.self in
    record {
      laid : g.Q.Queue.Laid l.queue;
      ran : Ran W l.self.hosts.now l.initial.labels (g.Q.Queue.held l.initial.queue) l.labels (g.Q.Queue.held l.queue);
      offered : FromBall W l.member-items l.initial.labels l.labels l.member-index l.to;
    }
