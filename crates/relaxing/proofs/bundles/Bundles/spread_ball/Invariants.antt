use Rattle.relaxing.specs.Search.{Spread}
use Rattle.relaxing.proofs.bundles.Bundles.spread_ball.Given as goal

abbrev pub invariant-loop-member : goal.invariant-loop-member
invariant-loop-member g l = record {
  laid : g.Q.Queue.Laid l.queue;
  spread : Spread g.M.Cost.Cost.kind l.self.hosts.now l.member-items l.initial.labels (g.Q.Queue.held l.initial.queue) l.labels (g.Q.Queue.held l.queue) l.member-index l.cost;
}
