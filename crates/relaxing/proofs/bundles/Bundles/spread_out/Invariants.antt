use Rattle.std.proofs.Common.{length}
use Rattle.relaxing.specs.Bundles.{waters}
use Rattle.relaxing.specs.Search.{Ran, SpreadLegs}
use Rattle.relaxing.proofs.bundles.Bundles.spread_out.Given as goal

abbrev pub invariant-loop-leg : goal.invariant-loop-leg
invariant-loop-leg g l =
    let W = waters g.M.Cost.Cost.kind g.M.Measure.priced l.self in
    record {
      laid : g.Q.Queue.Laid l.queue;
      ran : Ran W l.self.hosts.now l.initial.labels (g.Q.Queue.held l.initial.queue) l.labels (g.Q.Queue.held l.queue);
      spread : SpreadLegs W (length l.self.hosts.now) l.self.hosts.now l.initial.labels l.labels l.leg-index l.x;
    }
