use Rattle.std.proofs.Common.{◌≡◌, ◌-◌, length}
use Rattle.relaxing.specs.Offers.{Matched}
use Rattle.relaxing.specs.Bundles.{waters}
use Rattle.relaxing.proofs.Voyage.{ReadyAt}
use Rattle.relaxing.proofs.Turns.{drawn_in}
use Rattle.hosts.specs.Local.{Found}
use Rattle.hosts.proofs.rounds.Round.look_round.Given as goal

abbrev pub invariant-loop-u : goal.invariant-loop-u
invariant-loop-u g l =
    let W = waters g.M.Cost.Cost.kind g.M.Measure.priced l.self.bundles in
    let selves = l.self.bundles.hosts.now in
    record {
      laid : g.Q.Queue.Laid l.queue;
      matched : Matched g.M.Cost.Cost.kind selves l.labels (g.Q.Queue.held l.queue);
      ready : ReadyAt W (length selves) selves l.v l.labels (g.Q.Queue.held l.queue);
      found : Found W (length selves) l.self.pivots.now l.v l.best;
      span : (g.Q.Queue.held l.queue).span ≡ (g.Q.Queue.held l.initial.queue).span;
    }

abbrev pub decreases-loop-u : goal.decreases-loop-u
decreases-loop-u g l =
    let selves = l.self.bundles.hosts.now in
    length selves - drawn_in g.M.Cost.Cost.kind selves (length selves) l.labels (g.Q.Queue.held l.queue)
