use Rattle.std.proofs.Common.{◌≡◌, ◌-◌, length}
use Rattle.relaxing.specs.Offers.{Matched}
use Rattle.relaxing.specs.Bundles.{waters}
use Rattle.relaxing.proofs.Voyage.{ReadyAt}
use Rattle.relaxing.proofs.Turns.{drawn_in}
use Rattle.bundle.proofs.searching.search.Given as goal

abbrev pub invariant-loop-u : goal.invariant-loop-u
invariant-loop-u g l =
    let K = g.M.Cost.Cost.kind in
    let hosts = l.bundles.hosts.now in
    let h = g.Q.Queue.held l.queue in
    record {
      laid : g.Q.Queue.Laid l.queue;
      matched : Matched K hosts l.labels h;
      ready : ReadyAt (waters K g.M.Measure.priced l.bundles) (length hosts) hosts l.home l.labels h;
      draws : h.draws ≡ drawn_in K hosts (length hosts) l.labels h;
      span : h.span ≡ (g.Q.Queue.held l.initial.queue).span;
    }

abbrev pub decreases-loop-u : goal.decreases-loop-u
decreases-loop-u g l = length l.bundles.hosts.now - drawn_in g.M.Cost.Cost.kind l.bundles.hosts.now (length l.bundles.hosts.now) l.labels (g.Q.Queue.held l.queue)
