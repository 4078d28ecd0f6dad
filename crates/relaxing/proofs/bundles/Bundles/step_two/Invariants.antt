use Rattle.std.proofs.Common.{◌≡◌, ◌≤◌, length, drop}
use Rattle.relaxing.specs.Bundles.{waters}
use Rattle.relaxing.specs.Search.{Ran, StepTwo}
use Rattle.relaxing.proofs.bundles.Bundles.step_two.Given as goal

abbrev pub invariant-loop-x : goal.invariant-loop-x
invariant-loop-x g l =
    let W = waters g.M.Cost.Cost.kind g.M.Measure.priced l.self in
    let i = l.x-iterator.a.start in
    record {
      place : drop i l.self.hosts.now ≡ l.x-iterator.b.rest.now;
      within : i ≤ length l.self.hosts.now;
      laid : g.Q.Queue.Laid l.queue;
      ran : Ran W l.self.hosts.now l.initial.labels (g.Q.Queue.held l.initial.queue) l.labels (g.Q.Queue.held l.queue);
      spread : StepTwo W (length l.self.hosts.now) l.self.hosts.now l.initial.labels l.labels l.u i;
    }
