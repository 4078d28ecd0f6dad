use Rattle.std.proofs.Common.{◌≡◌, ◌≤◌, length, drop}
use Rattle.relaxing.specs.Bundles.{waters}
use Rattle.relaxing.specs.Search.{Ran, StepOne}
use Rattle.relaxing.proofs.bundles.Bundles.step_one.Given as goal

abbrev pub invariant-loop-v : goal.invariant-loop-v
invariant-loop-v g l =
    let W = waters g.M.Cost.Cost.kind g.M.Measure.priced l.self in
    let i = l.v-iterator.a.start in
    record {
      place : drop i l.self.hosts.now ≡ l.v-iterator.b.rest.now;
      within : i ≤ length l.self.hosts.now;
      laid : g.Q.Queue.Laid l.queue;
      ran : Ran W l.self.hosts.now l.initial.labels (g.Q.Queue.held l.initial.queue) l.labels (g.Q.Queue.held l.queue);
      gathered : StepOne W l.self.hosts.now l.self.near.now l.initial.labels l.labels l.u i;
    }
