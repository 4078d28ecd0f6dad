use Rattle.std.proofs.Common.{◌≡◌, ◌*◌, ◌≤◌, length}
use Rattle.waterway.specs.Priced.{water}
use Rattle.hosts.specs.Local.{HostsMade}
use Rattle.hosts.proofs.making.make_hosts.Given as goal

abbrev pub invariant-loop-v : goal.invariant-loop-v
invariant-loop-v g l = record {
  span : (g.Q.Queue.held l.queue).span ≡ (g.Q.Queue.held l.initial.queue).span;
  few : l.at ≤ 256 * l.v;
  made : HostsMade (water g.M.Cost.Cost.kind (g.M.Measure.priced l.fn.measure) l.fn.legs) (length l.initial.labels) l.fn.pivots l.hosts l.near l.v l.at;
}
