use Rattle.std.proofs.Common.{◌≡◌, ℕ, ◌<◌}
use Rattle.bundling.specs.Marks.{host_at}
use Rattle.hosts.specs.Local.{own}
use Rattle.hosts.proofs.making.make_selves.Given as goal

abbrev pub invariant-loop-v : goal.invariant-loop-v
invariant-loop-v g l = (x : ℕ) → x < l.v → host_at g.C.Cost.kind l.selves x ≡ own g.C.Cost.kind x 0
