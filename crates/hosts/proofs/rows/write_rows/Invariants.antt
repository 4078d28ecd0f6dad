use Rattle.std.proofs.Common.{◌≡◌, ◌≤◌, length, drop}
use Rattle.hosts.specs.Local.{Written}
use Rattle.hosts.proofs.rows.write_rows.Given as goal

abbrev pub invariant-loop-mark : goal.invariant-loop-mark
invariant-loop-mark g l =
    let i = l.mark-iterator.a.start in
    record {
      place : drop i l.labels ≡ l.mark-iterator.b.rest.now;
      within : i ≤ length l.labels;
      written : Written g.C.Cost.kind l.labels l.initial.near l.near l.start l.at i l.rim;
    }
