use Rattle.std.proofs.Common.{◌≡◌, ◌≤◌, length, drop}
use Rattle.hosts.specs.Local.{NearestOf}
use Rattle.hosts.proofs.nearest.nearest_pivot.Given as goal

abbrev pub invariant-loop-mark : goal.invariant-loop-mark
invariant-loop-mark g l =
    let i = l.mark-iterator.a.a.start in
    record {
      pivots_at : drop i l.pivots ≡ l.mark-iterator.a.b.rest.now;
      labels_at : drop i l.labels ≡ l.mark-iterator.b.rest.now;
      within : i ≤ length l.labels;
      nearest : NearestOf g.C.Cost.kind l.pivots l.labels i l.best;
    }
