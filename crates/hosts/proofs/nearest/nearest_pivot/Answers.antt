use Rattle.std.proofs.Common.{◌≤◌, false, length, sym, ◌∙◌, inl, inr, arith}
use Rattle.waterway.proofs.Written.{label_read}
use Rattle.relaxing.proofs.Rows.{row_next, rows_end}
use Rattle.hosts.proofs.Nearing.{nearest_more, nearest_moved}
use Rattle.hosts.proofs.nearest.nearest_pivot.Goals as goal

pub loop-mark-preserved : goal.loop-mark-preserved
loop-mark-preserved g c =
    let K = g.C.Cost.kind in
    let pivots = c.args.pivots.now in
    let labels = c.args.labels.now in
    let at = c.loop-mark.mark-iterator.a.a.start in
    let i = c.loop-mark.invariant in
    let s = c.in-Some.ensures.steps in
    let pivot = row_next pivots at (i.pivots_at ∙ s.0.1) in
    let label = row_next labels at (i.labels_at ∙ s.1) in
    let told = label_read K labels at c.in-Some.label.now label.0 (label.1.0 c.in-Some.label.now) ∙ sym c.told.ensures in
    let closer = rw (pivot.1.0 false, s.0.0.0) at c.closer-best.ensures in
    record {
      pivots_at = rw (s.0.0.1, s.0.0.0) pivot.1.1;
      labels_at = rw (s.0.0.1, s.0.0.0) label.1.1;
      within = omega (arith, label.0, s.0.0.0, s.0.0.1);
      nearest = rw (s.0.0.1, s.0.0.0) (nearest_more g.C.Cost.lawful pivots labels at c.loop-mark.best c.closer-best.result i.nearest (rw told closer));
    }

pub returns : goal.returns
returns g c =
    let i = c.loop-mark.invariant in
    let at = c.loop-mark.mark-iterator.a.a.start in
    let past : length c.args.labels.now ≤ at = elim c.in-None.ensures.steps [
      | inl a ↦ elim a.1 [
        | inl r ↦ omega (arith, r.1.0, i.within, c.requires.few)
        | inr p ↦ omega (arith, rows_end c.args.pivots.now at i.pivots_at p.1.0, c.requires.long)
      ]
      | inr b ↦ rows_end c.args.labels.now at i.labels_at b.1.0
    ] in
    nearest_moved g.C.Cost.kind c.args.pivots.now c.args.labels.now c.loop-mark.best i.nearest (omega (arith, past, i.within))
