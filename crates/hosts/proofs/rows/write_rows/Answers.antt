use Rattle.std.proofs.Common.{◌≤◌, length, sym, ◌∙◌, inl, inr, arith}
use Rattle.waterway.proofs.Written.{label_read}
use Rattle.relaxing.proofs.Rows.{row_next, rows_end}
use Rattle.hosts.proofs.Nearing.{rows_none, rows_more, written_moved}
use Rattle.hosts.proofs.rows.write_rows.Goals as goal

pub loop-mark-init : goal.loop-mark-init
loop-mark-init g c = rw (c.into_iter-mark-iterator.ensures.into_iter_gives, c.zip-mark-items.ensures.first) (record {
  place = sym c.zip-mark-items.ensures.second.0;
  within = omega arith;
  written = rows_none g.C.Cost.kind c.args.labels.now c.args.near.now c.args.start c.args.rim;
})

pub loop-mark-preserved : goal.loop-mark-preserved
loop-mark-preserved g c =
    let labels = c.args.labels.now in
    let at = c.loop-mark.mark-iterator.a.start in
    let i = c.loop-mark.invariant in
    let s = c.in-Some.ensures.steps in
    let label = row_next labels at (i.place ∙ s.1) in
    let told = label_read g.C.Cost.kind labels at c.in-Some.label.now label.0 (label.1.0 c.in-Some.label.now) ∙ sym c.told.ensures in
    record {
      place = rw (s.0.1, s.0.0) label.1.1;
      within = omega (arith, label.0, s.0.0, s.0.1);
      written = rw (s.0.1, s.0.0) (rows_more labels c.args.near.now c.loop-mark.near c.write_row-at.new.near c.args.start c.loop-mark.at at c.args.rim
          c.write_row-at.result c.write_row-at.auto.near i.written (rw told (rw s.0.0 at c.write_row-at.ensures)));
    }

pub returns : goal.returns
returns g c =
    let i = c.loop-mark.invariant in
    let at = c.loop-mark.mark-iterator.a.start in
    let past : length c.args.labels.now ≤ at = elim c.in-None.ensures.steps [
      | inl a ↦ omega (arith, a.1.0, i.within, c.requires.few)
      | inr b ↦ rows_end c.args.labels.now at i.place b.1.0
    ] in
    written_moved i.written (omega (arith, past, i.within))
