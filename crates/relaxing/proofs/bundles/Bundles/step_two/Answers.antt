use Rattle.std.proofs.Common.{◌≤◌, length, sym, ◌∙◌, inl, inr, arith}
use Rattle.relaxing.proofs.Runs.{ran_refl, ran_trans}
use Rattle.relaxing.proofs.Rows.{row_next, rows_end, mine_not}
use Rattle.relaxing.proofs.Spreads.{step_two_more}
use Rattle.relaxing.proofs.Right.{right_sound}
use Rattle.relaxing.proofs.bundles.Bundles.step_two.Goals as goal

pub loop-x-init : goal.loop-x-init
loop-x-init g c = rw (c.into_iter-x-iterator.ensures.into_iter_gives, c.zip-x-items.ensures.first) (record {
  place = sym c.zip-x-items.ensures.second.0;
  within = omega arith;
  laid = c.requires.laid;
  ran = ran_refl g.M.Cost.Cost.lawful _ _ c.requires.matched;
  spread = record { each = λ v lt. absurd (omega arith) };
})

pub loop-x-preserved-then-is_of : goal.loop-x-preserved-then-is_of
loop-x-preserved-then-is_of g c =
    let S = right_sound g.M.Measure.priced c.args.self.now c.requires.right g.M.Cost.Cost.lawful g.met.M.Measure.small in
    let i = c.loop-x.invariant in
    let s = c.in-Some.ensures.steps in
    let next = row_next c.args.self.now.hosts.now c.loop-x.x-iterator.a.start (i.place ∙ s.1) in
    record {
      place = rw (s.0.1, s.0.0) next.1.1;
      within = omega (arith, next.0, s.0.0, s.0.1);
      laid = c.spread_out.ensures.laid;
      ran = ran_trans S.lawful i.ran c.spread_out.ensures.ran;
      spread = rw (s.0.1, s.0.0) (step_two_more S i.ran c.spread_out.ensures.ran i.spread (λ mine. rw s.0.0 at c.spread_out.ensures.spread));
    }

pub loop-x-preserved : goal.loop-x-preserved
loop-x-preserved g c =
    let S = right_sound g.M.Measure.priced c.args.self.now c.requires.right g.M.Cost.Cost.lawful g.met.M.Measure.small in
    let i = c.loop-x.invariant in
    let s = c.in-Some.ensures.steps in
    let hosts = c.args.self.now.hosts.now in
    let at = c.loop-x.x-iterator.a.start in
    let next = row_next hosts at (i.place ∙ s.1) in
    record {
      place = rw (s.0.1, s.0.0) next.1.1;
      within = omega (arith, next.0, s.0.0, s.0.1);
      laid = i.laid;
      ran = i.ran;
      spread = rw (s.0.1, s.0.0) (step_two_more S i.ran (ran_refl S.lawful _ _ i.ran.matched) i.spread (λ mine.
          absurd (mine_not g.M.Cost.Cost.kind hosts c.args.u at c.in-Some.host.now next.0 (next.1.0 c.in-Some.host.now) (sym c.if-is_of.ensures) mine)));
    }

pub returns-clause-spread : goal.returns-clause-spread
returns-clause-spread g c =
    let i = c.loop-x.invariant in
    let hosts = c.args.self.now.hosts.now in
    let at = c.loop-x.x-iterator.a.start in
    let past : length hosts ≤ at = elim c.in-None.ensures.steps [
      | inl a ↦ omega (arith, a.1.0, i.within, c.requires.right.chart.few)
      | inr b ↦ rows_end hosts at i.place b.1.0
    ] in
    record { each = λ v lt. i.spread.each v (omega arith) }
