use Rattle.std.proofs.Common.{◌≤◌, length, sym, ◌∙◌, inl, inr, arith}
use Rattle.relaxing.proofs.Runs.{ran_refl, ran_trans}
use Rattle.relaxing.proofs.Rows.{row_next, rows_end, mine_not}
use Rattle.relaxing.proofs.Legs.{step_one_more}
use Rattle.relaxing.proofs.Right.{right_sound}
use Rattle.relaxing.proofs.bundles.Bundles.step_one.Goals as goal

pub loop-v-init : goal.loop-v-init
loop-v-init g c = rw (c.into_iter-v-iterator.ensures.into_iter_gives, c.zip-v-items.ensures.first) (record {
  place = sym c.zip-v-items.ensures.second.0;
  within = omega arith;
  laid = c.requires.laid;
  ran = ran_refl g.M.Cost.Cost.lawful _ _ c.requires.matched;
  gathered = record { each = λ v lt. absurd (omega arith) };
})

pub loop-v-preserved-then-is_of : goal.loop-v-preserved-then-is_of
loop-v-preserved-then-is_of g c =
    let S = right_sound g.M.Measure.priced c.args.self.now c.requires.right g.M.Cost.Cost.lawful g.met.M.Measure.small in
    let i = c.loop-v.invariant in
    let s = c.in-Some.ensures.steps in
    let next = row_next c.args.self.now.hosts.now c.loop-v.v-iterator.a.start (i.place ∙ s.1) in
    record {
      place = rw (s.0.1, s.0.0) next.1.1;
      within = omega (arith, next.0, s.0.0, s.0.1);
      laid = c.gather.ensures.laid;
      ran = ran_trans S.lawful i.ran c.gather.ensures.ran;
      gathered = rw (s.0.1, s.0.0) (step_one_more S i.ran c.gather.ensures.ran i.gathered (λ mine. rw s.0.0 at c.gather.ensures.gathered));
    }

pub loop-v-preserved : goal.loop-v-preserved
loop-v-preserved g c =
    let S = right_sound g.M.Measure.priced c.args.self.now c.requires.right g.M.Cost.Cost.lawful g.met.M.Measure.small in
    let i = c.loop-v.invariant in
    let s = c.in-Some.ensures.steps in
    let hosts = c.args.self.now.hosts.now in
    let at = c.loop-v.v-iterator.a.start in
    let next = row_next hosts at (i.place ∙ s.1) in
    record {
      place = rw (s.0.1, s.0.0) next.1.1;
      within = omega (arith, next.0, s.0.0, s.0.1);
      laid = i.laid;
      ran = i.ran;
      gathered = rw (s.0.1, s.0.0) (step_one_more S i.ran (ran_refl S.lawful _ _ i.ran.matched) i.gathered (λ mine.
          absurd (mine_not g.M.Cost.Cost.kind hosts c.args.u at c.in-Some.host.now next.0 (next.1.0 c.in-Some.host.now) (sym c.if-is_of.ensures) mine)));
    }

pub returns-clause-gathered : goal.returns-clause-gathered
returns-clause-gathered g c =
    let i = c.loop-v.invariant in
    let hosts = c.args.self.now.hosts.now in
    let at = c.loop-v.v-iterator.a.start in
    let past : length hosts ≤ at = elim c.in-None.ensures.steps [
      | inl a ↦ omega (arith, a.1.0, i.within, c.requires.right.chart.few)
      | inr b ↦ rows_end hosts at i.place b.1.0
    ] in
    record { each = λ v lt. i.gathered.each v (omega arith) }
