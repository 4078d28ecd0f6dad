use Rattle.waterway.proofs.Metric as metric
use Rattle.relaxing.proofs.Runs.{ran_trans}
use Rattle.relaxing.proofs.Rows.{near_read}
use Rattle.relaxing.proofs.Legs.{ball_more}
use Rattle.relaxing.proofs.Right.{right_sound}
use Rattle.relaxing.proofs.bundles.Bundles.from_ball.Goals as goal

pub from_near-requires-clause-away : goal.from_near-requires-clause-away
from_near-requires-clause-away g c =
    let S = right_sound g.M.Measure.priced c.args.self.now c.requires.right g.M.Cost.Cost.lawful g.met.M.Measure.small in
    let j = c.loop-member.member-index in
    let is = near_read g.M.Cost.Cost.kind c.ball-member-items.result.now j c.member-item.result c.loop-member-test.true c.member-item.is in
    let B = c.requires.right.balled.only c.args.to j (rw c.ball-member-items.ensures at c.loop-member-test.true) in
    metric.dist_turned S (rw (rw c.ball-member-items.ensures at is) at B).dist

pub loop-member-preserved : goal.loop-member-preserved
loop-member-preserved g c =
    let S = right_sound g.M.Measure.priced c.args.self.now c.requires.right g.M.Cost.Cost.lawful g.met.M.Measure.small in
    let p = c.loop-member.invariant.ran in
    let q = c.from_near.ensures.ran in
    let is = near_read g.M.Cost.Cost.kind c.ball-member-items.result.now c.loop-member.member-index c.member-item.result c.loop-member-test.true c.member-item.is in
    record {
      laid = c.from_near.ensures.laid;
      ran = ran_trans S.lawful p q;
      offered = ball_more S p q c.loop-member.invariant.offered (rw is c.from_near.ensures.offered);
    }
