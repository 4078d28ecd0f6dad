use Rattle.relaxing.proofs.Rows.{near_read}
use Rattle.relaxing.proofs.Spreads.{spread_more}
use Rattle.relaxing.proofs.bundles.Bundles.spread_ball.Goals as goal

pub loop-member-preserved : goal.loop-member-preserved
loop-member-preserved g c =
    let is = near_read g.M.Cost.Cost.kind c.ball-member-items.result.now c.loop-member.member-index c.member-item.result c.loop-member-test.true c.member-item.is in
    record {
      laid = c.try_relax.ensures.laid;
      spread = spread_more g.M.Cost.Cost.lawful c.loop-member.invariant.spread (rw (is, ← c.sum.ensures) c.try_relax.ensures.tried);
    }
