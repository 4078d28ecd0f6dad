use Rattle.std.proofs.Common.{arith}
use Rattle.relaxing.proofs.Runs.{ran_trans}
use Rattle.relaxing.proofs.Spreads.{spread_legs_more}
use Rattle.relaxing.proofs.Right.{right_sound}
use Rattle.relaxing.proofs.bundles.Bundles.spread_out.Goals as goal

pub loop-leg-preserved : goal.loop-leg-preserved
loop-leg-preserved g c =
    let S = right_sound g.M.Measure.priced c.args.self.now c.requires.right g.M.Cost.Cost.lawful g.met.M.Measure.small in
    let p = c.loop-leg.invariant.ran in
    let q = c.spread_leg.ensures.ran in
    record {
      laid = c.spread_leg.ensures.laid;
      ran = ran_trans g.M.Cost.Cost.lawful p q;
      spread = spread_legs_more S p q c.loop-leg.invariant.spread c.spread_leg.ensures.spread;
    }

pub returns-clause-spread : goal.returns-clause-spread
returns-clause-spread g c = record {
  leg = λ s sure k y l q lt. c.loop-leg.invariant.spread.leg s sure k y l q (omega (arith, c.loop-leg-test.false));
  ball = λ s sure k y w l q e r lt. c.loop-leg.invariant.spread.ball s sure k y w l q e r (omega (arith, c.loop-leg-test.false));
}
