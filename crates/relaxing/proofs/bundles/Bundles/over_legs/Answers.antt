use Rattle.std.proofs.Common.{arith}
use Rattle.relaxing.proofs.Runs.{ran_trans}
use Rattle.relaxing.proofs.Legs.{over_more}
use Rattle.relaxing.proofs.Right.{right_sound}
use Rattle.relaxing.proofs.bundles.Bundles.over_legs.Goals as goal

pub loop-leg-preserved : goal.loop-leg-preserved
loop-leg-preserved g c =
    let S = right_sound g.M.Measure.priced c.args.self.now c.requires.right g.M.Cost.Cost.lawful g.met.M.Measure.small in
    let p = c.loop-leg.invariant.ran in
    let q = c.over_leg.ensures.ran in
    record {
      laid = c.over_leg.ensures.laid;
      ran = ran_trans S.lawful p q;
      offered = over_more S p q c.loop-leg.invariant.offered c.over_leg.ensures.offered;
    }

pub returns-clause-offered : goal.returns-clause-offered
returns-clause-offered g c = record { each = λ s sure k z l q r lt. c.loop-leg.invariant.offered.each s sure k z l q r (omega (arith, c.loop-leg-test.false)) }
