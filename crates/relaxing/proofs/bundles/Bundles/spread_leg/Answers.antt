use Rattle.relaxing.proofs.Runs.{ran_refl}
use Rattle.relaxing.proofs.Spreads.{ends_turned, spread_leg_ran, spread_leg}
use Rattle.relaxing.proofs.Right.{right_sound}
use Rattle.relaxing.proofs.bundles.Bundles.spread_leg.Goals as goal

pub returns-in_default-clause-spread : goal.returns-in_default-clause-spread
returns-in_default-clause-spread g c = record {
  end = λ y l q free ends. absurd (c.in_default.ensures y free (ends_turned c.args.leg.now ends));
  ball = λ y w l q e r free ends. absurd (c.in_default.ensures y free (ends_turned c.args.leg.now ends));
}

pub returns-in_default-add-clause-ran : goal.returns-in_default-add-clause-ran
returns-in_default-add-clause-ran g c = ran_refl g.M.Cost.Cost.lawful _ _ c.requires.matched

pub returns-clause-ran : goal.returns-clause-ran
returns-clause-ran g c =
    let right = c.requires.right in
    let S = right_sound g.M.Measure.priced c.args.self.now right g.M.Cost.Cost.lawful g.met.M.Measure.small in
    spread_leg_ran S right.housed right.balled c.requires.leg c.in-Some.ensures c.add.ensures c.label_at.ensures c.price.ensures c.in-Some-add.is
    c.relax.ensures.relaxed c.spread_ball.ensures.spread

pub returns-clause-spread : goal.returns-clause-spread
returns-clause-spread g c =
    let right = c.requires.right in
    let S = right_sound g.M.Measure.priced c.args.self.now right g.M.Cost.Cost.lawful g.met.M.Measure.small in
    spread_leg S right.housed right.balled c.requires.leg c.in-Some.ensures c.add.ensures c.label_at.ensures c.price.ensures c.in-Some-add.is
    c.relax.ensures.relaxed c.spread_ball.ensures.spread
