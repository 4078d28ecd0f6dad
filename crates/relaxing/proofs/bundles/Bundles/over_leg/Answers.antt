use Rattle.relaxing.proofs.Legs.{leg_ran, leg_offered}
use Rattle.relaxing.proofs.Right.{right_sound}
use Rattle.relaxing.proofs.bundles.Bundles.over_leg.Goals as goal

pub returns-in_default-clause-offered : goal.returns-in_default-clause-offered
returns-in_default-clause-offered g c = record { each = λ z l q r free ends. absurd (c.in_default.ensures z free ends) }

pub returns-clause-ran : goal.returns-clause-ran
returns-clause-ran g c =
    let S = right_sound g.M.Measure.priced c.args.self.now c.requires.right g.M.Cost.Cost.lawful g.met.M.Measure.small in
    let far = c.in-Some.ensures in
    leg_ran S c.requires.right.housed c.requires.leg far.0 far.1.0 c.requires.away c.add.ensures c.add-first.ensures c.label_at.ensures c.price.ensures c.try_relax.ensures.tried

pub returns-clause-offered : goal.returns-clause-offered
returns-clause-offered g c =
    let S = right_sound g.M.Measure.priced c.args.self.now c.requires.right g.M.Cost.Cost.lawful g.met.M.Measure.small in
    let far = c.in-Some.ensures in
    record {
      each = λ z l q r free ends e. leg_offered S c.requires.right.housed c.requires.leg far.0 far.1.0 c.requires.away c.add.ensures c.add-first.ensures c.label_at.ensures c.price.ensures c.try_relax.ensures.tried
          l q r (rw (far.1.1 z ends) at e);
    }
