use Rattle.relaxing.proofs.Runs.{ran_trans, within_ran}
use Rattle.relaxing.proofs.Legs.{plain_ran, plain_offered, over_moved}
use Rattle.relaxing.proofs.Right.{right_sound}
use Rattle.relaxing.proofs.bundles.Bundles.from_near.Goals as goal

pub returns-clause-ran : goal.returns-clause-ran
returns-clause-ran g c =
    let S = right_sound g.M.Measure.priced c.args.self.now c.requires.right g.M.Cost.Cost.lawful g.met.M.Measure.small in
    ran_trans S.lawful (plain_ran S c.requires.right.housed c.requires.away c.add.ensures c.label_at.ensures c.try_relax.ensures.tried) c.over_legs.ensures.ran

pub returns-clause-offered : goal.returns-clause-offered
returns-clause-offered g c =
    let S = right_sound g.M.Measure.priced c.args.self.now c.requires.right g.M.Cost.Cost.lawful g.met.M.Measure.small in
    let p = plain_ran S c.requires.right.housed c.requires.away c.add.ensures c.label_at.ensures c.try_relax.ensures.tried in
    record {
      ball = λ s sure l r e D f. within_ran S.lawful c.args.to c.over_legs.ensures.ran
          (plain_offered S c.requires.right.housed c.requires.away c.add.ensures c.label_at.ensures c.try_relax.ensures.tried l r e f);
      rim = over_moved S p c.over_legs.ensures.offered;
    }
