use Rattle.relaxing.proofs.Runs.{ran_trans}
use Rattle.relaxing.proofs.Legs.{host_kept, ball_moved}
use Rattle.relaxing.proofs.Right.{right_sound}
use Rattle.relaxing.proofs.bundles.Bundles.gather.Goals as goal

pub returns-clause-ran : goal.returns-clause-ran
returns-clause-ran g c = ran_trans g.M.Cost.Cost.lawful c.from_host.ensures.ran c.from_ball.ensures.ran

pub returns-clause-gathered : goal.returns-clause-gathered
returns-clause-gathered g c =
    let S = right_sound g.M.Measure.priced c.args.self.now c.requires.right g.M.Cost.Cost.lawful g.met.M.Measure.small in
    record {
      own = host_kept S c.from_ball.ensures.ran c.from_host.ensures.offered;
      ball = ball_moved S c.from_host.ensures.ran c.from_ball.ensures.offered;
    }
