use Rattle.std.proofs.Common.{rules}
use Rattle.waterway.proofs.Priced.{priced_sound}
use Rattle.homeward.specs.Steps.{LeadsBack}
use Rattle.waterway.specs.Priced.{water}
use Rattle.homeward.proofs.Finding.{found_first}
use Rattle.homeward.proofs.StepsHome.{first_back}
use Rattle.homeward.proofs.Homeward.step_home.Goals as goal

pub returns : goal.returns
returns g c =
    let here = c.args.self.now in
    let priced = g.M.Measure.priced here.measure.now in
    let S = priced_sound g.M.Cost.Cost.kind priced c.requires.chart g.M.Cost.Cost.lawful (g.met.M.Measure.small here.measure.now) in
    first_back c.args.labels.now c.requires.tells S c.args.v c.if-v-self.false c.find_map.result (found_first (λ a r f k. search rules)
    (λ k o. LeadsBack (water g.M.Cost.Cost.kind priced here.legs.now) c.args.labels.now c.args.v k o) (λ k o k'. search rules) _ c.find_map.result c.find_map.ensures.runs)
