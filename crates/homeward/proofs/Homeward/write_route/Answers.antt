use Rattle.std.proofs.Common.{arith}
use Rattle.waterway.proofs.Priced.{priced_sound, priced_dear}
use Rattle.waterway.proofs.Routes as routes
use Rattle.homeward.proofs.StepsHome.{route_short, leads_route, route_leads}
use Rattle.homeward.proofs.Homeward.write_route.Goals as goal

pub write_legs-requires : goal.write_legs-requires
write_legs-requires g c =
    let K = g.M.Cost.Cost.kind in
    let here = c.args.self.now in
    let priced = g.M.Measure.priced here.measure.now in
    let S = priced_sound K priced c.requires.chart g.M.Cost.Cost.lawful (g.met.M.Measure.small here.measure.now) in
    let dear = priced_dear K priced c.requires.chart (g.met.M.Measure.dear here.measure.now) in
    let r = routes.route_exists S here.home dear c.requires.way.1 in
    (r.0, leads_route here.home c.args.steps.now S c.requires.steps c.requires.home r.1, omega (arith, route_short S dear here.home c.requires.home r.1, c.requires.room))

pub returns-clause-route : goal.returns-clause-route
returns-clause-route g c =
    let K = g.M.Cost.Cost.kind in
    let here = c.args.self.now in
    let priced = g.M.Measure.priced here.measure.now in
    let S = priced_sound K priced c.requires.chart g.M.Cost.Cost.lawful (g.met.M.Measure.small here.measure.now) in
    route_leads here.home c.args.steps.now S c.requires.steps c.requires.home c.write_legs.ensures.legs c.requires.way
