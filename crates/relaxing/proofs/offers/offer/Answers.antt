use Rattle.std.proofs.Common.{refl, arith}
use Rattle.relaxing.proofs.Offering.{setting_steady, offered_not, put_offered, lower_offered}
use Rattle.relaxing.proofs.offers.offer.Goals as goal

pub returns-in-Not-clause-offered : goal.returns-in-Not-clause-offered
returns-in-Not-clause-offered g c = let f = c.in-Not.ensures.fallen in offered_not g.C.Cost.lawful c.requires.agrees f.0 f.1 (λ v. refl)

pub returns-in-First-clause-steady : goal.returns-in-First-clause-steady
returns-in-First-clause-steady g c = setting_steady (g.Q.Queue.held c.args.queue.now) (g.Q.Queue.held c.put.new.self) c.args.mark c.args.cost c.put.result c.put.ensures.after

pub returns-in-Again-clause-steady : goal.returns-in-Again-clause-steady
returns-in-Again-clause-steady g c = setting_steady (g.Q.Queue.held c.args.queue.now) (g.Q.Queue.held c.lower.new.self) c.args.mark c.args.cost c.lower.result c.lower.ensures.after

pub returns-in-First-clause-offered : goal.returns-in-First-clause-offered
returns-in-First-clause-offered g c =
    let f = c.in-First.ensures.fallen in
    let e = c.put.ensures in
    put_offered g.C.Cost.lawful (g.Q.Queue.held c.args.queue.now) (g.Q.Queue.held c.put.new.self) c.requires.agrees f.1 (omega (arith, c.requires.span, c.requires.inside)) c.put.result e.answer e.after f.0

pub returns-in-Again-clause-offered : goal.returns-in-Again-clause-offered
returns-in-Again-clause-offered g c =
    let f = c.in-Again.ensures.fallen in
    let e = c.lower.ensures in
    lower_offered g.C.Cost.lawful (g.Q.Queue.held c.args.queue.now) (g.Q.Queue.held c.lower.new.self) c.requires.agrees f.1.1 (omega (arith, c.requires.span, c.requires.inside)) c.lower.result e.answer e.after f.1.0 f.0
