use Rattle.std.proofs.Common.{refl, ◌∙◌, arith, rules}
use Rattle.relaxing.proofs.Voyage.{matched_first, ready_first}
use Rattle.relaxing.proofs.Turns.{turn_inside, turn_matched}
use Rattle.hosts.specs.Local.{pivot_of}
use Rattle.hosts.proofs.Rounding.{found_more, around_past, around_end, round_ready, round_falls, or_then, past_is, grounds, lone_right}
use Rattle.hosts.proofs.rounds.Round.look_round.Goals as goal

pub loop-u-init : goal.loop-u-init
loop-u-init g c =
    let r = c.args.self.now in
    let lone = c.requires.lone in
    let G = grounds g.M.Measure.priced r lone g.M.Cost.Cost.lawful g.met.M.Measure.small g.met.M.Measure.dear c.requires.inside c.requires.long in
    record {
      laid = c.begin.ensures.laid;
      matched = matched_first G.sound G.dear G.housed c.args.v G.pivot c.begin.ensures.begun (c.begin.auto.labels ∙ c.requires.long) (omega (arith, c.begin.auto.labels, c.requires.span));
      ready = λ S' dear' housed pivot. ready_first S' dear' housed c.args.v pivot c.begin.ensures.begun;
      found = tt;
      span = refl;
    }

pub bounds-self-from : goal.bounds-self-from
bounds-self-from g c =
    let r = c.args.self.now in
    let lone = c.requires.lone in
    let G = grounds g.M.Measure.priced r lone g.M.Cost.Cost.lawful g.met.M.Measure.small g.met.M.Measure.dear c.requires.inside c.requires.long in
    let in_it = turn_inside G.sound G.dear G.housed c.args.v G.pivot c.loop-u.invariant.matched c.loop-u.invariant.ready c.in-Some.ensures.answer c.in-Some.ensures.after in
    omega (arith, in_it, lone.long, c.from.ensures)

pub spread_out-requires-clause-matched : goal.spread_out-requires-clause-matched
spread_out-requires-clause-matched g c =
    let r = c.args.self.now in
    let lone = c.requires.lone in
    let G = grounds g.M.Measure.priced r lone g.M.Cost.Cost.lawful g.met.M.Measure.small g.met.M.Measure.dear c.requires.inside c.requires.long in
    turn_matched G.sound G.dear G.housed c.args.v G.pivot c.loop-u.invariant.matched c.loop-u.invariant.ready c.in-Some.ensures.answer c.in-Some.ensures.after

pub spread_out-requires-clause-right : goal.spread_out-requires-clause-right
spread_out-requires-clause-right g c =
    let r = c.args.self.now in
    let lone = c.requires.lone in
    let G = grounds g.M.Measure.priced r lone g.M.Cost.Cost.lawful g.met.M.Measure.small g.met.M.Measure.dear c.requires.inside c.requires.long in
    lone_right g.M.Measure.priced r lone G

pub spread_out-requires-clause-inside : goal.spread_out-requires-clause-inside
spread_out-requires-clause-inside g c =
    let r = c.args.self.now in
    let lone = c.requires.lone in
    let G = grounds g.M.Measure.priced r lone g.M.Cost.Cost.lawful g.met.M.Measure.small g.met.M.Measure.dear c.requires.inside c.requires.long in
    let in_it = turn_inside G.sound G.dear G.housed c.args.v G.pivot c.loop-u.invariant.matched c.loop-u.invariant.ready c.in-Some.ensures.answer c.in-Some.ensures.after in
    omega (arith, in_it, c.loop-u.auto.labels, c.begin.auto.labels, c.requires.long)

pub loop-u-smaller : goal.loop-u-smaller
loop-u-smaller g c =
    let r = c.args.self.now in
    let lone = c.requires.lone in
    let G = grounds g.M.Measure.priced r lone g.M.Cost.Cost.lawful g.met.M.Measure.small g.met.M.Measure.dear c.requires.inside c.requires.long in
    round_falls lone.selves G.sound G.dear c.args.v G.v_in c.loop-u.invariant.matched c.loop-u.invariant.ready c.in-Some.ensures.answer c.in-Some.ensures.after c.spread_out.ensures.ran c.spread_out.ensures.spread

pub loop-u-preserved : goal.loop-u-preserved
loop-u-preserved g c =
    let r = c.args.self.now in
    let lone = c.requires.lone in
    let G = grounds g.M.Measure.priced r lone g.M.Cost.Cost.lawful g.met.M.Measure.small g.met.M.Measure.dear c.requires.inside c.requires.long in
    let i = c.loop-u.invariant in
    let d = c.in-Some.ensures in
    record {
      laid = c.spread_out.ensures.laid;
      matched = c.spread_out.ensures.ran.matched;
      ready = round_ready lone.selves G.sound G.dear c.args.v G.v_in i.matched i.ready d.answer d.after c.spread_out.ensures.ran c.spread_out.ensures.spread;
      found = found_more lone.selves G.sound G.dear c.args.v G.v_in i.matched i.ready r.pivots.now d.answer i.found (or_then c.loop-u.best (pivot_of r.pivots.now c.in-Some.u) c.or-best.ensures (rw c.from.ensures at c.then_some.ensures) (search rules));
      span = omega (arith, c.spread_out.ensures.ran.steady.span, d.after.span, i.span);
    }

pub returns-then-is_past-clause-around : goal.returns-then-is_past-clause-around
returns-then-is_past-clause-around g c =
    let r = c.args.self.now in
    let lone = c.requires.lone in
    let G = grounds g.M.Measure.priced r lone g.M.Cost.Cost.lawful g.met.M.Measure.small g.met.M.Measure.dear c.requires.inside c.requires.long in
    let i = c.loop-u.invariant in
    around_past lone.selves G.sound G.dear c.args.v G.v_in i.matched i.ready r.pivots.now c.in-Some.ensures.answer c.loop-u.best i.found (past_is g.M.Cost.Cost.kind c.loop-u.best c.if-is_past.ensures (cc))

pub returns-in_default-clause-around : goal.returns-in_default-clause-around
returns-in_default-clause-around g c =
    let r = c.args.self.now in
    let lone = c.requires.lone in
    let G = grounds g.M.Measure.priced r lone g.M.Cost.Cost.lawful g.met.M.Measure.small g.met.M.Measure.dear c.requires.inside c.requires.long in
    let i = c.loop-u.invariant in
    around_end lone.selves G.sound G.dear c.args.v G.v_in i.matched i.ready r.pivots.now c.in_default.ensures.answer
