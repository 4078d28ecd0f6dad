use Rattle.std.proofs.Common.{◌≡◌, length, sym, ◌∙◌, arith}
use Rattle.waterway.specs.Priced.{water}
use Rattle.waterway.proofs.Bills.{toll_is}
use Rattle.waterway.proofs.Priced.{priced_sound}
use Rattle.plain.proofs.Rounds.{round_more}
use Rattle.plain.proofs.relax_all.Goals as goal

pub loop-leg-preserved : goal.loop-leg-preserved
loop-leg-preserved g c =
    let S = priced_sound g.M.Cost.Cost.kind (g.M.Measure.priced c.args.m.now) c.requires g.M.Cost.Cost.lawful (g.met.M.Measure.small c.args.m.now) in
    let W = water g.M.Cost.Cost.kind (g.M.Measure.priced c.args.m.now) c.args.legs.now in
    let price = c.price.ensures ∙ sym (toll_is W c.loop-leg.leg-index c.loop-leg-test.true) in (
      λ clean. c.relax_leg.ensures.clean (c.loop-leg.invariant.0 clean),
      λ home sure. round_more S c.loop-leg-test.true (c.loop-leg.invariant.1 home sure) (rw price at c.relax_leg.ensures.relaxed),
    )

pub returns-clause-round : goal.returns-clause-round
returns-clause-round g c home sure =
    let all : c.loop-leg.leg-index ≡ length c.args.legs.now = omega arith in
    rw all at (c.loop-leg.invariant.1 home sure)
