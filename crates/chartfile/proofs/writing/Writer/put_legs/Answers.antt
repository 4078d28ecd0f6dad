use Rattle.std.proofs.Common.{map, get_or, take, sym, ap, ◌∙◌, arith, length-take-le}
use Rattle.std.proofs.lemmas.List.{take_more, map_push}
use Rattle.waterway.specs.Legs.{no_leg}
use Rattle.chartfile.specs.declared.frame.Frame.TheVariants.{Entry}
use Rattle.chartfile.specs.Frames.{lines}
use Rattle.chartfile.proofs.Counting.{length_legs}
use Rattle.chartfile.proofs.Loaded.{lines_push}
use Rattle.chartfile.proofs.Puts.{puts_as, puts_none, puts_more, room_more}
use Rattle.chartfile.proofs.writing.Writer.put_legs.Goals as goal

pub loop-leg-init : goal.loop-leg-init
loop-leg-init c = puts_none _

pub put_frame-requires : goal.put_frame-requires
put_frame-requires c =
    let i = c.loop-leg.leg-index in
    let legs = c.args.legs.now in
    let whole = length_legs legs in
    let done = length_legs (take i legs) in
    let few = length-take-le i legs (omega arith) in
    room_more c.loop-leg.invariant 19 (omega arith)

pub loop-leg-preserved : goal.loop-leg-preserved
loop-leg-preserved c =
    let i = c.loop-leg.leg-index in
    let legs = c.args.legs.now in
    let whole = length_legs legs in
    let done = length_legs (take i legs) in
    let few = length-take-le i legs (omega arith) in
    let more = ap (map Entry) (take_more legs i no_leg c.loop-leg-test.true) ∙ map_push Entry (take i legs) (get_or legs i no_leg) in
    (puts_as (sym (lines_push (map Entry (take i legs)) (Entry (get_or legs i no_leg))) ∙ ap lines (sym more)) (puts_more c.loop-leg.invariant c.put_frame.ensures (omega arith)))
