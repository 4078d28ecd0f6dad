use Rattle.std.proofs.Common.{◌+◌, [], ◌∷◌, length, map, take, sym, ap, ◌∙◌, arith, length-append}
use Rattle.std.proofs.lemmas.List.{map_push}
use Rattle.chartfile.specs.declared.frame.Frame.TheVariants.{Pivot}
use Rattle.chartfile.specs.Frames.{lines}
use Rattle.chartfile.specs.File.{marked_from}
use Rattle.chartfile.proofs.Counting.{length_pivots, marked_yes, marked_no, marked_upto, turn_inside, turn_rest}
use Rattle.chartfile.proofs.Loaded.{lines_push}
use Rattle.chartfile.proofs.Puts.{puts_as, puts_none, puts_more, room_more}
use Rattle.chartfile.proofs.writing.Writer.put_pivots.Goals as goal

pub loop-mark-init : goal.loop-mark-init
loop-mark-init c = rw (c.into_iter-mark-iterator.ensures.into_iter_gives, c.zip-mark-items.ensures.first) (sym c.zip-mark-items.ensures.second.0, omega arith, puts_none _)

pub put_frame-requires : goal.put_frame-requires
put_frame-requires c =
    let i = c.loop-mark.mark-iterator.a.start in
    let pivots = c.args.pivots.now in
    let s = c.in-Some.ensures.steps in
    let left = c.loop-mark.invariant.0 ∙ s.1 in
    let inside = turn_inside pivots i left in
    let marks = marked_from 0 (take i pivots) in
    let one_more = ap length (marked_yes pivots i left c.if-marked.true) in
    let longer = length-append marks (i ∷ []) in
    let upto = marked_upto pivots (i + 1) (omega arith) in
    let whole = length_pivots (marked_from 0 pivots) in
    let done = length_pivots marks in
    room_more c.loop-mark.invariant.2 9 (omega arith)

pub loop-mark-preserved-then-marked : goal.loop-mark-preserved-then-marked
loop-mark-preserved-then-marked c =
    let i = c.loop-mark.mark-iterator.a.start in
    let pivots = c.args.pivots.now in
    let s = c.in-Some.ensures.steps in
    let left = c.loop-mark.invariant.0 ∙ s.1 in
    let inside = turn_inside pivots i left in
    let marks = marked_from 0 (take i pivots) in
    let upto = marked_upto pivots i (omega arith) in
    let whole = length_pivots (marked_from 0 pivots) in
    let done = length_pivots marks in
    let more = ap (map Pivot) (marked_yes pivots i left c.if-marked.true) ∙ map_push Pivot marks i in
    rw (s.0.1, s.0.0) (
      turn_rest pivots i left,
      omega arith,
      puts_as (sym (lines_push (map Pivot marks) (Pivot i)) ∙ ap lines (sym more)) (puts_more c.loop-mark.invariant.2 (rw s.0.0 at c.put_frame.ensures) (omega arith)),
    )

pub loop-mark-preserved : goal.loop-mark-preserved
loop-mark-preserved c =
    let i = c.loop-mark.mark-iterator.a.start in
    let pivots = c.args.pivots.now in
    let s = c.in-Some.ensures.steps in
    let left = c.loop-mark.invariant.0 ∙ s.1 in
    let inside = turn_inside pivots i left in
    let same = marked_no pivots i left c.if-marked.false in
    rw (s.0.1, s.0.0) (turn_rest pivots i left, omega arith, rw same c.loop-mark.invariant.2)
