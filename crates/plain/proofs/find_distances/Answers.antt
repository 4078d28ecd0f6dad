use Rattle.std.proofs.Common.{◌≡◌, length, refl, rules, arith}
use Rattle.std.proofs.lemmas.Bool.{both_ways}
use Rattle.waterway.proofs.Priced.{charted, all_lie, priced_sound}
use Rattle.waterway.proofs.Written.{blanked_as, blanked_clean}
use Rattle.plain.proofs.Rounds.{sure_start, reached_start, reached_more, all_told}
use Rattle.plain.proofs.find_distances.Goals as goal

pub returns-then-not-all_lie : goal.returns-then-not-all_lie
returns-then-not-all_lie g c =
    (omega arith, omega arith, λ chart. both_ways c.all_lie.result c.if-not-all_lie.true (c.all_lie.ensures.1 (all_lie chart)), refl)

pub loop-round-init : goal.loop-round-init
loop-round-init g c =
    let K = g.M.Cost.Cost.kind in
    let n = length c.args.labels.now in
    let chart = charted c.if-marks-gt256.false (c.all_lie.ensures.0 c.if-not-all_lie.false) in
    let S = priced_sound K (g.M.Measure.priced c.args.m.now) chart g.M.Cost.Cost.lawful (g.met.M.Measure.small c.args.m.now) in
    let blank = c.blank_labels.ensures in
    let sure = sure_start S (blanked_as K n (search rules)) (rw c.zero.ensures at c.lower.ensures.lowered) in
    (sure, reached_start S sure, c.lower.ensures.clean (rw blank (blanked_clean K n)))

pub loop-round-preserved : goal.loop-round-preserved
loop-round-preserved g c =
    let chart = charted c.if-marks-gt256.false (c.all_lie.ensures.0 c.if-not-all_lie.false) in
    let S = priced_sound g.M.Cost.Cost.kind (g.M.Measure.priced c.args.m.now) chart g.M.Cost.Cost.lawful (g.met.M.Measure.small c.args.m.now) in
    let before = c.loop-round.invariant in
    let round = c.relax_all.ensures.round c.args.home before.0 in
    (round.sure, reached_more S (omega arith) before.0 before.1 round, c.relax_all.ensures.clean before.2)

pub returns : goal.returns
returns g c =
    let chart = charted c.if-marks-gt256.false (c.all_lie.ensures.0 c.if-not-all_lie.false) in
    let S = priced_sound g.M.Cost.Cost.kind (g.M.Measure.priced c.args.m.now) chart g.M.Cost.Cost.lawful (g.met.M.Measure.small c.args.m.now) in
    let last : c.loop-round._round ≡ length c.args.labels.now = omega arith in
    let done = c.loop-round.invariant in
    (chart, omega arith, λ v lt. all_told S done.0 (rw last at done.1) v (omega arith), done.2)
