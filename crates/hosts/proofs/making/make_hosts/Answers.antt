use Rattle.std.proofs.Common.{◌≡◌, ◌≤◌, length, refl, sym, ◌∙◌, arith}
use Rattle.bundling.specs.Marks.{no_host}
use Rattle.waterway.proofs.Priced.{priced_sound, priced_dear}
use Rattle.hosts.proofs.Hosting.{hosts_none, hosts_kept, near_table, hosts_more, made_moved, all_made, same_pivots, all_housed, all_balled}
use Rattle.hosts.proofs.making.make_hosts.Goals as goal

pub loop-v-init : goal.loop-v-init
loop-v-init g c = record { span = refl; few = omega arith; made = hosts_none c.args.hosts.now c.args.near.now c.args.near.now 0 0 (no_host g.M.Cost.Cost.kind) }

pub loop-v-preserved : goal.loop-v-preserved
loop-v-preserved g c =
    let made = made_moved c.local_host.ensures.made c.requires.selves.long in
    record {
      span = c.local_host.ensures.span ∙ c.loop-v.invariant.span;
      few = omega (arith, made.short, made.ends, c.loop-v.invariant.few, c.requires.chart.few);
      made = hosts_more c.loop-v.hosts c.loop-v.near c.local_host.new.near c.loop-v.v c.loop-v.at c.local_host.result
          (omega (arith, c.loop-v.auto.hosts, c.loop-v-test.true)) c.local_host.auto.near c.loop-v.invariant.made made;
    }

pub returns-clause-made : goal.returns-clause-made
returns-clause-made g c =
    let priced = g.M.Measure.priced c.args.measure.now in
    let pivots = c.args.pivots.now in
    let chart = rw (sym c.requires.long) at c.requires.chart in
    let S = priced_sound g.M.Cost.Cost.kind priced chart g.M.Cost.Cost.lawful (g.met.M.Measure.small c.args.measure.now) in
    let dear = priced_dear g.M.Cost.Cost.kind priced chart (g.met.M.Measure.dear c.args.measure.now) in
    let long : length c.loop-v.hosts ≡ length pivots = omega (arith, c.loop-v.auto.hosts, c.requires.hosts, c.requires.long) in
    let done = rw (sym c.requires.long) at (all_made {m = length c.args.labels.now} c.loop-v.invariant.made (omega (arith, c.loop-v-test.false, c.loop-v.auto.v-end, c.requires.hosts))) in
    let near = c.blank_rows.new.near in
    let blanks = c.blank_rows.ensures in
    let room = c.if-at-near.false in
    let all = hosts_kept c.loop-v.hosts c.loop-v.near near (length pivots) c.loop-v.at c.blank_rows.auto.near blanks.before done in
    let fits : c.loop-v.at ≤ length near = omega (arith, c.blank_rows.auto.near, room) in
    record {
      needed = record { rows = done.rows; balls = done.balls; many = done.many };
      table = near_table c.loop-v.hosts c.loop-v.near near (length pivots) c.loop-v.at c.blank_rows.auto.near blanks.before fits done blanks.blank;
      housed = all_housed S dear pivots c.loop-v.hosts near c.loop-v.at long refl all fits;
      balled = all_balled S dear pivots c.loop-v.hosts near c.loop-v.at long refl all fits;
      pivots_are = same_pivots S dear pivots c.loop-v.hosts near c.loop-v.at long refl all fits;
    }
