use Rattle.std.proofs.Common.{◌∙◌}
use Rattle.hosts.proofs.Nearing.{made_pivot, made_none, made_some, nearest_moved, written_moved}
use Rattle.hosts.proofs.Rounding.{grounds}
use Rattle.hosts.proofs.rounds.Round.local_host.Goals as goal
use Rattle.hosts.proofs.rounds.Round.local_host.Goals.{in-Some, in-None}

pub returns-then-self-from-clause-made : goal.returns-then-self-from-clause-made
returns-then-self-from-clause-made g c =
    let r = c.args.self.now in
    let G = grounds g.M.Measure.priced r c.requires.lone g.M.Cost.Cost.lawful g.met.M.Measure.small g.met.M.Measure.dear c.requires.inside c.requires.long in
    rw c.own_host.ensures (made_pivot G.sound G.dear r.pivots.now c.args.v G.v_in c.args.start c.args.near.now (rw c.from.ensures at c.if-self-from.true))

pub returns-clause-made : goal.returns-clause-made
returns-clause-made g c =
    let r = c.args.self.now in
    let G = grounds g.M.Measure.priced r c.requires.lone g.M.Cost.Cost.lawful g.met.M.Measure.small g.met.M.Measure.dear c.requires.inside c.requires.long in
    let long = c.look_round.auto.labels ∙ c.requires.long in
    let around = c.look_round.ensures.around in
    let other = rw c.from.ensures at c.if-self-from.false in
    let h = nearest_moved g.M.Cost.Cost.kind r.pivots.now c.look_round.new.labels c.nearest_pivot-pivot.result c.nearest_pivot-pivot.ensures long in
    elim c.match-pivot.branch [
      | in-None w ↦ rw (w.near-is, w.end-is, w.in-None.is) (made_none G.sound G.dear r.pivots.now c.args.v G.v_in c.args.start c.args.near.now around other (rw w.in-None.is at h))
      | in-Some w ↦ rw (w.near-is, w.end-is, w.in-Some.is) (made_some G.sound G.dear r.pivots.now c.args.v G.v_in c.args.start c.args.near.now around other w.in-Some.best
          w.write_rows-end.new.near w.write_rows-end.result (rw w.in-Some.is at h) (written_moved w.write_rows-end.ensures long))
    ]
