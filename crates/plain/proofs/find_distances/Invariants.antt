use Rattle.waterway.specs.Labels.{Clean, label_of}
use Rattle.waterway.specs.Priced.{water}
use Rattle.plain.specs.Relaxing.{Sure}
use Rattle.plain.proofs.Rounds.{Reached}
use Rattle.plain.proofs.find_distances.Given as goal

-- each label is the cost of a way, no walk of fewer legs than this round's number costs less, and a label that says no is blank
abbrev pub invariant-loop-round : goal.invariant-loop-round
invariant-loop-round g l =
    let K = g.M.Cost.Cost.kind in
    let W = water K (g.M.Measure.priced l.m) l.legs in
    Sure W l.home (label_of K l.labels) × Reached W l.home l._round (label_of K l.labels) × Clean K l.labels
