use Rattle.std.proofs.Common.{ℕ}
use Rattle.waterway.specs.Labels.{Clean, label_of}
use Rattle.waterway.specs.Priced.{water}
use Rattle.plain.specs.Relaxing.{Sure, Round}
use Rattle.plain.proofs.relax_all.Given as goal

-- the round has come over the legs so far
abbrev pub invariant-loop-leg : goal.invariant-loop-leg
invariant-loop-leg g l =
    let K = g.M.Cost.Cost.kind in
    let W = water K (g.M.Measure.priced l.m) l.legs in
    (Clean K l.initial.labels → Clean K l.labels)
    × ((home : ℕ) → Sure W home (label_of K l.initial.labels) → Round W l.leg-index home (label_of K l.initial.labels) (label_of K l.labels))
