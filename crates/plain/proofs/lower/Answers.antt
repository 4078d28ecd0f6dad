use Rattle.std.proofs.Common.{refl, inl, inr, arith}
use Rattle.std.proofs.lemmas.Bool.{both_ways}
use Rattle.waterway.proofs.Written.{label_read, wrote, clean_wrote}
use Rattle.plain.proofs.lower.Goals as goal

pub returns-then-not-is_within-clause-lowered : goal.returns-then-not-is_within-clause-lowered
returns-then-not-is_within-clause-lowered g c =
    let K = g.C.Cost.kind in
    let at = c.from-at.ensures in
    let read = label_read K c.args.labels.now c.args.mark c.index-labels-at.result (omega arith) (rw (← at) c.index-labels-at.is) in
    rw at (inr (
      wrote K c.args.labels.now c.args.mark c.args.cost (omega arith),
      λ w. both_ways c.is_within.result c.if-not-is_within.true (c.is_within.ensures.1 (rw read at w)),
    ))

pub returns-else-not-is_within-clause-lowered : goal.returns-else-not-is_within-clause-lowered
returns-else-not-is_within-clause-lowered g c =
    let K = g.C.Cost.kind in
    let read = label_read K c.args.labels.now c.args.mark c.index-labels-at.result (omega arith) (rw (← c.from-at.ensures) c.index-labels-at.is) in
    inl (λ v. refl, rw read (c.is_within.ensures.0 c.if-not-is_within.false))

pub returns-then-not-is_within-clause-clean : goal.returns-then-not-is_within-clause-clean
returns-then-not-is_within-clause-clean g c clean = rw c.from-at.ensures (clean_wrote c.args.mark c.args.cost (omega arith) clean)
