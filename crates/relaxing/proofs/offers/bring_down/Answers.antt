use Rattle.std.proofs.Common.{sym, refl, ◌∙◌}
use Rattle.measure.proofs.Sums.{some_none, some_injective}
use Rattle.waterway.proofs.Written.{label_read, wrote, clean_wrote}
use Rattle.relaxing.proofs.offers.bring_down.Goals as goal
use Rattle.relaxing.proofs.offers.bring_down.Goals.{in-None, in-Some}

pub returns-in-Some-2-clause-fallen : goal.returns-in-Some-2-clause-fallen
returns-in-Some-2-clause-fallen g c =
    let is = label_read g.C.Cost.kind c.args.labels.now c.args.mark c.index-labels-at.result c.requires (rw c.from-at.ensures at c.index-labels-at.is) in (
      λ v. refl,
      record {
        value = c.in-Some.low;
        is = is ∙ (sym c.told.ensures ∙ c.in-Some.is);
        upto = c.if-below.ensures;
      },
    )

pub returns-clause-fallen : goal.returns-clause-fallen
returns-clause-fallen g c =
    let K = g.C.Cost.kind in
    let is = label_read K c.args.labels.now c.args.mark c.index-labels-at.result c.requires (rw c.from-at.ensures at c.index-labels-at.is) ∙ sym c.told.ensures in
    let written = wrote K c.args.labels.now c.args.mark c.args.cost c.requires in
    rw c.from-at.ensures (elim c.match-told.branch [
      | in-None w ↦ rw w.fall-is (is ∙ w.in-None.is, written)
      | in-Some w ↦ (let low = is ∙ w.in-Some.is in
          let less = w.if-below.ensures in
          rw w.fall-is (λ l e. rw (some_injective low e) at less, (λ e. some_none low e, written)))
    ])

pub returns-clause-clean : goal.returns-clause-clean
returns-clause-clean g c = rw c.from-at.ensures (clean_wrote c.args.mark c.args.cost c.requires)
