use Rattle.std.proofs.Common.{sym, ◌∙◌}
use Rattle.waterway.proofs.Written.{label_read}
use Rattle.relaxing.proofs.offers.label_at.Goals as goal

pub returns : goal.returns
returns g c =
    c.told.ensures ∙ sym (label_read g.C.Cost.kind c.args.labels.now c.args.mark c.index-labels-from.result c.requires (rw c.from.ensures at c.index-labels-from.is))
