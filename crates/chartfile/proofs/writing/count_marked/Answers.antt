use Rattle.std.proofs.Common.{◌≡◌, count_by, sym, ◌∙◌, rules}
use Rattle.chartfile.proofs.Counting.{marked_count}
use Rattle.chartfile.proofs.writing.count_marked.Goals as goal

pub returns-clause-value : goal.returns-clause-value
returns-clause-value c =
    let counted : c.count.result ≡ count_by (λ p. p) c.args.pivots.now = search rules in
    counted ∙ sym (marked_count 0 c.args.pivots.now)
