use Rattle.std.proofs.Common.{◌≡◌, ap, ◌∙◌, arith}
use Rattle.std.proofs.lemmas.Result.{err_from_is_err_and}
use Rattle.chart.specs.Shown.{state}
use Rattle.chart.specs.State.{marks}
use Rattle.chartfile.proofs.Answered.{refused_of}
use Rattle.chartfile.proofs.Marking.{marks_with_marks, refused_marks}
use Rattle.chartfile.proofs.entry.add_marks.Goals as goal

pub returns-in_err-add_mark : goal.returns-in_err-add_mark
returns-in_err-add_mark g c =
    let p = err_from_is_err_and c.from_residual.result c.from_residual.ensures.1 in
    let refused = refused_of c.in_err-add_mark.ensures.brings in
    record {
      brings = rw (p.1, p.2) (refused_marks _ _ c.loop-added._added _ _ c.loop-added.invariant.brings (omega arith) refused);
      measure = c.in_err-add_mark.ensures.measure ∙ c.loop-added.invariant.measure;
    }

pub returns : goal.returns
returns g c =
    let all : c.loop-added._added ≡ c.args.marks = omega arith in
    let is = rw all at c.loop-added.invariant.brings in
    let same = ap marks is in
    let many = marks_with_marks c.args.marks (state c.args.chart.now) in
    let whole = c.loop-added.chart.sheet.pivots.items.ok.0 in
    let few = c.loop-added.chart.sheet.charted.few in
    record { brings = ((λ more. omega arith, tt), is); measure = c.loop-added.invariant.measure }
