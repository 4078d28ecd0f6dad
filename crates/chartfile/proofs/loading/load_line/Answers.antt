use Rattle.std.proofs.Common.{refl}
use Rattle.std.proofs.lemmas.Result.{err_from_is_err_and}
use Rattle.chartfile.specs.Faults.{refused, bad_bytes}
use Rattle.chartfile.proofs.loading.load_line.Goals as goal

pub returns-in_err-enter : goal.returns-in_err-enter
returns-in_err-enter g c =
    let p = err_from_is_err_and c.from_residual-in_err-enter.result c.from_residual-in_err-enter.ensures.1 in
    let line = c.in_ok-frame.ensures in
    let entry = c.in_err-enter.ensures in
    record {
      brings = rw (p.1, p.2) (bad_bytes line.first (refused c.in_ok-frame.frame refl line.follows entry.brings));
      measure = entry.measure;
    }
