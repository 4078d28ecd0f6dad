use Rattle.std.proofs.Common.{rules}
use Rattle.chartfile.proofs.KindsOf.{unknown_kind}
use Rattle.chartfile.proofs.frame.frame_of.Goals as goal

pub returns-in_err-ok : goal.returns-in_err-ok
returns-in_err-ok c = rw c.from_residual-in_err-ok.ensures (unknown_kind c.args.bytes.now c.in_ok-first.field-0.now (search rules) (search rules))
