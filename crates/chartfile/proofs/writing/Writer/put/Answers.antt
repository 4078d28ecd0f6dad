use Rattle.std.proofs.Common.{refl, arith}
use Rattle.chartfile.proofs.Splices.{splice_one}
use Rattle.chartfile.proofs.writing.Writer.put.Goals as goal

pub returns : goal.returns
returns c = record { same = refl; at = refl; buffer = splice_one _ _ _ (omega arith) }
