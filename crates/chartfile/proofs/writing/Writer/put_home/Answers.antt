use Rattle.chartfile.proofs.Puts.{puts_none}
use Rattle.chartfile.proofs.writing.Writer.put_home.Goals as goal

pub returns-in_default : goal.returns-in_default
returns-in_default c = rw c.in_default.is (puts_none _)
