use Rattle.std.proofs.Common.{arith}
use Rattle.chartfile.proofs.Puts.{room_more, puts_more}
use Rattle.chartfile.proofs.writing.Writer.put_digits.Goals as goal

pub put-requires-2 : goal.put-requires-2
put-requires-2 c = room_more c.put.ensures 1 (omega arith)

pub returns : goal.returns
returns c = rw (← c.digit_of.ensures, ← c.digit_of-2.ensures) (puts_more c.put.ensures c.put-2.ensures (omega arith))
