use Rattle.std.proofs.Common.{◌≡◌, take, string_bytes}
use Rattle.office.specs.Lines.{replies_to}
use Rattle.office.proofs.script.replies.Given as goal

-- the replies to the lines so far
abbrev pub invariant-loop-line : goal.invariant-loop-line
invariant-loop-line l = string_bytes l.out ≡ replies_to l.answers (take l.line-index l.lines)
