-- The lines of a script, and the replies to them by the answers to their calls.
use Rattle.std.specs.Prelude.{◌≡◌, ℕ, ◌<◌, List, [], ◌∷◌, ◌++◌, Some, None, Option, Result, option_map, slice_get}
use Rattle.std.specs.List.{flat_map}
use Rattle.chart.specs.declared.refusal.Refusal.{Refusal}
use Rattle.calls.specs.declared.call.Answer.{Answer}
use Rattle.office.specs.declared.reply.Reply.{Reply}
use Rattle.office.specs.declared.reply.Reply.TheVariants as reply
use Rattle.office.specs.declared.script.Line.{Line}
use Rattle.office.specs.declared.script.Line.TheVariants.{Told, Call}
use Rattle.office.specs.Replies.{reply_of}

-- a line that goes by a call goes by one of the first n
abbrev pub IsPlaced : ℕ → Line → Type 0
IsPlaced n line = (at : ℕ) → line ≡ Call at → at < n

-- the reply to a line, and none where its call has no answer
abbrev pub reply_to : List (Result Answer Refusal) → Line → Option Reply
reply_to answers (Told told) = Some told
reply_to answers (Call at) = option_map reply.Call (slice_get answers at)

-- a reply, ended by a line feed
abbrev pub line_of : Option Reply → List ℕ
line_of (Some told) = reply_of told ++ 10 ∷ []
line_of None = []

-- the replies to the lines, in their order
abbrev pub replies_to : List (Result Answer Refusal) → List Line → List ℕ
replies_to answers lines = flat_map (λ line. line_of (reply_to answers line)) lines
