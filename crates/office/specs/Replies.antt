-- What the office writes for each line of a script.
use Rattle.std.specs.Prelude.{ℕ, ◌-◌, ◌^◌, List, ◌++◌, codes, Ok, Err}
use Rattle.std.specs.Fmt.{decimal, styled_decimal, format_spec}
use Rattle.chart.specs.Refusals as refusal
use Rattle.calls.specs.Words as answer
use Rattle.office.specs.Words.{unit_name, slip_words}
use Rattle.office.specs.declared.reply.Reply.{Reply}
use Rattle.office.specs.declared.reply.Reply.TheVariants.{Measure, Call, Slip}

-- a number of one digit stands behind a zero
abbrev pub two_digits : ℕ → List ℕ
two_digits n = styled_decimal (format_spec 32 0 4 2 (2 ^ 64 - 1)) n

abbrev pub reply_of : Reply → List ℕ
reply_of (Measure unit) = codes "measure " ++ unit_name unit
reply_of (Call (Ok done)) = answer.words_of done
reply_of (Call (Err why)) = codes "refused " ++ two_digits (refusal.number_of why) ++ codes " " ++ refusal.words_of why
reply_of (Slip line slip) = codes "? line " ++ decimal line ++ codes " " ++ slip_words slip
