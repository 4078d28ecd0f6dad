-- The refusals of a chart by number, and in words.
use Rattle.std.specs.Prelude.{ℕ, List, codes}
use Rattle.chart.specs.declared.refusal.Refusal.{Refusal}
use Rattle.chart.specs.declared.refusal.Refusal.TheVariants.{MarksFull, NoSuchMark, SameEnds, OutOfLimits, LegsFull, JoinedAlready, NoSuchLeg, StandsAlready}

abbrev pub number_of : Refusal → ℕ
number_of MarksFull = 1
number_of NoSuchMark = 2
number_of SameEnds = 3
number_of OutOfLimits = 4
number_of LegsFull = 5
number_of JoinedAlready = 6
number_of NoSuchLeg = 7
number_of StandsAlready = 8

abbrev pub words_of : Refusal → List ℕ
words_of MarksFull = codes "the chart has 256 marks already"
words_of NoSuchMark = codes "no such mark on the chart"
words_of SameEnds = codes "a leg joins two different marks"
words_of OutOfLimits = codes "a leg has 0.1 to 6000 miles and 0 to 99 locks"
words_of LegsFull = codes "the chart has 1024 legs already"
words_of JoinedAlready = codes "a leg joins these marks already"
words_of NoSuchLeg = codes "no such leg on the chart"
words_of StandsAlready = codes "the leg is closed, or open, already"
