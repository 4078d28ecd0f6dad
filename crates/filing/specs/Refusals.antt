-- The numbers of refusals, whoever refused.
use Rattle.std.specs.Prelude.{ℕ}
use Rattle.chart.specs.Refusals as chart
use Rattle.chartfile.specs.Faults as file
use Rattle.filing.specs.declared.errand.Refused.{Refused}
use Rattle.filing.specs.declared.errand.Refused.TheVariants.{Chart, File, Buffer}

abbrev pub number_of : Refused → ℕ
number_of (Chart refusal) = chart.number_of refusal
number_of (File fault) = file.number_of fault.cause
number_of (Buffer short) = 17
