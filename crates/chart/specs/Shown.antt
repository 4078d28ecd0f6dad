-- The state of a chart as the program keeps it, and what a call does to a chart.
use Rattle.std.specs.Prelude.{◌≡◌, vec_items}
use Rattle.chart.specs.declared.sheet.Chart.{Chart}
use Rattle.chart.specs.State.{State}

abbrev pub state : {M : Type 0} → Chart M → State
state chart = record {
  legs = vec_items chart.sheet.legs.items;
  pivots = vec_items chart.sheet.pivots.items;
  home = chart.sheet.home;
  worked = chart.sheet.worked;
}

-- a call takes the chart's state on in one of these ways, and the measure stays
pub record Changes {M : Type 0} (Way : State → State → Type 0) (before after : Chart M) : Type 0 where
  pub brings : Way (state before) (state after)
  pub measure : after.measure ≡ before.measure
