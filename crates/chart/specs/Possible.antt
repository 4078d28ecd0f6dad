-- The states that a chart can be in.
use Rattle.std.specs.Prelude.{◌≡◌, ◌≤◌, false, length, None}
use Rattle.waterway.specs.Priced.{Charted}
use Rattle.chart.specs.Sound.{Parted, Single, HomeIn}
use Rattle.chart.specs.State.{State, marks}

pub record Possible (s : State) : Type 0 where
  pub legs_few : length s.legs ≤ 1024
  pub charted : Charted s.legs (marks s)
  pub parted : Parted s.legs
  pub single : Single s.legs
  pub home_in : HomeIn (marks s) s.home
  pub idle : s.home ≡ None → s.worked ≡ false
