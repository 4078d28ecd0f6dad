-- Every chart is in a possible state.
use Rattle.std.proofs.Common.{◌≡◌, ℕ, Bool, List, [], ◌∷◌, length, Some, None, Option, refl, arith}
use Rattle.waterway.specs.declared.Leg.{Leg}
use Rattle.chart.specs.declared.sheet.Chart.{Chart}
use Rattle.waterway.specs.Priced.{Charted}
use Rattle.chart.specs.Sound.{HomeIn}
use Rattle.chart.specs.Possible.{Possible}
use Rattle.chart.specs.Shown.{state}
use Rattle.chart.specs.State.{State, marks, blank}

pub possible : {M : Type 0} (chart : Chart M) → Possible (state chart)
possible chart =
    let sheet = chart.sheet in
    let pivots = sheet.pivots.items.ok.0 in
    let legs = sheet.legs.items.ok.0 in
    record {
      legs_few = omega (arith, sheet.legs.few);
      charted = rw pivots at sheet.charted;
      parted = sheet.parted;
      single = sheet.single;
      home_in = rw pivots at sheet.home_in;
      idle = sheet.idle;
    }

no_legs : (legs : List Leg) → Charted legs 0 → legs ≡ []
no_legs [] charted = refl
no_legs (leg ∷ legs) charted = let off = charted.from_in 0 (omega arith) in absurd (omega arith)

no_home : (home : Option ℕ) → HomeIn 0 home → home ≡ None
no_home None inside = refl
no_home (Some h) inside = let off = inside h refl in absurd (omega arith)

no_pivots : (pivots : List Bool) → length pivots ≡ 0 → pivots ≡ []
no_pivots [] none = refl
no_pivots (p ∷ pivots) none = absurd (omega arith)

-- a chart without marks is blank
pub blank_without_marks : (s : State) → Possible s → marks s ≡ 0 → s ≡ blank
blank_without_marks s p none =
    let legs = no_legs s.legs (rw none at p.charted) in
    let pivots = no_pivots s.pivots none in
    let home = no_home s.home (rw none at p.home_in) in
    let worked = p.idle home in
    λ i. record { legs = legs i; pivots = pivots i; home = home i; worked = worked i }
