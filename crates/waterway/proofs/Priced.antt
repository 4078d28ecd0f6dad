-- Under the laws of a measure the theory speaks of every charted list of legs.
use Rattle.std.proofs.Common.{ℕ, ◌^◌, ◌≤◌, List}
use Rattle.measure.specs.Kind.{Kind, Lawful}
use Rattle.measure.specs.Legal.{Legal}
use Rattle.waterway.specs.declared.Leg.{Leg}
use Rattle.waterway.specs.Legs.{leg_at}
use Rattle.waterway.specs.Ways.{Sound, Dear}
use Rattle.waterway.specs.Priced.{water, AllLie, Charted}

pub charted : {legs : List Leg} {n : ℕ} → n ≤ 256 → AllLie n legs → Charted legs n
charted few lie = record { few = few; legal = λ k lt. (lie k lt).legal; from_in = λ k lt. (lie k lt).from_in; to_in = λ k lt. (lie k lt).to_in }

pub all_lie : {legs : List Leg} {n : ℕ} → Charted legs n → AllLie n legs
all_lie chart k lt = record { legal = chart.legal k lt; from_in = chart.from_in k lt; to_in = chart.to_in k lt }

module _ {C : Type 0} (K : Kind C) (priced : ℕ → ℕ → C) {legs : List Leg} {n : ℕ} (chart : Charted legs n) where
  pub priced_sound : Lawful K → ((length locks : ℕ) → Legal length locks → K.size (priced length locks) ≤ 2 ^ 36) → Sound (water K priced legs) n
  priced_sound lawful small = record {
    lawful = lawful;
    few = chart.few;
    small = λ k lt. small (leg_at legs k).length (leg_at legs k).locks (chart.legal k lt);
    from_in = chart.from_in;
    to_in = chart.to_in;
  }

  pub priced_dear : ((length locks : ℕ) → Legal length locks → K.Below K.zero (priced length locks)) → Dear (water K priced legs)
  priced_dear dear = record { each = λ k lt. dear (leg_at legs k).length (leg_at legs k).locks (chart.legal k lt) }
