-- Bundles that are right make a waterway that is sound.
use Rattle.std.proofs.Common.{ℕ, ◌^◌, ◌≤◌, length}
use Rattle.measure.specs.Kind.{Kind, Lawful}
use Rattle.measure.specs.Legal.{Legal}
use Rattle.waterway.specs.Ways.{Sound}
use Rattle.waterway.proofs.Priced.{priced_sound}
use Rattle.relaxing.specs.declared.bundles.Bundles.{Bundles}
use Rattle.relaxing.specs.Bundles.{waters, Right}

pub right_sound : {M C : Type 0} {K : Kind C} (priced : M → ℕ → ℕ → C) (b : Bundles M C) → Right K priced b → Lawful K
    → ((m : M) (long locks : ℕ) → Legal long locks → K.size (priced m long locks) ≤ 2 ^ 36) → Sound (waters K priced b) (length b.hosts.now)
right_sound {K = K} priced b right lawful small = priced_sound K (priced b.measure.now) right.chart lawful (small b.measure.now)
