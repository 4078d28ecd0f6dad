-- What stands in the way home that the steps read.
use Rattle.std.specs.Prelude.{ℕ}
use Rattle.measure.specs.Kind.{Kind}
use Rattle.waterway.specs.Ways.{Water}
use Rattle.waterway.specs.Priced.{water}
use Rattle.homeward.specs.declared.Homeward.{Homeward}

-- the legs under their prices
abbrev pub waters : {M C : Type 0} (K : Kind C) → (M → ℕ → ℕ → C) → Homeward M → Water K
waters K priced h = water K (priced h.measure.now) h.legs.now
