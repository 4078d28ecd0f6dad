-- What stands in the bundles that a search reads.
use Rattle.std.specs.Prelude.{ℕ, length}
use Rattle.measure.specs.Kind.{Kind}
use Rattle.waterway.specs.Ways.{Water}
use Rattle.waterway.specs.Priced.{water}
use Rattle.relaxing.specs.declared.bundles.Bundles.{Bundles}
use Rattle.relaxing.specs.Search.{Sea}

-- the legs under their prices
abbrev pub waters : {M C : Type 0} (K : Kind C) → (M → ℕ → ℕ → C) → Bundles M C → Water K
waters K priced b = water K (priced b.measure.now) b.legs.now

-- legs, hosts and balls are right
-- a clause and no ghost field: it holds ways, and a ghost field holds only facts that have one proof
abbrev pub Right : {M C : Type 0} (K : Kind C) → (M → ℕ → ℕ → C) → Bundles M C → Type 0
Right K priced b = Sea (waters K priced b) (length b.hosts.now) b.hosts.now b.near.now
