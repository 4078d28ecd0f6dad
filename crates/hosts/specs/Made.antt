-- What stands when all hosts are made, and when the near table has too few rows.
use Rattle.std.specs.Prelude.{◌≡◌, ℕ, ◌<◌, Bool, List, map, length}
use Rattle.measure.specs.Kind.{Kind}
use Rattle.waterway.specs.Ways.{Water}
use Rattle.waterway.specs.Near.{NearTable}
use Rattle.bundling.specs.declared.Host.{Host}
use Rattle.bundling.specs.declared.Near.{Near}
use Rattle.bundling.specs.Marks.{pivot_in}
use Rattle.relaxing.specs.Search.{Housed, Balled}
use Rattle.hosts.specs.declared.making.TooFewRows.{TooFewRows}
use Rattle.hosts.specs.Local.{pivot_of, pair, Needed}

-- the hosts are right, and the near table holds the balls, which take so many rows
pub record AllMade {C : Type 0} {K : Kind C} (W : Water K) (pivots : List Bool) (hosts : List (Host C)) (near : List (Near C)) (rows : ℕ) : Type 0 where
  pub needed : Needed W (length pivots) (pivot_of pivots) rows
  pub table : NearTable W (length pivots) (pivot_of pivots) (map pair near)
  pub housed : Housed W (length pivots) hosts
  pub balled : Balled W (length pivots) hosts near
  pub pivots_are : (p : ℕ) → pivot_in K hosts p ≡ pivot_of pivots p

-- the balls hold more marks than the near table has rows
pub record TooFew {C : Type 0} {K : Kind C} (W : Water K) (pivots : List Bool) (near : List (Near C)) (refusal : TooFewRows) : Type 0 where
  pub needed : Needed W (length pivots) (pivot_of pivots) refusal.needed
  pub more : length near < refusal.needed
