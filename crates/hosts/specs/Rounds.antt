-- What a search round one mark reads.
use Rattle.std.specs.Prelude.{◌≡◌, [], length}
use Rattle.measure.specs.Kind.{Kind}
use Rattle.waterway.specs.Priced.{Charted}
use Rattle.hosts.specs.declared.rounds.Round.{Round}
use Rattle.hosts.specs.Local.{Selves}

-- legs on a chart, each mark its own host with an empty ball, and of each mark whether it is a pivot
pub record Lone {M C : Type 0} (K : Kind C) (r : Round M C) : Type 0 where
  pub chart : Charted r.bundles.legs.now (length r.bundles.hosts.now)
  pub selves : Selves K r.bundles.hosts.now (length r.bundles.hosts.now)
  pub no_rows : r.bundles.near.now ≡ []
  pub long : length r.pivots.now ≡ length r.bundles.hosts.now
