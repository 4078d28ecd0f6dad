use Rattle.std.proofs.Common.{length}
use Rattle.homeward.proofs.+write_legs.Given as goal

abbrev pub decreases-write_legs : goal.decreases-write_legs
decreases-write_legs l = length l.route.now
