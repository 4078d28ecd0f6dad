use Rattle.std.proofs.Common.{sym, refl, ◌∙◌}
use Rattle.hosts.specs.Made.{AllMade}
use Rattle.waterway.specs.Priced.{water}
use Rattle.hosts.proofs.Hosting.{counts_as}
use Rattle.bundle.proofs.Known.{known_counts}
use Rattle.bundle.proofs.working.find_all.Goals as goal

pub returns : goal.returns
returns g c =
    let made : AllMade (water g.M.Cost.Cost.kind (g.M.Measure.priced c.args.measure.now) c.args.legs.now) c.args.pivots.now c.make_hosts.new.hosts c.make_hosts.new.near c.in-Ok.rows = c.in-Ok.ensures.made in
    let f = c.search-draws.ensures in
    let long = c.make_hosts.auto.labels in
    let known = known_counts g.M.Cost.Cost.kind c.search-draws.new.labels in
    record {
      table = rw c.requires.long at made.table;
      labelled = f.labels;
      emptied = record { empty = f.queue.empty; span = f.queue.span ∙ c.make_hosts.ensures.span; draws_are = f.queue.draws_are };
      draws = counts_as f.draws long refl (λ p h. (sym (made.pivots_are p) ∙ h.0, h.1)) (λ p h. (made.pivots_are p ∙ h.0, h.1));
      rows = rw c.requires.long at made.needed;
      reached = counts_as known (c.search-draws.auto.labels ∙ long) c.count_known-reached.ensures (λ v h. (h.0, ((f.labels.tells v).some h.0).0 h.1)) (λ v h. (h.0, ((f.labels.tells v).some h.0).1 h.1));
    }
