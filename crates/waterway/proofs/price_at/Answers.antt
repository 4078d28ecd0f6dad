use Rattle.std.proofs.Common.{◌≡◌, ℕ, ◌<◌, ◌≤◌, length, Some, None, Option, Bor, rules}
use Rattle.std.specs.List.{HoldsAt}
use Rattle.std.specs.Option.{MatchOption}
use Rattle.measure.specs.Kind.{Kind}
use Rattle.waterway.specs.declared.Leg.{Leg}
use Rattle.waterway.specs.Legs.{no_leg}
use Rattle.waterway.specs.Priced.{water}
use Rattle.waterway.specs.Ways.{Water, toll}
use Rattle.waterway.proofs.Bills.{toll_is, no_toll}
use Rattle.waterway.proofs.price_at.Goals as goal

-- the leg's price where one stands, and else zero
tolled : {C : Type 0} {K : Kind C} (W : Water K) (k : ℕ) (o : Option (Bor Leg)) (r : C) (Q : Bor Leg → Type 0)
    → MatchOption o (length W.legs ≤ k) (λ leg. (k < length W.legs) × HoldsAt (λ y. leg.now ≡ y) W.legs k)
    → ((leg : Bor Leg) → Q leg → r ≡ W.price leg.now) → MatchOption o (r ≡ K.zero) Q → r ≡ toll W k
tolled W k None r Q past priced is = rw (no_toll W k past) is
tolled W k (Some leg) r Q here priced q = rw (toll_is W k here.0, ← here.1 no_leg) (priced leg q)

pub returns : goal.returns
returns g c =
    let ways = water g.M.Cost.Cost.kind (g.M.Measure.priced c.args.m.now) c.args.legs.now in
    tolled ways c.args.k c.get.result c.map_or.result _ c.get.ensures.lookup.3 (λ leg q. search rules) (rw c.zero.ensures at c.map_or.ensures)
