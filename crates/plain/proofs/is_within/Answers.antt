use Rattle.std.proofs.Common.{◌≡◌, Bool, false, Some, None, Option, Decides, not, Ordering, Less, Equal, Greater, refl, rules, tests}
use Rattle.std.specs.Option.{MatchOption}
use Rattle.std.specs.Ordering.{MatchOrdering, is_lt}
use Rattle.measure.specs.Kind.{Kind, Lawful, AtMost}
use Rattle.measure.proofs.Compared.{not_less}
use Rattle.measure.proofs.Sums.{some_none, some_injective}
use Rattle.waterway.specs.Labels.{Within}
use Rattle.plain.proofs.is_within.Goals as goal

-- a cost is there, and not above another, where the test says so
decided : {C : Type 0} (K : Kind C) (o : Option C) (cost : C) (r : Bool) (Q : C → Type 0) → ((known : C) → Q known → Decides r (AtMost K known cost)) → MatchOption o (r ≡ false) Q → Decides r (Within K o cost)
decided K None cost r Q test e = (λ t. cc, λ w. some_none w.is refl)
decided K (Some known) cost r Q test q = (λ t. record { value = known; is = refl; upto = (test known q).0 t }, λ w. (test known q).1 (rw (some_injective refl w.is) w.upto))

not_less_is : {C : Type 0} {K : Kind C} (L : Lawful K) (a b : C) (o : Ordering) → MatchOrdering o (K.Below a b) (a ≡ b) (K.Below b a) → Decides (not (is_lt o)) (AtMost K b a)
not_less_is L a b Less h = (λ t. cc, λ most. absurd (most h))
not_less_is L a b Equal h = (λ t. not_less L a b Equal h (λ e. cc), λ most. refl)
not_less_is L a b Greater h = (λ t. not_less L a b Greater h (λ e. cc), λ most. refl)

pub returns : goal.returns
returns g c = rw c.told.ensures at (decided g.C.Cost.kind c.told.result c.args.cost c.is_some_and.result _ (λ known q. search (rules, tests, not_less_is g.C.Cost.lawful)) c.is_some_and.ensures)
