use Rattle.std.proofs.Common.{◌≡◌, Some, None, Option, refl, sym, ◌∙◌, arith, rules}
use Rattle.std.specs.Option.{MatchOption, option_and_then}
use Rattle.std.proofs.lemmas.Option.{option_and_then_some}
use Rattle.measure.proofs.Sums.{some_none, some_injective}
use Rattle.waterway.proofs.Written.{label_read}
use Rattle.plain.proofs.relax.Goals as goal

and_then_is : {A B : Type 0} (f : A → Option B) (o : Option A) (r : Option B) (Q : A → Type 0) → ((x : A) → Q x → r ≡ f x) → MatchOption o (r ≡ None) Q → r ≡ option_and_then f o
and_then_is f None r Q call e = e
and_then_is f (Some x) r Q call q = call x q

pub returns-in-Some-clause-relaxed : goal.returns-in-Some-clause-relaxed
returns-in-Some-clause-relaxed g c =
    let K = g.C.Cost.kind in
    let read = label_read K c.args.labels.now c.args.x c.index-labels-from.result (omega arith) (rw (← c.from.ensures) c.index-labels-from.is) in
    let sum = and_then_is (λ d. K.sum d c.args.price) c.told.result c.and_then.result _ (λ x q. search rules) c.and_then.ensures in
    let is = rw (c.told.ensures, ← read) at sum in
    record {
      offered = λ d e at adds. rw (some_injective (rw at at is ∙ adds) c.in-Some.is) c.lower.ensures.lowered;
      idle = λ h v. option_and_then_some (λ d. K.sum d c.args.price) _ c.in-Some.cost (sym is ∙ c.in-Some.is) (λ d at adds. absurd (h d c.in-Some.cost at adds));
    }

pub returns-in_default-clause-relaxed : goal.returns-in_default-clause-relaxed
returns-in_default-clause-relaxed g c =
    let K = g.C.Cost.kind in
    let read = label_read K c.args.labels.now c.args.x c.index-labels-from.result (omega arith) (rw (← c.from.ensures) c.index-labels-from.is) in
    let sum = and_then_is (λ d. K.sum d c.args.price) c.told.result c.and_then.result _ (λ x q. search rules) c.and_then.ensures in
    let is = rw (c.told.ensures, ← read) at sum in
    record { offered = λ d e at adds. some_none adds (sym (rw at at is) ∙ c.in_default.is); idle = λ h v. refl }
