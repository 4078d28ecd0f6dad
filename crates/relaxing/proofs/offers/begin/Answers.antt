use Rattle.std.proofs.Common.{ℕ, length, ◌∙◌, inl, inr}
use native.Mathlib.Decide.{ℕ_discrete}
use Rattle.measure.proofs.Sums.{some_none}
use Rattle.waterway.proofs.Written.{blanked, blanked_clean}
use Rattle.relaxing.proofs.offers.begin.Goals as goal

pub returns-clause-begun : goal.returns-clause-begun
returns-clause-begun g c =
    let K = g.C.Cost.kind in
    let n = length c.args.labels.now in
    let e = c.blank_labels.ensures in
    let none = λ (v : ℕ). rw (← e) at (blanked K n v) in
    let o = rw c.zero.ensures at c.offer.ensures.offered in
    record {
      first = elim (o.change c.args.home) [ inl e ↦ some_none o.within.is (e ∙ none c.args.home) | inr e ↦ e.1 ];
      alone = λ v k e. elim (o.change v) [ inl f ↦ some_none e (f ∙ none v) | inr f ↦ f.0 ];
      agrees = o.agrees;
      keys = λ v k e. elim (ℕ_discrete v c.args.home) [ yes f ↦ f | no f ↦ some_none e (o.keys v f ∙ c.clear.ensures.after.key v) ];
      undrawn = λ v. rw (o.same_out v, none v);
      clean = c.offer.ensures.clean (rw (← e) at (blanked_clean K n));
      span = c.offer.ensures.steady.span ∙ c.clear.ensures.after.span;
      draws = c.offer.ensures.steady.draws ∙ c.clear.ensures.after.draws;
    }
