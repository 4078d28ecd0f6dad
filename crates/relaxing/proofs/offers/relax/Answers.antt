use Rattle.std.proofs.Common.{sym, refl, ap, ◌∙◌, arith}
use Rattle.measure.proofs.Sums.{some_none, some_injective}
use Rattle.bundling.specs.Marks.{mark_or, cost_of, pivot_in, host_in, away_in}
use Rattle.relaxing.proofs.Rows.{pivot_is, mark_is, away_is}
use Rattle.relaxing.proofs.Offering.{fallen_wrote}
use Rattle.relaxing.proofs.Relaxing.{pivot_step, not_step, outer_keyed, outer_stop, outer_onward, step_relaxed}
use Rattle.relaxing.proofs.offers.relax.Goals as goal

pub returns-then-is_of-clause-relaxed : goal.returns-then-is_of-clause-relaxed
returns-then-is_of-clause-relaxed g c =
    let b = pivot_is c.requires.matched c.requires.inside (rw c.from.ensures at c.index-hosts-from.is) in
    step_relaxed g.C.Cost.lawful c.args.hosts.now _ _ _ _ c.requires.matched c.offer.auto.labels c.offer.ensures.steady (c.offer.ensures.clean c.requires.matched.clean)
    (pivot_step g.C.Cost.lawful _ _ _ c.requires.matched.keyed (b ∙ sym c.if-is_of.ensures) c.offer.ensures.offered)

pub returns-in-Not-clause-relaxed : goal.returns-in-Not-clause-relaxed
returns-in-Not-clause-relaxed g c =
    let f = c.in-Not.ensures.fallen in
    step_relaxed g.C.Cost.lawful c.args.hosts.now _ _ _ _ c.requires.matched c.bring_down.auto.labels
    (record { span = refl; draws = refl }) (c.bring_down.ensures.clean c.requires.matched.clean)
    (not_step g.C.Cost.lawful _ _ _ c.requires.matched.keyed f.0 f.1)

pub returns-in_default-pivot : goal.returns-in_default-pivot
returns-in_default-pivot g c =
    let K = g.C.Cost.kind in
    let L = g.C.Cost.lawful in
    let hosts = c.args.hosts.now in
    let is = rw c.from.ensures at c.index-hosts-from.is in
    let b = pivot_is c.requires.matched c.requires.inside is ∙ sym c.if-is_of.ensures in
    let f = fallen_wrote L c.bring_down.result c.bring_down.ensures.fallen c.in_default.not-Not in
    let none = away_is c.requires.matched c.requires.inside is ∙ ap cost_of c.in_default-pivot.is in
    record {
      laid = c.requires.laid;
      relaxed = step_relaxed L hosts _ _ _ _ c.requires.matched c.bring_down.auto.labels
          (record { span = refl; draws = refl }) (c.bring_down.ensures.clean c.requires.matched.clean)
          (outer_stop L _ _ (away_in K hosts) c.requires.matched.keyed b f.0 f.1 (λ h s e. some_none e none));
    }

pub returns-in_default-sum : goal.returns-in_default-sum
returns-in_default-sum g c =
    let K = g.C.Cost.kind in
    let L = g.C.Cost.lawful in
    let hosts = c.args.hosts.now in
    let is = rw c.from.ensures at c.index-hosts-from.is in
    let b = pivot_is c.requires.matched c.requires.inside is ∙ sym c.if-is_of.ensures in
    let f = fallen_wrote L c.bring_down.result c.bring_down.ensures.fallen c.in_default.not-Not in
    let gap = away_is c.requires.matched c.requires.inside is ∙ ap cost_of c.in-Some.is in
    let none = sym c.sum.ensures ∙ c.in_default-sum.is in
    record {
      laid = c.requires.laid;
      relaxed = step_relaxed L hosts _ _ _ _ c.requires.matched c.bring_down.auto.labels
          (record { span = refl; draws = refl }) (c.bring_down.ensures.clean c.requires.matched.clean)
          (outer_stop L _ _ (away_in K hosts) c.requires.matched.keyed b f.0 f.1
          (λ h s e p. some_none (rw (some_injective e gap) at p) (rw c.in-Some.pivot-is at none)));
    }

pub offer-requires-2 : goal.offer-requires-2
offer-requires-2 g c =
    let K = g.C.Cost.kind in
    let L = g.C.Cost.lawful in
    let hosts = c.args.hosts.now in
    let e = rw c.from.ensures at c.index-hosts-from.is in
    let b = pivot_is c.requires.matched c.requires.inside e ∙ sym c.if-is_of.ensures in
    let f = fallen_wrote L c.bring_down.result c.bring_down.ensures.fallen c.in_default.not-Not in
    let gap = away_is c.requires.matched c.requires.inside e ∙ ap cost_of c.in-Some.is in
    let is = mark_is c.requires.matched c.requires.inside e ∙ ap (λ o. mark_or o c.args.mark) c.in-Some.is in
    let i = c.requires.matched.hosted c.args.mark c.in-Some.pivot.cost gap in
    rw c.in-Some.pivot-is (record {
      laid = c.requires.laid;
      span = omega (arith, c.requires.matched.span, c.bring_down.auto.labels);
      agrees = (outer_keyed L (pivot_in K hosts) (host_in K hosts) (away_in K hosts) c.requires.matched.keyed b f.0 f.1).agrees;
      inside = omega (arith, i.0, is, c.bring_down.auto.labels);
    })

pub returns : goal.returns
returns g c =
    let L = g.C.Cost.lawful in
    let e = rw c.from.ensures at c.index-hosts-from.is in
    let b = pivot_is c.requires.matched c.requires.inside e ∙ sym c.if-is_of.ensures in
    let f = fallen_wrote L c.bring_down.result c.bring_down.ensures.fallen c.in_default.not-Not in
    let gap = away_is c.requires.matched c.requires.inside e ∙ ap cost_of c.in-Some.is in
    let is = mark_is c.requires.matched c.requires.inside e ∙ ap (λ o. mark_or o c.args.mark) c.in-Some.is in
    let i = c.requires.matched.hosted c.args.mark c.in-Some.pivot.cost gap in
    let sum = sym (rw c.in-Some.pivot-is at c.sum.ensures) ∙ c.in-Some-sum.is in
    let o = rw (sym is) at (rw c.in-Some.pivot-is at c.offer-2.ensures.offered) in
    record {
      laid = c.offer-2.ensures.laid;
      relaxed = step_relaxed L c.args.hosts.now _ _ _ _ c.requires.matched (omega (arith, c.offer-2.auto.labels, c.bring_down.auto.labels)) c.offer-2.ensures.steady (c.offer-2.ensures.clean (c.bring_down.ensures.clean c.requires.matched.clean))
          (outer_onward L _ _ _ c.requires.matched.keyed b f.0 f.1 gap sum i.1 o);
    }
