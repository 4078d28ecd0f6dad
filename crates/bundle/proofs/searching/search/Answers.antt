use Rattle.std.proofs.Common.{◌≡◌, ℕ, ◌^◌, ◌<◌, ◌≤◌, true, length, sym, refl, ◌∙◌, arith}
use Rattle.measure.specs.Kind.{Kind, Lawful}
use Rattle.measure.specs.Legal.{Legal}
use Rattle.bundling.specs.Marks.{pivot_in}
use Rattle.relaxing.specs.declared.bundles.Bundles.{Bundles}
use Rattle.relaxing.specs.Bundles.{waters, Right}
use Rattle.hosts.proofs.Rounding.{Grounds}
use Rattle.waterway.proofs.Priced.{priced_dear}
use Rattle.relaxing.proofs.Right.{right_sound}
use Rattle.relaxing.proofs.Voyage.{none_drawn, matched_first, ready_first, all_told, all_counted, counts_moved}
use Rattle.relaxing.proofs.Turns.{turn_matched, turn_ready, turn_falls, turn_counted, turn_span}
use Rattle.bundling.proofs.Tally.{tally_none}
use Rattle.bundle.proofs.searching.search.Goals as goal

-- bundles that are right, and a pivot to begin from
grounds : {M C : Type 0} {K : Kind C} (priced : M → ℕ → ℕ → C) (b : Bundles M C) → Right K priced b → Lawful K → ((m : M) (long locks : ℕ) → Legal long locks → K.size (priced m long locks) ≤ 2 ^ 36)
    → ((m : M) (long locks : ℕ) → Legal long locks → K.Below K.zero (priced m long locks))
    → {v n : ℕ} → v < n → n ≡ length b.hosts.now → pivot_in K b.hosts.now v ≡ true → Grounds (waters K priced b) b.hosts.now v
grounds {K = K} priced b right lawful small dear inside long pivot = record {
  sound = right_sound priced b right lawful small;
  dear = priced_dear K (priced b.measure.now) right.chart (dear b.measure.now);
  housed = right.housed;
  v_in = rw long at inside;
  pivot = pivot;
}

pub loop-u-init : goal.loop-u-init
loop-u-init g c =
    let G = grounds g.M.Measure.priced c.args.bundles.now c.requires.right g.M.Cost.Cost.lawful g.met.M.Measure.small g.met.M.Measure.dear c.requires.inside c.requires.long c.requires.pivot in
    let begun = c.begin.ensures.begun in
    record {
      laid = c.begin.ensures.laid;
      matched = matched_first G.sound G.dear G.housed c.args.home G.pivot begun (c.begin.auto.labels ∙ c.requires.long) (omega (arith, c.begin.auto.labels, c.requires.span));
      ready = λ S' dear' housed pivot. ready_first S' dear' housed c.args.home pivot begun;
      draws = begun.draws ∙ sym (tally_none _ _ (none_drawn G.sound G.dear G.housed c.args.home G.pivot begun));
      span = refl;
    }

pub step_one-requires-clause-matched : goal.step_one-requires-clause-matched
step_one-requires-clause-matched g c =
    let G = grounds g.M.Measure.priced c.args.bundles.now c.requires.right g.M.Cost.Cost.lawful g.met.M.Measure.small g.met.M.Measure.dear c.requires.inside c.requires.long c.requires.pivot in
    let d = c.in-Some.ensures in
    turn_matched G.sound G.dear G.housed c.args.home G.pivot c.loop-u.invariant.matched c.loop-u.invariant.ready d.answer d.after

pub loop-u-smaller : goal.loop-u-smaller
loop-u-smaller g c =
    let G = grounds g.M.Measure.priced c.args.bundles.now c.requires.right g.M.Cost.Cost.lawful g.met.M.Measure.small g.met.M.Measure.dear c.requires.inside c.requires.long c.requires.pivot in
    let d = c.in-Some.ensures in
    turn_falls G.sound G.dear G.housed c.args.home G.pivot c.loop-u.invariant.matched c.loop-u.invariant.ready d.answer d.after
    c.requires.right.balled c.step_one.ensures.ran c.step_one.ensures.gathered c.step_two.ensures.ran c.step_two.ensures.spread

pub loop-u-preserved : goal.loop-u-preserved
loop-u-preserved g c =
    let G = grounds g.M.Measure.priced c.args.bundles.now c.requires.right g.M.Cost.Cost.lawful g.met.M.Measure.small g.met.M.Measure.dear c.requires.inside c.requires.long c.requires.pivot in
    let i = c.loop-u.invariant in
    let d = c.in-Some.ensures in
    let one = c.step_one.ensures in
    let two = c.step_two.ensures in
    record {
      laid = two.laid;
      matched = two.ran.matched;
      ready = turn_ready G.sound G.dear G.housed c.args.home G.pivot i.matched i.ready d.answer d.after c.requires.right.balled one.ran one.gathered two.ran two.spread;
      draws = turn_counted G.sound G.dear G.housed c.args.home G.pivot i.matched i.ready d.answer d.after c.requires.right.balled one.ran one.gathered two.ran two.spread i.draws;
      span = turn_span G.sound G.dear G.housed c.args.home G.pivot i.matched i.ready d.answer d.after c.requires.right.balled one.ran one.gathered two.ran two.spread ∙ i.span;
    }

pub returns-clause-labels : goal.returns-clause-labels
returns-clause-labels g c =
    let G = grounds g.M.Measure.priced c.args.bundles.now c.requires.right g.M.Cost.Cost.lawful g.met.M.Measure.small g.met.M.Measure.dear c.requires.inside c.requires.long c.requires.pivot in
    let i = c.loop-u.invariant in
    record {
      tells = all_told G.sound G.dear G.housed c.args.home G.pivot i.matched (i.ready G.sound G.dear G.housed G.pivot) c.in_default.ensures.answer;
      clean = i.matched.clean;
    }

pub returns-clause-draws : goal.returns-clause-draws
returns-clause-draws g c =
    let G = grounds g.M.Measure.priced c.args.bundles.now c.requires.right g.M.Cost.Cost.lawful g.met.M.Measure.small g.met.M.Measure.dear c.requires.inside c.requires.long c.requires.pivot in
    let i = c.loop-u.invariant in
    counts_moved (all_counted G.sound G.dear G.housed c.args.home G.pivot i.matched (i.ready G.sound G.dear G.housed G.pivot) c.in_default.ensures.answer)
    (sym c.requires.long) (omega (arith, c.draws.ensures, c.in_default.ensures.after.draws, i.draws))
