use Rattle.std.proofs.Common.{ap, ◌∙◌, arith}
use Rattle.measure.proofs.Sums.{some_none, some_injective}
use Rattle.bundling.specs.Marks.{cost_of}
use Rattle.relaxing.proofs.Runs.{ran_refl}
use Rattle.relaxing.proofs.Rows.{away_is, pivot_host, pivot_away, pivot_dist}
use Rattle.relaxing.proofs.Legs.{plain_ran, plain_offered}
use Rattle.relaxing.proofs.Right.{right_sound}
use Rattle.relaxing.proofs.bundles.Bundles.from_host.Goals as goal

pub label_at-requires : goal.label_at-requires
label_at-requires g c =
    let is = rw c.from.ensures at c.index-self-from.is in
    let some = ap (λ z. z.pivot) c.index-self-from.is ∙ c.in-Some.is in
    let i = c.requires.matched.hosted c.args.v c.in-Some.pivot.cost (pivot_away c.requires.matched c.requires.inside is some) in
    rw c.in-Some.pivot-is (omega (arith, i.0, pivot_host c.requires.matched c.requires.inside is some))

pub returns-in-Some-clause-ran : goal.returns-in-Some-clause-ran
returns-in-Some-clause-ran g c =
    let S = right_sound g.M.Measure.priced c.args.self.now c.requires.right g.M.Cost.Cost.lawful g.met.M.Measure.small in
    let is = rw c.from.ensures at c.index-self-from.is in
    let some = ap (λ z. z.pivot) c.index-self-from.is ∙ c.in-Some.is in
    let D = pivot_dist c.requires.matched c.requires.inside is some S c.requires.right.housed in
    plain_ran S c.requires.right.housed D (rw c.in-Some.pivot-is at c.add.ensures) (rw c.in-Some.pivot-is at c.label_at.ensures) c.try_relax.ensures.tried

pub returns-in-Some-clause-offered : goal.returns-in-Some-clause-offered
returns-in-Some-clause-offered g c =
    let S = right_sound g.M.Measure.priced c.args.self.now c.requires.right g.M.Cost.Cost.lawful g.met.M.Measure.small in
    let is = rw c.from.ensures at c.index-self-from.is in
    let some = ap (λ z. z.pivot) c.index-self-from.is ∙ c.in-Some.is in
    let host = pivot_host c.requires.matched c.requires.inside is some in
    let gap = pivot_away c.requires.matched c.requires.inside is some in
    let D = pivot_dist c.requires.matched c.requires.inside is some S c.requires.right.housed in
    record {
      each = λ s sure l e r f D' a h. plain_offered S c.requires.right.housed D (rw c.in-Some.pivot-is at c.add.ensures) (rw c.in-Some.pivot-is at c.label_at.ensures) c.try_relax.ensures.tried
          l r (rw host at f) (rw (some_injective a gap) at h);
    }

pub returns-in_default-clause-ran : goal.returns-in_default-clause-ran
returns-in_default-clause-ran g c = ran_refl g.M.Cost.Cost.lawful _ _ c.requires.matched

pub returns-in_default-clause-offered : goal.returns-in_default-clause-offered
returns-in_default-clause-offered g c =
    let none = ap (λ z. z.pivot) c.index-self-from.is ∙ c.in_default.is in
    let gone = away_is c.requires.matched c.requires.inside (rw c.from.ensures at c.index-self-from.is) ∙ ap cost_of none in
    record { each = λ s sure l e r f D a h. some_none a gone }
