use Rattle.std.proofs.Common.{rules}
use Rattle.waterway.proofs.Bills.{toll_is}
use Rattle.waterway.proofs.Walks.{joins_turned}
use Rattle.homeward.specs.Waters.{waters}
use Rattle.homeward.proofs.StepsHome.{step_if}
use Rattle.homeward.proofs.Homeward.step_back.Goals as goal

pub returns-in_err-next : goal.returns-in_err-next
returns-in_err-next g c = rw c.from_residual.ensures (λ w b. c.in_err-next.ensures w b.joins.free (joins_turned b.joins).ends)

pub returns-in_err-sum : goal.returns-in_err-sum
returns-in_err-sum g c =
    let toll = toll_is (waters g.M.Cost.Cost.kind g.M.Measure.priced c.args.self.now) c.args.k c.requires.stands in
    rw c.from_residual-in_err-sum.ensures (λ w b. let adds = rw toll at b.adds in search rules)

pub returns : goal.returns
returns g c =
    let toll = toll_is (waters g.M.Cost.Cost.kind g.M.Measure.priced c.args.self.now) c.args.k c.requires.stands in
    rw (c.then_some.ensures, c.is_eq.ensures) (step_if g.M.Cost.Cost.lawful c.compare.result c.compare.ensures (λ e. record { joins = search rules; near = c.in_ok-near.near; far = c.in_ok-far.far; to_w = search rules; to_v = search rules; adds = rw toll (search rules) }) (λ ne w b. let adds = rw toll at b.adds in search rules))
