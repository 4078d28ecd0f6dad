use Rattle.std.proofs.Common.{◌≡◌, Bool, true, false, not, sym, refl, ◌∙◌}
use Rattle.chart.specs.Shown.{state}
use Rattle.chartfile.proofs.Answered.{passed_of, value_of}
use Rattle.chartfile.proofs.Marking.{closed_new}
use Rattle.chartfile.proofs.entry.enter_leg.Goals as goal

shut : (b : Bool) → not b ≡ true → b ≡ false
shut true e = sym e
shut false e = refl

pub returns-in_ok-close : goal.returns-in_ok-close
returns-in_ok-close g c =
    let new = c.in_ok-number.ensures.brings in
    let closed = closed_new (state c.args.chart.now) c.args.leg _ _ new.state (value_of new) (shut _ c.if-not-leg.true) in
    record {
      brings = (passed_of new, c.in_ok-close.ensures.brings.state ∙ closed);
      measure = c.in_ok-close.ensures.measure ∙ c.in_ok-number.ensures.measure;
    }
