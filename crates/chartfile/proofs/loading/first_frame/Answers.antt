use Rattle.std.proofs.Common.{◌≡◌, ◌%◌, Some, None, sum, arith, rules}
use Rattle.std.proofs.lemmas.Option.{MatchOption-at_none, MatchOption-at_some}
use Rattle.std.proofs.lemmas.Result.{err_from_is_err_and}
use Rattle.std.proofs.lemmas.Bool.Decides.{not_from_Decides}
use Rattle.chartfile.specs.declared.fault.Cause.TheVariants.{BadFrame}
use Rattle.chartfile.specs.Faults.{sum_wrong, no_frame, bad_bytes}
use Rattle.chartfile.proofs.Loaded.{bad_digits, bad_order}
use Rattle.chartfile.proofs.loading.first_frame.Goals as goal

pub returns-in_default : goal.returns-in_default
returns-in_default c s = bad_digits _ _ s _ c.requires c.in_default.ensures

pub returns-then-sum_of-ne0 : goal.returns-then-sum_of-ne0
returns-then-sum_of-ne0 c s = bad_bytes c.in-Some.ensures (sum_wrong (search rules))

pub returns-in_err-frame : goal.returns-in_err-frame
returns-in_err-frame c =
    let adds : sum c.in-Some.bytes.items % 256 ≡ 0 = search rules in
    let none : c.frame_of.result ≡ None = grind arith in
    let p = err_from_is_err_and c.from_residual.result c.from_residual.ensures.1 in
    let other = rw c.as_slice-2.ensures.value at (MatchOption-at_none _ _ none c.frame_of.ensures) in
    let cause : c.in_err-frame.field-0.0 ≡ BadFrame = grind arith in
    rw (p.1, p.2, cause) (λ s. bad_bytes c.in-Some.ensures (no_frame adds (λ frame is _. other frame is)))

pub returns-then-not-allows : goal.returns-then-not-allows
returns-then-not-allows c s =
    let adds : sum c.in-Some.bytes.items % 256 ≡ 0 = search rules in
    let some : c.frame_of.result ≡ Some c.in_ok-frame.frame = grind arith in
    let is = rw c.as_slice-2.ensures.value at (MatchOption-at_some _ _ _ some c.frame_of.ensures) in
    bad_bytes c.in-Some.ensures (bad_order _ _ s _ c.in_ok-frame.frame adds (is adds) (not_from_Decides _ c.allows.ensures c.if-not-allows.true))
