use Rattle.std.proofs.Common.{Some, None, refl, inl, arith, lit<}
use Rattle.std.proofs.lemmas.Str.Pattern.{split_parts, split_after}
use Rattle.office.proofs.Miles.{without_point, with_point}
use Rattle.office.proofs.number.tenths.Goals as goal

pub returns-in_err-whole-in-None : goal.returns-in_err-whole-in-None
returns-in_err-whole-in-None c =
    let none = split_parts 46 c.args.word.now None c.in-None.ensures.cases (lit< tt) in
    rw c.from_residual.ensures (λ tenths miles. c.in_err-whole-in-None.ensures (without_point _ tenths none miles))

pub returns-in_ok-whole-in-None : goal.returns-in_ok-whole-in-None
returns-in_ok-whole-in-None c = let whole = c.in_ok-whole-in-None.ensures in (_, inl (whole.0, refl), omega arith)

pub returns-in-Some : goal.returns-in-Some
returns-in-Some c =
    let word = c.args.word.now in
    let pair = Some (c.in-Some.miles, c.in-Some.tenth) in
    let said = c.in-Some.ensures.cases in
    with_point word c.in-Some.miles.now c.in-Some.tenth.now (split_parts 46 word pair said (lit< tt)).0
    (λ xs ys is none. split_after 46 word xs ys pair said (lit< tt) is none) _ c.with_tenth.ensures
