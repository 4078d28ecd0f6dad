use Rattle.std.proofs.Common.{◌≡◌, ◌≢◌, ◌<◌, ◌≤◌, ◌==◌, [], ◌∷◌, ◌++◌, ◌∙◌, length, inl, inr, ap, arith, rules}
use Rattle.std.proofs.lemmas.Bool.{cases_Bool}
use Rattle.std.proofs.ByRecursion.{All-push}
use Rattle.chartfile.proofs.Digits.{nothing_more, no_bytes, lone_digit, no_byte, one_more}
use Rattle.chartfile.proofs.hex.decode.Goals as goal

pub returns-in_err-high : goal.returns-in_err-high
returns-in_err-high c =
    rw c.from_residual.ensures (nothing_more _ _ _ c.loop-high.invariant.0 c.in_err-high.ensures.cases)

pub returns-then-high-eq-LINE_END : goal.returns-then-high-eq-LINE_END
returns-then-high-eq-LINE_END c =
    let here : c.loop-high.rest.now ≡ 10 ∷ c.in_ok-high.more.now = grind arith in
    rw (c.then_some.ensures, c.is_empty.ensures) (elim (cases_Bool (length c.loop-high.bytes.items == 0)) [
      | inl none ↦ rw none (no_bytes _ c.loop-high.bytes.items c.loop-high.rest.now c.loop-high.invariant.0 c.in_ok-high.more.now here (search rules))
      | inr some ↦ rw some (search rules)
    ])

pub returns-in_err-low : goal.returns-in_err-low
returns-in_err-low c =
    rw c.from_residual-in_err-low.ensures (lone_digit _ _ _ c.loop-high.invariant.0 _ _ c.in_ok-high.ensures.cases.0 (search rules) c.in_err-low.ensures.cases)

pub returns-in_err-byte_of : goal.returns-in_err-byte_of
returns-in_err-byte_of c =
    let here : c.loop-high.rest.now ≡ c.in_ok-high.high.now ∷ c.in_ok-low.low.now ∷ c.in_ok-low.after.now = c.in_ok-high.ensures.cases.0 ∙ ap (λ rest. c.in_ok-high.high.now ∷ rest) c.in_ok-low.ensures.cases.0 in
    rw c.from_residual-in_err-byte_of.ensures (no_byte _ _ _ c.loop-high.invariant.0 _ _ _ here (search rules) (λ b small spells. absurd (c.in_err-byte_of.ensures b small spells)))

pub returns-in_err-ok : goal.returns-in_err-ok
returns-in_err-ok c =
    let here : c.loop-high.rest.now ≡ c.in_ok-high.high.now ∷ c.in_ok-low.low.now ∷ c.in_ok-low.after.now = c.in_ok-high.ensures.cases.0 ∙ ap (λ rest. c.in_ok-high.high.now ∷ rest) c.in_ok-low.ensures.cases.0 in
    let other : c.in_ok-high.high.now ≢ 10 = search rules in
    let full : 32 ≤ length c.loop-high.bytes.items = grind arith in
    rw c.from_residual-in_err-ok.ensures (no_byte _ _ _ c.loop-high.invariant.0 _ _ _ here other (λ b small spells. full))

pub loop-high-preserved : goal.loop-high-preserved
loop-high-preserved c =
    let here : c.loop-high.rest.now ≡ c.in_ok-high.high.now ∷ c.in_ok-low.low.now ∷ c.in_ok-low.after.now = c.in_ok-high.ensures.cases.0 ∙ ap (λ rest. c.in_ok-high.high.now ∷ rest) c.in_ok-low.ensures.cases.0 in
    let bytes = c.loop-high.bytes.items in
    let byte = c.in_ok-byte_of.field-0 in
    let pushed : c.try_push.new.self.items ≡ bytes ++ byte ∷ [] = grind arith in
    let few : length c.try_push.new.self.items ≤ 32 = grind arith in
    let small : byte < 256 = search rules in (
      rw pushed (one_more _ bytes _ c.loop-high.invariant.0 byte _ _ _ here c.in_ok-byte_of.ensures),
      rw pushed (All-push (λ b. b < 256) bytes byte c.loop-high.invariant.1 small),
      few,
    )
