use Rattle.std.proofs.Common.{◌≡◌, ℕ, List, ◌-◌, ◌+◌, ◌%◌, [], ◌∷◌, ◌++◌, get_or, take, sym, ap, ◌∙◌, arith, length-append, length-take-le}
use Rattle.std.proofs.lemmas.List.{take_all, take_more}
use Rattle.chartfile.specs.Hex.{hex}
use Rattle.chartfile.specs.Frames.{check}
use Rattle.chartfile.proofs.Digits.{hex_append, length_hex, long_line}
use Rattle.chartfile.proofs.Puts.{puts_as, puts_none, puts_more, room_more}
use Rattle.chartfile.proofs.writing.Writer.put_line.Goals as goal

pub loop-byte-init : goal.loop-byte-init
loop-byte-init c = puts_none _

pub put_digits-requires : goal.put_digits-requires
put_digits-requires c =
    let i = c.loop-byte.byte-index in
    let body = c.args.body.now in
    let whole = long_line body in
    let done = length_hex (take i body) in
    let few = length-take-le i body (omega arith) in
    room_more c.loop-byte.invariant 2 (omega arith)

pub loop-byte-preserved : goal.loop-byte-preserved
loop-byte-preserved c =
    let i = c.loop-byte.byte-index in
    let body = c.args.body.now in
    let whole = long_line body in
    let done = length_hex (take i body) in
    let few = length-take-le i body (omega arith) in
    (puts_as (sym (hex_append (take i body) (get_or body i 0 ∷ [])) ∙ ap hex (sym (take_more body i 0 c.loop-byte-test.true))) (puts_more c.loop-byte.invariant c.put_digits.ensures (omega arith)))

pub put_digits-requires-2 : goal.put_digits-requires-2
put_digits-requires-2 c =
    let body = c.args.body.now in
    let whole = long_line body in
    let digits = length_hex body in
    let done = rw (take_all c.loop-byte.byte-index body (omega arith)) at c.loop-byte.invariant in
    room_more done 2 (omega arith)

pub put-requires : goal.put-requires
put-requires c =
    let body = c.args.body.now in
    let last = (0 + (256 - c.sum_of.result)) % 256 in
    let whole = long_line body in
    let digits = length_hex body in
    let done = rw (take_all c.loop-byte.byte-index body (omega arith)) at c.loop-byte.invariant in
    let more = length-append (hex body) (hex (last ∷ [])) in
    room_more (puts_more done c.put_digits-2.ensures (omega arith)) 1 (omega arith)

pub returns : goal.returns
returns c =
    let body = c.args.body.now in
    let last = (0 + (256 - c.sum_of.result)) % 256 in
    let adds = c.sum_of.ensures in
    let is_check : last ≡ check body = omega arith in
    let whole = long_line body in
    let digits = length_hex body in
    let done = rw (take_all c.loop-byte.byte-index body (omega arith)) at c.loop-byte.invariant in
    let more = length-append (hex body) (hex (last ∷ [])) in
    let all = puts_more (puts_more done c.put_digits-2.ensures (omega arith)) c.put.ensures (omega arith) in
    puts_as (ap (λ (bytes : List ℕ). bytes ++ 10 ∷ []) (sym (hex_append body (last ∷ [])) ∙ ap (λ (b : ℕ). hex (body ++ b ∷ [])) is_check)) all
