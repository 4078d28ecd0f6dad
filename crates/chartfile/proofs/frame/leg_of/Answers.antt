use Rattle.std.proofs.Common.{◌≡◌, [], ◌∷◌, length, get_or, refl, arith, rules}
use Rattle.chartfile.specs.Frames.{high, low}
use Rattle.chartfile.proofs.Places.{from_places}
use Rattle.chartfile.proofs.frame.leg_of.Goals as goal

pub returns : goal.returns
returns c =
    let bytes = c.args.bytes.now in
    let fits = c.type_inv.bytes in
    let long : length bytes ≡ 9 = search rules in
    let all : bytes ≡ get_or bytes 0 0 ∷ get_or bytes 1 0 ∷ get_or bytes 2 0 ∷ get_or bytes 3 0 ∷ get_or bytes 4 0 ∷ get_or bytes 5 0 ∷ get_or bytes 6 0 ∷ get_or bytes 7 0 ∷ get_or bytes 8 0 ∷ [] = from_places 9 0 bytes long in
    let n0 = c.from_be_bytes.result in
    let small0 = fits 2 in
    let high0 : high n0 ≡ get_or bytes 1 0 = omega arith in
    let low0 : low n0 ≡ get_or bytes 2 0 = omega arith in
    let n1 = c.from_be_bytes-2.result in
    let small1 = fits 4 in
    let high1 : high n1 ≡ get_or bytes 3 0 = omega arith in
    let low1 : low n1 ≡ get_or bytes 4 0 = omega arith in
    let n2 = c.from_be_bytes-3.result in
    let small2 = fits 6 in
    let high2 : high n2 ≡ get_or bytes 5 0 = omega arith in
    let low2 : low n2 ≡ get_or bytes 6 0 = omega arith in
    (refl, (get_or bytes 0 0, get_or bytes 8 0, (fits 8).fits, cc))
