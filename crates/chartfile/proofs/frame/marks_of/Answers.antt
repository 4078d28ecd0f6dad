use Rattle.std.proofs.Common.{◌≡◌, [], ◌∷◌, length, get_or, arith, rules}
use Rattle.chartfile.specs.Frames.{high, low}
use Rattle.chartfile.proofs.Places.{from_places}
use Rattle.chartfile.proofs.frame.marks_of.Goals as goal

pub returns : goal.returns
returns c =
    let bytes = c.args.bytes.now in
    let fits = c.type_inv.bytes in
    let long : length bytes ≡ 5 = search rules in
    let all : bytes ≡ get_or bytes 0 0 ∷ get_or bytes 1 0 ∷ get_or bytes 2 0 ∷ get_or bytes 3 0 ∷ get_or bytes 4 0 ∷ [] = from_places 5 0 bytes long in
    let n0 = c.from_be_bytes.result in
    let small0 = fits 3 in
    let high0 : high n0 ≡ get_or bytes 2 0 = omega arith in
    let low0 : low n0 ≡ get_or bytes 3 0 = omega arith in
    let version : get_or bytes 1 0 ≡ 1 = search rules in
    (get_or bytes 0 0, get_or bytes 4 0, (fits 4).fits, cc)
