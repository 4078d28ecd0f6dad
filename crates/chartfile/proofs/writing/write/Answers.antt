use Rattle.std.proofs.Common.{◌+◌, ◌*◌, rules, length, Ok, refl, ap, ◌∙◌, arith}
use Rattle.chart.specs.Shown.{state}
use Rattle.chartfile.specs.File.{file, marked_from}
use Rattle.chartfile.proofs.Counting.{length_legs, length_pivots}
use Rattle.chartfile.proofs.Puts.{room_more}
use Rattle.chartfile.proofs.Splices.{splice_front}
use Rattle.chartfile.proofs.Written.{homes_are, length_file, length_homes, count_frames, puts_file}
use Rattle.chartfile.proofs.writing.write.Goals as goal

pub returns-then-buffer-legs : goal.returns-then-buffer-legs
returns-then-buffer-legs g c =
    let s = state c.args.chart.now in
    let long = length_file s in
    let legs = ap length c.legs-legs.ensures in
    let marked = rw c.pivots-pivots.ensures at c.count_marked-marked.ensures.value in
    let homes = rw (c.is_some.ensures, c.home.ensures, homes_are s.home) at c.from-homes.ensures in
    record { written = λ room. absurd (omega arith); refused = λ short. (refl, refl) }

pub put_legs-requires : goal.put_legs-requires
put_legs-requires g c =
    let legs = length_legs c.legs-legs.result.now in
    omega (arith, room_more c.put_frame.ensures (19 * length c.legs-legs.result.now) (omega arith))

pub put_pivots-requires-clause-room : goal.put_pivots-requires-clause-room
put_pivots-requires-clause-room g c =
    let legs = length_legs c.legs-legs.result.now in
    let pivots = length_pivots (marked_from 0 c.pivots-pivots.result.now) in
    let many = c.count_marked-marked.ensures.value in
    let n = 9 * c.count_marked-marked.result in
    let head = room_more c.put_frame.ensures (19 * length c.legs-legs.result.now + n) (omega arith) in
    omega (arith, room_more c.put_legs.ensures n (omega arith))

pub put_home-requires : goal.put_home-requires
put_home-requires g c =
    let legs = length_legs c.legs-legs.result.now in
    let pivots = length_pivots (marked_from 0 c.pivots-pivots.result.now) in
    let many = c.count_marked-marked.ensures.value in
    let homes = length_homes c.home-2.result in
    let home = rw (c.is_some.ensures, c.home.ensures, ← c.home-2.ensures, homes_are c.home-2.result) at c.from-homes.ensures in
    let n = 9 * c.from-homes.result in
    let head = room_more c.put_frame.ensures (19 * length c.legs-legs.result.now + (9 * c.count_marked-marked.result + n)) (omega arith) in
    let rest = room_more c.put_legs.ensures (9 * c.count_marked-marked.result + n) (omega arith) in
    omega (arith, room_more c.put_pivots.ensures n (omega arith))

pub put_frame-requires-2 : goal.put_frame-requires-2
put_frame-requires-2 g c =
    let legs = length_legs c.legs-legs.result.now in
    let pivots = length_pivots (marked_from 0 c.pivots-pivots.result.now) in
    let many = c.count_marked-marked.ensures.value in
    let homes = length_homes c.home-2.result in
    let home = rw (c.is_some.ensures, c.home.ensures, ← c.home-2.ensures, homes_are c.home-2.result) at c.from-homes.ensures in
    let n = 9 * c.from-homes.result + 9 in
    let head = room_more c.put_frame.ensures (19 * length c.legs-legs.result.now + (9 * c.count_marked-marked.result + n)) (omega arith) in
    let rest = room_more c.put_legs.ensures (9 * c.count_marked-marked.result + n) (omega arith) in
    let left = room_more c.put_pivots.ensures n (omega arith) in
    omega (arith, room_more c.put_home.ensures 9 (omega arith))

pub returns : goal.returns
returns g c =
    let s = state c.args.chart.now in
    let long = length_file s in
    let many = count_frames s in
    let legs = ap length c.legs-legs.ensures in
    let marked = rw c.pivots-pivots.ensures at c.count_marked-marked.ensures.value in
    let homes = rw (c.is_some.ensures, c.home.ensures, homes_are s.home) at c.from-homes.ensures in
    let head = rw c.marks.ensures at c.put_frame.ensures in
    let legs_put = rw c.legs-legs.ensures at c.put_legs.ensures in
    let pivots_put = rw c.pivots-pivots.ensures at c.put_pivots.ensures in
    let home_put = rw c.home-2.ensures at c.put_home.ensures in
    let all = puts_file s _ (omega arith) (omega arith) head legs_put pivots_put home_put c.put_frame-2.ensures in
    record {
      written = λ room. (ap Ok (omega (arith, all.at)), search rules ∙ all.buffer ∙ splice_front _ (file s) room);
      refused = λ short. absurd (omega arith);
    }
