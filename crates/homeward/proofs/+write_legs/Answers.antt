use Rattle.std.proofs.Common.{◌≡◌, ◌+◌, length, rules, arith}
use Rattle.std.proofs.lemmas.List.{drop_all, drop-append-le}
use Rattle.homeward.specs.Steps.{ends, onward}
use Rattle.homeward.proofs.StepsHome.{leads_in, leads_on}
use Rattle.homeward.proofs.+write_legs.Goals as goal

pub returns-in_default-clause-legs : goal.returns-in_default-clause-legs
returns-in_default-clause-legs t c =
    rw (drop_all (length c.args.route.now) c.args.route.now (omega arith)) (ends (leads_in c.requires.1) (rw c.from.ensures at c.in_default.is))

pub unwrap-requires : goal.unwrap-requires
unwrap-requires t c =
    let on = leads_on c.in-Some.step c.requires.1 (rw c.from.ensures at c.in-Some.is) in
    c.split_last_mut.ensures.variant.1 (omega (arith, on.2, c.requires.2))

pub write_legs-requires : goal.write_legs-requires
write_legs-requires t c =
    let on = leads_on c.in-Some.step c.requires.1 (rw c.from.ensures at c.in-Some.is) in
    let short : length c.unwrap.result.1.now + 1 ≡ length c.args.route.now = search rules in
    (omega (arith, short, c.decreases), (on.0, on.1, omega (arith, short, on.2, c.requires.2)))

pub returns-clause-legs : goal.returns-clause-legs
returns-clause-legs t c =
    rw (drop-append-le c.write_legs.result c.write_legs.new.route _ c.write_legs.ensures.inside)
    (onward (leads_in c.requires.1) (rw c.from.ensures at c.in-Some.is) c.write_legs.ensures.legs)
