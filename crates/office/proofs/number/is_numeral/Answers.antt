use Rattle.std.proofs.Common.{ℕ, ◌<◌, Bool, true, false, List, length, IsTrue, MatchBool, refl, arith, rules}
use Rattle.std.specs.Int.{IsInRange, IsOutOfRange}
use Rattle.std.specs.List.{AllWithin, HoldsAt}
use Rattle.std.specs.Str.Parse.{AllDigits}
use Rattle.std.proofs.lemmas.Bool.{false≢true}
use Rattle.std.proofs.lemmas.Iterator.{cases_from_all}
use Rattle.std.proofs.lemmas.Iterator.Adapters.{YieldsList-from_bytes}
use Rattle.std.proofs.lemmas.Str.Parse.{digit_at, numerals_by_value, tells_by_index}
use borrow.Author.Tests.{tests}
use Rattle.office.proofs.number.is_numeral.Goals as goal

from_cases : (r : Bool) (ds : List ℕ) → MatchBool r (AllWithin (IsInRange 48 57) ds 0 (length ds)) ((k : ℕ) × (k < length ds) × HoldsAt (IsOutOfRange 48 57) ds k) → (IsTrue r → AllDigits 10 ds) × (AllDigits 10 ds → IsTrue r)
from_cases true ds all = (λ _. (numerals_by_value _ tells_by_index).to ds (λ i inside. all i 0 (omega arith) inside), λ _. refl)
from_cases false ds other = (λ e. absurd (false≢true e), λ digits. let digit = digit_at ds other.0 digits other.1 in let out = other.2 0 in absurd (grind arith))

pub returns-then-not-is_empty : goal.returns-then-not-is_empty
returns-then-not-is_empty c =
    let some = c.if-not-is_empty.true in
    let cases = cases_from_all _ _ _ (IsInRange 48 57) (IsOutOfRange 48 57) c.all.ensures.ran (YieldsList-from_bytes c.args.word.now c.bytes.ensures.rest) (λ x q k. search (rules, tests)) (λ x q k. search (rules, tests)) in
    let digits = from_cases _ _ cases in
    (λ yes. (grind arith, digits.0 yes), λ numeral. digits.1 numeral.1)
