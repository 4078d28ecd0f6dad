-- The numbers of the command language, as the bytes that write them.
use Rattle.std.specs.Prelude.{◌≡◌, ℕ, ◌+◌, ◌-◌, ◌*◌, ◌^◌, min, ◌⊎◌, List, ◌∷◌, ◌++◌, length, Option, MatchOption}
use Rattle.std.specs.Str.Parse.{IsNumeral, digits_value}

-- the greatest number of so many bits, as which a greater one counts
abbrev pub most : ℕ → ℕ
most bits = 2 ^ bits - 1

-- the word is digits that write n
abbrev pub IsWritten : ℕ → List ℕ → ℕ → Type 0
IsWritten bits word n = IsNumeral 10 word × (n ≡ min (digits_value 10 word) (most bits))

-- o is the number that the digits write, and none where they are no digits
abbrev pub Whole : ℕ → List ℕ → Option ℕ → Type 0
Whole bits word o = MatchOption o (IsNumeral 10 word → ⊥) (IsWritten bits word)

-- miles before the point, and one digit after it
abbrev pub Cut : List ℕ → List ℕ → Type 0
Cut miles tenth = IsNumeral 10 miles × IsNumeral 10 tenth × (length tenth ≡ 1)

-- so many tenths, written as miles: digits alone, or digits, a point and one digit
abbrev pub Miles : List ℕ → ℕ → Type 0
Miles bytes tenths =
    (IsNumeral 10 bytes × (tenths ≡ digits_value 10 bytes * 10)) ⊎ ((miles : List ℕ) × (tenth : List ℕ) × (bytes ≡ miles ++ 46 ∷ tenth) × Cut miles tenth × (tenths ≡ digits_value 10 miles * 10 + digits_value 10 tenth))

-- o is the tenths that the miles write, and none where the bytes are no miles
abbrev pub Tenths : List ℕ → Option ℕ → Type 0
Tenths bytes o = MatchOption o ((tenths : ℕ) → Miles bytes tenths → ⊥) (λ n. (tenths : ℕ) × Miles bytes tenths × (n ≡ min tenths (most 32)))

-- the same of miles and what stands after their point
abbrev pub WithTenth : List ℕ → List ℕ → Option ℕ → Type 0
WithTenth miles tenth o = MatchOption o (Cut miles tenth → ⊥) (λ n. Cut miles tenth × (n ≡ min (digits_value 10 miles * 10 + digits_value 10 tenth) (most 32)))
