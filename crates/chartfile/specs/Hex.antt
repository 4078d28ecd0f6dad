-- Bytes in upper-case hexadecimal.
use Rattle.std.specs.Prelude.{◌≡◌, ℕ, ◌+◌, ◌/◌, ◌%◌, cond, List, [], ◌∷◌, nat_lt}

-- the digit of a number below 16
abbrev pub digit : ℕ → ℕ
digit d = cond (nat_lt d 10) (48 + d) (55 + d)

-- two digits a byte, the high one first
abbrev pub hex : List ℕ → List ℕ
hex [] = []
hex (b ∷ bs) = digit (b / 16) ∷ digit (b % 16) ∷ hex bs

-- two digits spell the byte b
abbrev pub Spells : ℕ → ℕ → ℕ → Type 0
Spells high low b = (high ≡ digit (b / 16)) × (low ≡ digit (b % 16))
