-- Miles with a point and without.
use Rattle.std.proofs.Common.{◌≡◌, ℕ, ◌<◌, List, [], ◌∷◌, ◌++◌, length, get_or, Some, None, Option, refl, inl, inr, arith, length-append}
use Rattle.std.specs.Str.Parse.{AllDigits, IsNumeral}
use Rattle.std.proofs.lemmas.Str.Parse.{digit_at}
use Rattle.office.specs.Numbers.{Cut, Miles, Tenths, WithTenth}

-- no byte is a point
abbrev pub Pointless : List ℕ → Type 0
Pointless bytes = (i : ℕ) → i < length bytes → get_or bytes i 0 ≡ 46 → ⊥

digits_pointless : (bytes : List ℕ) → AllDigits 10 bytes → Pointless bytes
digits_pointless bytes digits i inside point = let digit = digit_at bytes i digits inside in omega arith

not_pointless : (front rest : List ℕ) → Pointless (front ++ 46 ∷ rest) → ⊥
not_pointless front rest none = none (length front) (omega (arith, length-append front (46 ∷ rest))) (seam front)
  where
    seam : (xs : List ℕ) → get_or (xs ++ 46 ∷ rest) (length xs) 0 ≡ 46
    seam [] = refl
    seam (x ∷ xs) = seam xs

-- without a point only digits are miles
pub without_point : (bytes : List ℕ) (tenths : ℕ) → Pointless bytes → Miles bytes tenths → IsNumeral 10 bytes
without_point bytes tenths none (inl whole) = whole.0
without_point bytes tenths none (inr m) = absurd (not_pointless m.0 m.1 (rw m.2 at none))

-- with one, the miles are cut there
module _ (bytes miles tenth : List ℕ) (cut : bytes ≡ miles ++ 46 ∷ tenth) (only : (xs ys : List ℕ) → bytes ≡ xs ++ 46 ∷ ys → Pointless xs → (miles ≡ xs) × (tenth ≡ ys)) where
  parts : (tenths : ℕ) → Miles bytes tenths → Cut miles tenth
  parts tenths (inl whole) = absurd (not_pointless miles tenth (rw cut at (digits_pointless bytes whole.0.1)))
  parts tenths (inr m) = let same = only m.0 m.1 m.2 (digits_pointless m.0 m.3.0.1) in rw (same.0, same.1) m.3

  pub with_point : (o : Option ℕ) → WithTenth miles tenth o → Tenths bytes o
  with_point None none = λ tenths m. none (parts tenths m)
  with_point (Some n) some = (_, inr (miles, tenth, cut, some.0, refl), some.1)
