-- Bytes written into a list from a place on.
use Rattle.std.proofs.Common.{◌≡◌, ℕ, zero, suc, ◌+◌, ◌<◌, ◌≤◌, List, [], ◌∷◌, ◌++◌, length, drop, set, sym, refl, ap, ◌∙◌, arith}
use Rattle.chartfile.specs.Writing.{splice}

-- nothing written, and one byte
pub splice_none : (old : List ℕ) (at : ℕ) → splice old at [] ≡ old
splice_none [] zero = refl
splice_none [] (suc at) = refl
splice_none (b ∷ old) zero = refl
splice_none (b ∷ old) (suc at) = ap (λ (l : List ℕ). b ∷ l) (splice_none old at)

pub splice_one : (old : List ℕ) (at b : ℕ) → at < length old → set old at b ≡ splice old at (b ∷ [])
splice_one [] at b inside = absurd (omega arith)
splice_one (c ∷ old) zero b inside = ap (λ (l : List ℕ). b ∷ l) (sym (splice_none old zero))
splice_one (c ∷ old) (suc at) b inside = ap (λ (l : List ℕ). c ∷ l) (splice_one old at b (omega arith))

-- one after the other
pub splice_more : (old : List ℕ) (at k : ℕ) (xs ys : List ℕ) → at + length xs ≤ length old → k ≡ at + length xs → splice (splice old at xs) k ys ≡ splice old at (xs ++ ys)
splice_more [] zero zero [] ys fits is = refl
splice_more [] zero (suc k) [] ys fits is = absurd (omega arith)
splice_more [] zero k (x ∷ xs) ys fits is = absurd (omega arith)
splice_more [] (suc at) k xs ys fits is = absurd (omega arith)
splice_more (b ∷ old) zero zero [] ys fits is = refl
splice_more (b ∷ old) zero (suc k) [] ys fits is = absurd (omega arith)
splice_more (b ∷ old) zero zero (x ∷ xs) ys fits is = absurd (omega arith)
splice_more (b ∷ old) zero (suc k) (x ∷ xs) ys fits is = ap (λ (l : List ℕ). x ∷ l) (splice_more old zero k xs ys (omega arith) (omega arith))
splice_more (b ∷ old) (suc at) zero xs ys fits is = absurd (omega arith)
splice_more (b ∷ old) (suc at) (suc k) xs ys fits is = ap (λ (l : List ℕ). b ∷ l) (splice_more old at k xs ys (omega arith) (omega arith))

pub length_splice : (old : List ℕ) (at : ℕ) (xs : List ℕ) → at + length xs ≤ length old → length (splice old at xs) ≡ length old
length_splice [] zero [] fits = refl
length_splice [] zero (x ∷ xs) fits = absurd (omega arith)
length_splice [] (suc at) xs fits = absurd (omega arith)
length_splice (b ∷ old) zero [] fits = refl
length_splice (b ∷ old) zero (x ∷ xs) fits = ap suc (length_splice old zero xs (omega arith))
length_splice (b ∷ old) (suc at) xs fits = ap suc (length_splice old at xs (omega arith))

-- from the start on
pub splice_front : (old xs : List ℕ) → length xs ≤ length old → splice old zero xs ≡ xs ++ drop (length xs) old
splice_front [] [] fits = refl
splice_front [] (x ∷ xs) fits = absurd (omega arith)
splice_front (b ∷ old) [] fits = refl
splice_front (b ∷ old) (x ∷ xs) fits = ap (λ (l : List ℕ). x ∷ l) (splice_front old xs (omega arith))

-- more bytes at the end of what is written
pub splice_on : (old : List ℕ) (at k : ℕ) (xs ys : List ℕ) {cur new : List ℕ} → cur ≡ splice old at xs → new ≡ splice cur k ys → at + length xs ≤ length old → k ≡ at + length xs → new ≡ splice old at (xs ++ ys)
splice_on old at k xs ys so_far more fits last = more ∙ ap (λ (l : List ℕ). splice l k ys) so_far ∙ splice_more old at k xs ys fits last
