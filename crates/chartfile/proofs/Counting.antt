-- How long the lines of a file are, and which marks are marked.
use Rattle.std.proofs.Common.{◌≡◌, ℕ, suc, ◌+◌, ◌*◌, ◌<◌, ◌≤◌, Bool, true, false, cond, List, [], ◌∷◌, ◌++◌, map, length, count_by, get_or, take, drop, sym, refl, ap, ◌∙◌, append-nil, arith, length-append, length-drop, take-append-drop}
use Rattle.std.proofs.lemmas.List.{drop_more, take_more, length-take-le}
use Rattle.std.proofs.lemmas.List.Sums.{sum_by-cons}
use Rattle.waterway.specs.declared.Leg.{Leg}
use Rattle.chartfile.specs.declared.frame.Frame.TheVariants.{Entry, Pivot}
use Rattle.chartfile.specs.Frames.{line, lines}
use Rattle.chartfile.specs.File.{marked_from}

pub length_legs : (legs : List Leg) → length (lines (map Entry legs)) ≡ 19 * length legs
length_legs [] = refl
length_legs (leg ∷ legs) = let rest = length_legs legs in let both = length-append (line (Entry leg)) (lines (map Entry legs)) in omega arith

pub length_pivots : (marks : List ℕ) → length (lines (map Pivot marks)) ≡ 9 * length marks
length_pivots [] = refl
length_pivots (mark ∷ marks) = let rest = length_pivots marks in let both = length-append (line (Pivot mark)) (lines (map Pivot marks)) in omega arith

marked_append : (b : ℕ) (xs ys : List Bool) (k : ℕ) → k ≡ b + length xs → marked_from b (xs ++ ys) ≡ marked_from b xs ++ marked_from k ys
marked_append b [] ys k is = let same : k ≡ b = omega arith in rw same
marked_append b (true ∷ xs) ys k is = ap (λ (l : List ℕ). b ∷ l) (marked_append (suc b) xs ys k (omega arith))
marked_append b (false ∷ xs) ys k is = marked_append (suc b) xs ys k (omega arith)

pub marked_count : (b : ℕ) (pivots : List Bool) → length (marked_from b pivots) ≡ count_by (λ p. p) pivots
marked_count b [] = refl
marked_count b (true ∷ pivots) = omega (arith, marked_count (suc b) pivots, sum_by-cons (λ p. cond p 1 0) true pivots)
marked_count b (false ∷ pivots) = omega (arith, marked_count (suc b) pivots, sum_by-cons (λ p. cond p 1 0) false pivots)

-- one turn of a loop over the marks, which are numbered
module _ (pivots : List Bool) (i : ℕ) {marked : Bool} {rest : List Bool} (left : drop i pivots ≡ marked ∷ rest) where
  pub turn_inside : i < length pivots
  turn_inside = omega (arith, ap length left, length-drop i pivots)

  split : get_or pivots i false ∷ drop (i + 1) pivots ≡ marked ∷ rest
  split = sym (drop_more pivots i false turn_inside) ∙ left

  here : get_or pivots i false ≡ marked
  here = ap (λ (l : List Bool). get_or l 0 false) split

  pub turn_rest : drop (i + 1) pivots ≡ rest
  turn_rest = ap (drop 1) split

  marked_more : marked_from 0 (take (i + 1) pivots) ≡ marked_from 0 (take i pivots) ++ marked_from i (marked ∷ [])
  marked_more =
      rw here at (ap (marked_from 0) (take_more pivots i false turn_inside) ∙ marked_append 0 (take i pivots) (get_or pivots i false ∷ []) i (omega (arith, length-take-le i pivots (omega (arith, turn_inside)))))

  pub marked_yes : marked ≡ true → marked_from 0 (take (i + 1) pivots) ≡ marked_from 0 (take i pivots) ++ i ∷ []
  marked_yes is_marked = rw is_marked at marked_more

  pub marked_no : marked ≡ false → marked_from 0 (take (i + 1) pivots) ≡ marked_from 0 (take i pivots)
  marked_no unmarked = rw (unmarked, append-nil) at marked_more

pub marked_upto : (pivots : List Bool) (i : ℕ) → i ≤ length pivots → length (marked_from 0 (take i pivots)) ≤ length (marked_from 0 pivots)
marked_upto pivots i inside =
    let whole = ap (λ (l : List Bool). length (marked_from 0 l)) (sym (take-append-drop i pivots)) in
    let parts = ap length (marked_append 0 (take i pivots) (drop i pivots) i (omega (arith, length-take-le i pivots inside))) in
    let both = length-append (marked_from 0 (take i pivots)) (marked_from i (drop i pivots)) in
    omega arith
