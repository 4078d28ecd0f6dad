-- Hexadecimal digits and the bytes that they spell.
use Rattle.std.proofs.Common.{◌≡◌, ℕ, ◌+◌, ◌*◌, ◌/◌, ◌%◌, ◌<◌, ◌≤◌, List, [], ◌∷◌, ◌++◌, length, get_or, ◌≢◌, refl, ap, ◌∙◌, sym, append_assoc, append-nil, arith, length-append}
use Rattle.std.specs.List.{AllByRecursion}
use Rattle.std.proofs.lemmas.Bool.Decides.{nat_tests}
use Rattle.chartfile.specs.Hex.{digit, hex, Spells}
use Rattle.chartfile.specs.Frames.{check, checked}
use Rattle.chartfile.specs.Faults.{FirstLine}

-- no digit is byte 0A
pub digit_high : (d : ℕ) → 48 ≤ digit d
digit_high d = grind (arith, nat_tests)

digit_unique : (d e : ℕ) → digit d ≡ digit e → d ≡ e
digit_unique d e same = grind (arith, nat_tests)

pub hex_append : (xs ys : List ℕ) → hex (xs ++ ys) ≡ hex xs ++ hex ys
hex_append [] ys = refl
hex_append (x ∷ xs) ys = ap (λ (l : List ℕ). digit (x / 16) ∷ digit (x % 16) ∷ l) (hex_append xs ys)

pub length_hex : (xs : List ℕ) → length (hex xs) ≡ 2 * length xs
length_hex [] = refl
length_hex (x ∷ xs) = let rest = length_hex xs in omega arith

pub long_line : (bytes : List ℕ) → length (hex (checked bytes) ++ 10 ∷ []) ≡ 2 * length bytes + 3
long_line bytes =
    let digits = length_hex (checked bytes) in
    let last = length-append bytes (check bytes ∷ []) in
    let all = length-append (hex (checked bytes)) (10 ∷ []) in
    omega arith

-- where a line begins with the digits of some bytes, it goes on with those of the bytes left
pub goes_on : (bs cs xs ys : List ℕ) → hex bs ++ xs ≡ hex cs ++ 10 ∷ ys → (left : List ℕ) × (cs ≡ bs ++ left) × (xs ≡ hex left ++ 10 ∷ ys)
goes_on [] cs xs ys e = (cs, refl, e)
goes_on (b ∷ bs) [] xs ys e = let first : digit (b / 16) ≡ 10 = cc in let far = digit_high (b / 16) in absurd (omega arith)
goes_on (b ∷ bs) (c ∷ cs) xs ys e =
    let high = digit_unique (b / 16) (c / 16) (cc) in
    let low = digit_unique (b % 16) (c % 16) (cc) in
    let same : b ≡ c = omega arith in
    let rest = goes_on bs cs xs ys (cc) in
    let more = rest.1 in
    (rest.0, cc, rest.2)

none_left : (left xs ys : List ℕ) → 10 ∷ xs ≡ hex left ++ 10 ∷ ys → (left ≡ []) × (xs ≡ ys)
none_left [] xs ys e = (refl, cc)
none_left (c ∷ left) xs ys e = let first : 10 ≡ digit (c / 16) = cc in let far = digit_high (c / 16) in absurd (omega arith)

pub hex_unique : (bs cs xs ys : List ℕ) → hex bs ++ 10 ∷ xs ≡ hex cs ++ 10 ∷ ys → (bs ≡ cs) × (xs ≡ ys)
hex_unique bs cs xs ys e =
    let on = goes_on bs cs (10 ∷ xs) ys e in
    let end = none_left on.0 xs ys on.2 in
    (sym (on.1 ∙ ap (λ (left : List ℕ). bs ++ left) end.0 ∙ append-nil bs), end.1)

head : {x y : ℕ} {xs ys : List ℕ} → x ∷ xs ≡ y ∷ ys → x ≡ y
head e = ap (λ (l : List ℕ). get_or l 0 0) e

second : {v w x y : ℕ} {xs ys : List ℕ} → v ∷ x ∷ xs ≡ w ∷ y ∷ ys → x ≡ y
second e = ap (λ (l : List ℕ). get_or l 1 0) e

pub all_rest : {X : Type 0} (P : X → Type 0) (xs ys : List X) → AllByRecursion P (xs ++ ys) → AllByRecursion P ys
all_rest P [] ys all = all
all_rest P (x ∷ xs) ys all = all_rest P xs ys all.1

-- a text begins with the digits of these bytes
module _ (text bytes rest : List ℕ) (is : text ≡ hex bytes ++ rest) where
  -- no line ends here, and no byte follows that the line has room for
  pub no_line : ((after : List ℕ) → rest ≡ 10 ∷ after → length bytes ≡ 0) → ((b : ℕ) (after : List ℕ) → b < 256 → rest ≡ digit (b / 16) ∷ digit (b % 16) ∷ after → 32 ≤ length bytes) → (bs more : List ℕ) → FirstLine text bs more → ⊥
  no_line ended full bs more line =
      let on = goes_on bytes bs rest more (sym is ∙ line.is) in
      stops on.0 on.1 on.2
    where
      stops : (left : List ℕ) → bs ≡ bytes ++ left → rest ≡ hex left ++ 10 ∷ more → ⊥
      stops [] all here = let none = ended more here in let some = line.some in let same = ap length (all ∙ append-nil bytes) in omega arith
      stops (b ∷ left) all here =
          let each = all_rest (λ b. b < 256) bytes (b ∷ left) (rw all at line.each) in
          let many = full b _ each.0 here in
          let long = ap length all in
          let both = length-append bytes (b ∷ left) in
          let few = line.few in
          omega arith

  pub nothing_more : length rest ≡ 0 → (bs more : List ℕ) → FirstLine text bs more → ⊥
  nothing_more none = no_line (λ after e. omega (arith, ap length e)) (λ b after small e. omega (arith, ap length e))

  pub no_bytes : (more : List ℕ) → rest ≡ 10 ∷ more → length bytes ≡ 0 → (bs after : List ℕ) → FirstLine text bs after → ⊥
  no_bytes more here none = no_line (λ after e. none) (λ b after small e. let far = digit_high (b / 16) in let first : 10 ≡ digit (b / 16) = head (sym here ∙ e) in omega arith)

  pub lone_digit : (high : ℕ) (more : List ℕ) → rest ≡ high ∷ more → high ≢ 10 → length more ≡ 0 → (bs after : List ℕ) → FirstLine text bs after → ⊥
  lone_digit high more here other none = no_line (λ after e. absurd (other (head (sym here ∙ e)))) (λ b after small e. omega (arith, ap length here, ap length e))

  pub no_byte : (high low : ℕ) (after : List ℕ) → rest ≡ high ∷ low ∷ after → high ≢ 10 → ((b : ℕ) → b < 256 → Spells high low b → 32 ≤ length bytes) → (bs more : List ℕ) → FirstLine text bs more → ⊥
  no_byte high low after here other full = no_line (λ more e. absurd (other (head (sym here ∙ e)))) (λ b more small e. full b small (head (sym here ∙ e), second (sym here ∙ e)))

  -- one byte more
  pub one_more : (b high low : ℕ) (after : List ℕ) → rest ≡ high ∷ low ∷ after → Spells high low b → text ≡ hex (bytes ++ b ∷ []) ++ after
  one_more b high low after here spells =
      is ∙ ap (λ (l : List ℕ). hex bytes ++ l) (here ∙ rw (spells.0, spells.1) refl) ∙ sym (append_assoc (hex bytes) (hex (b ∷ [])) after) ∙ ap (λ (l : List ℕ). l ++ after) (sym (hex_append bytes (b ∷ [])))

-- a line is longer than what follows it
pub shorter : {text bytes rest : List ℕ} → FirstLine text bytes rest → length rest < length text
shorter {text} {bytes} {rest} line = let long = ap length line.is in let both = length-append (hex bytes) (10 ∷ rest) in omega arith
