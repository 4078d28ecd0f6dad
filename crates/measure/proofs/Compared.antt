-- What an answer of `compare` says.
use Rattle.std.proofs.Common.{◌≡◌, Ordering, Less, Equal, Greater, sym, refl}
use Rattle.std.specs.Ordering.{MatchOrdering}
use Rattle.measure.specs.Kind.{Kind, Lawful, AtMost}
use Rattle.measure.proofs.Sums.{at_most_eq, at_most_below}

-- what each answer says may be put in other words
pub ranked_as : {P P' Q Q' R R' : Type 0} (o : Ordering) → MatchOrdering o P Q R → (P → P') → (Q → Q') → (R → R') → MatchOrdering o P' Q' R'
ranked_as Less h p q r = p h
ranked_as Equal h p q r = q h
ranked_as Greater h p q r = r h

module _ {C : Type 0} {K : Kind C} (L : Lawful K) (a b : C) where
  pub not_less : (o : Ordering) → MatchOrdering o (K.Below a b) (a ≡ b) (K.Below b a) → (o ≡ Less → ⊥) → AtMost K b a
  not_less Less r other = absurd (other refl)
  not_less Equal r other = at_most_eq L (sym r)
  not_less Greater r other = at_most_below L r

  pub not_greater : (o : Ordering) → MatchOrdering o (K.Below a b) (a ≡ b) (K.Below b a) → (o ≡ Greater → ⊥) → AtMost K a b
  not_greater Less r other = at_most_below L r
  not_greater Equal r other = at_most_eq L r
  not_greater Greater r other = absurd (other refl)
