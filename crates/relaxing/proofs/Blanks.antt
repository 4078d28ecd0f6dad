-- Blank labels.
use Rattle.std.proofs.Common.{◌≡◌, ℕ, List, replicate, None, ap}
use Rattle.measure.specs.Kind.{Kind}
use Rattle.waterway.specs.declared.Label.{Label}
use Rattle.waterway.specs.Labels.{told, unlabelled, label_of, Clean}
use Rattle.waterway.proofs.Written.{blanked_at}
use Rattle.relaxing.specs.Offers.{Blank}

module _ {C : Type 0} {K : Kind C} {labels : List (Label C)} where
  pub blank_none : Blank K labels → (v : ℕ) → label_of K labels v ≡ None
  unfolding label_of
  blank_none b v = ap told (b.each v)

  pub blank_clean : Blank K labels → Clean K labels
  blank_clean b = record { each = λ v none. b.each v }

pub blank_made : {C : Type 0} (K : Kind C) (n : ℕ) {labels : List (Label C)} → labels ≡ replicate n (unlabelled K) → Blank K labels
blank_made K n e = rw e (record { each = blanked_at K n })
