-- What labels say that are read and written.
use Rattle.std.proofs.Common.{◌≡◌, ℕ, ◌<◌, true, false, List, length, replicate, get_or, set, Some, None, Option, sym, ap, ◌∙◌, inl, inr, arith}
use native.Mathlib.Decide.{ℕ_discrete, dec_lt}
use Rattle.std.proofs.lemmas.List.{get_or_read, get_or-set_same, get_or-set_other, get_or_past, get_or-replicate, length-replicate}
use Rattle.std.proofs.lemmas.Bool.{cases_lt, cond-true, cond-false}
use Rattle.measure.specs.Kind.{Kind, Lawful}
use Rattle.measure.proofs.Sums as sums
use Rattle.waterway.specs.declared.Label.{Label}
use Rattle.waterway.specs.Labels.{told, unlabelled, label_of, Clean, Within, Lower, Wrote}

module _ {C : Type 0} (K : Kind C) (labels : List (Label C)) where
  pub label_read : (v : ℕ) (l : Label C) → v < length labels → l ≡ get_or labels v l → label_of K labels v ≡ told l
  unfolding label_of
  label_read v l lt e = ap told (sym (get_or_read labels v l lt e (unlabelled K)))

  pub label_known : (v : ℕ) (l : Label C) → v < length labels → l ≡ get_or labels v l → l.known ≡ true → label_of K labels v ≡ Some l.cost
  label_known v l lt e k = label_read v l lt e ∙ cond-true l.known (Some l.cost) None k

  pub label_none : (v : ℕ) (l : Label C) → v < length labels → l ≡ get_or labels v l → l.known ≡ false → label_of K labels v ≡ None
  label_none v l lt e k = label_read v l lt e ∙ cond-false l.known (Some l.cost) None k

  pub wrote : (y : ℕ) (r : C) → y < length labels → Wrote (label_of K labels) (label_of K (set labels y (record { known = true; cost = r }))) y r
  unfolding label_of
  wrote y r lt = record {
    here = ap told (get_or-set_same labels y (record { known = true; cost = r }) (unlabelled K) lt);
    others = λ v ne. ap told (get_or-set_other labels y v (record { known = true; cost = r }) (unlabelled K) ne);
  }

  -- labels that say nothing within their length say nothing anywhere
  pub blanked_all : ((v : ℕ) → v < length labels → label_of K labels v ≡ None) → (v : ℕ) → label_of K labels v ≡ None
  unfolding label_of
  blanked_all h v = elim (cases_lt v (length labels)) [ inl lt ↦ h v lt | inr past ↦ ap told (get_or_past labels v (unlabelled K) past) ]

module _ {C : Type 0} (K : Kind C) (n : ℕ) where
  -- wherever labels are blanked, each reads as a blank one, and says nothing
  pub blanked_at : (v : ℕ) → get_or (replicate n (unlabelled K)) v (unlabelled K) ≡ unlabelled K
  blanked_at v = elim (dec_lt v n) [
    | yes lt ↦ get_or-replicate n v (unlabelled K) (unlabelled K) lt
    | no past ↦ get_or_past (replicate n (unlabelled K)) v (unlabelled K) (omega (arith, length-replicate n (unlabelled K)))
  ]

  pub blanked : (v : ℕ) → label_of K (replicate n (unlabelled K)) v ≡ None
  unfolding label_of
  blanked v = ap told (blanked_at v)

  pub blanked_as : {labels : List (Label C)} → labels ≡ replicate n (unlabelled K) → (v : ℕ) → label_of K labels v ≡ None
  blanked_as e = rw e blanked

  pub blanked_clean : Clean K (replicate n (unlabelled K))
  blanked_clean = record { each = λ v none. blanked_at v }

module _ {C : Type 0} {K : Kind C} {labels : List (Label C)} where
  pub clean_wrote : (y : ℕ) (r : C) → y < length labels → Clean K labels → Clean K (set labels y (record { known = true; cost = r }))
  clean_wrote y r lt clean = record {
    each = λ v none. elim (ℕ_discrete v y) [
      | yes e ↦ sums.some_none (wrote K labels y r lt).here (rw e at none)
      | no e ↦ get_or-set_other labels y v (record { known = true; cost = r }) (unlabelled K) e ∙ clean.each v (sym ((wrote K labels y r lt).others v e) ∙ none)
    ];
  }

-- Labels that fall

module _ {C : Type 0} {K : Kind C} (L : Lawful K) where
  -- what a label has come down to, a lower one has too
  pub within_lower : {label label' : ℕ → Option C} {v : ℕ} {r : C} → Lower K label label' → Within K (label v) r → Within K (label' v) r
  within_lower {v = v} lower m =
      let n = lower v m.value m.is in
      record { value = n.value; is = n.is; upto = sums.at_most_trans L n.upto m.upto }

  pub lower_refl : (label : ℕ → Option C) → Lower K label label
  lower_refl label v c e = record { value = c; is = e; upto = sums.at_most_refl L c }

  pub lower_trans : {label label' label'' : ℕ → Option C} → Lower K label label' → Lower K label' label'' → Lower K label label''
  lower_trans f g v c e = within_lower g (f v c e)
