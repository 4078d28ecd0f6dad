-- How many labels say yes.
use Rattle.std.proofs.Common.{◌≡◌, ℕ, zero, suc, ◌≤◌, true, cond, List, length, get_or, take, count_by, is_some, Some, None, Option, refl, ap, inl, inr, add-one, arith}
use lib.Seq.{take_all}
use Rattle.std.proofs.lemmas.List.Sums.{count_by_more_yes, count_by_more_no}
use Rattle.std.proofs.lemmas.Bool.{cases_Bool}
use Rattle.measure.specs.Kind.{Kind}
use Rattle.waterway.specs.declared.Label.{Label}
use Rattle.waterway.specs.Counts.{Counts}
use Rattle.waterway.specs.Labels.{unlabelled, label_of}
use Rattle.queue.proofs.Tally.{one_if, tally}
use Rattle.bundling.proofs.Queue.{true_false}
use Rattle.bundling.proofs.Tally.{tally_counts}
use Rattle.relaxing.proofs.Voyage.{counts_moved}

some_is : {C : Type 0} (o : Option C) → is_some o ≡ true → (k : C) × (o ≡ Some k)
some_is None e = true_false e refl
some_is (Some k) e = (k, refl)

known_tally : {C : Type 0} (K : Kind C) (labels : List (Label C)) (i : ℕ) → i ≤ length labels → count_by (λ l. l.known) (take i labels) ≡ tally (λ v. is_some (label_of K labels v)) i
unfolding label_of
known_tally K labels zero le = refl
known_tally K labels (suc i) le =
    let l = get_or labels i (unlabelled K) in
    let before = known_tally K labels i (omega arith) in
    elim (cases_Bool l.known) [
      | inl k ↦ omega (arith, rw add-one at (count_by_more_yes (λ l. l.known) labels i (unlabelled K) (omega arith) k), before, ap (λ b. one_if (is_some (cond b (Some l.cost) None))) k)
      | inr k ↦ omega (arith, rw add-one at (count_by_more_no (λ l. l.known) labels i (unlabelled K) (omega arith) k), before, ap (λ b. one_if (is_some (cond b (Some l.cost) None))) k)
    ]

-- they are the labels that tell a cost
pub known_counts : {C : Type 0} (K : Kind C) (labels : List (Label C)) → Counts (λ v. (c : C) × (label_of K labels v ≡ Some c)) (length labels) (count_by (λ l. l.known) labels)
known_counts {C} K labels =
    let all : count_by (λ l. l.known) labels ≡ tally (λ v. is_some (label_of K labels v)) (length labels) =
    rw (take_all (length labels) labels (omega arith)) at (known_tally K labels (length labels) (omega arith)) in
    counts_moved (tally_counts (λ v. is_some (label_of K labels v)) (λ v. (c : C) × (label_of K labels v ≡ Some c)) (λ v. (some_is (label_of K labels v), λ c. ap is_some c.1)) (length labels))
    refl all
