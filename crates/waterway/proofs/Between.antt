-- The marks of a least way lie between its ends.
use Rattle.std.proofs.Common.{◌≡◌, ℕ, List, [], ◌∷◌, ap, ◌∙◌, inl, inr, arith}
use Rattle.std.specs.List.{ContainsAt as Has}
use Rattle.measure.specs.Kind.{Kind, AtMost}
use Rattle.measure.proofs.Sums as sums
use Rattle.measure.proofs.Sums.{plus}
use Rattle.waterway.specs.Ways.{Joins, Walk, stay, along, Simple, Water, toll, Dist, Sound}
use Rattle.waterway.proofs.Bills as bills
use Rattle.waterway.proofs.Bills.{bill}
use Rattle.waterway.proofs.Cuts as cuts
use Rattle.waterway.proofs.Metric as metric
use Rattle.waterway.proofs.Counted.{has_cases}

-- x lies on a least way from u to v, which costs c
pub record Between {C : Type 0} {K : Kind C} (W : Water K) (u x v : ℕ) (c : C) : Type 0 where
  pub first : C
  pub second : C
  pub to : Dist W u x first
  pub on : Dist W x v second
  pub adds : plus K first second ≡ c

module _ {C : Type 0} {K : Kind C} {W : Water K} {n : ℕ} (S : Sound W n) where
  open S use {lawful as L}

  -- a leg onto a mark that lies on a least way
  between_leg : {k u w x v : ℕ} {d : C} → Joins W.legs k u w → Between W w x v d → Dist W u v (plus K (toll W k) d) → Between W u x v (plus K (toll W k) d)
  between_leg {k} {u} {w} {x} {v} {d} j B D =
      let a = B.first in
      let b = B.second in
      let A = metric.leg_dist S j B.to in
      let regroup : plus K (plus K (toll W k) a) b ≡ plus K (toll W k) d =
      sums.plus_assoc L (toll W k) a b (omega (arith, cuts.dist_size S, bills.toll_small S)) ∙ ap (plus K (toll W k)) B.adds in
      let most : AtMost K A.0 (plus K (toll W k) a) = metric.leg_most S j B.to A.1 in
      let least : AtMost K (plus K (toll W k) a) A.0 =
      sums.plus_cancel L (plus K (toll W k) a) A.0 b (omega (arith, cuts.dist_size S, bills.toll_small S, sums.size_plus L)) (omega (arith, cuts.dist_size S, bills.toll_small S))
      (rw regroup (metric.triangle S A.1 B.on D)) in
      let same : A.0 ≡ plus K (toll W k) a = sums.at_most_antisym L most least in
      record { first = A.0; second = b; to = A.1; on = B.on; adds = ap (λ y. plus K y b) same ∙ regroup }

  walk_between : {u v : ℕ} {ks ms : List ℕ} (x : ℕ) → Walk W.legs u v ks ms → Simple ms → Dist W u v (bill W ks) → Has ms x → Between W u x v (bill W ks)
  walk_between x (stay {v = v}) s D h = elim (has_cases v x [] h) [
    | inl e ↦ rw (← e) (record { first = K.zero; second = K.zero; to = metric.dist_self S v; on = metric.dist_self S v; adds = sums.zero_plus L K.zero })
    | inr none ↦ (let lt = none.1 in absurd (omega arith))
  ]
  walk_between x (along {k = k} {u = u} {ks = ks} {ms = ms} j p) s D h = elim (has_cases u x ms h) [
    | inl e ↦ rw (← e) (record { first = K.zero; second = bill W (k ∷ ks); to = metric.dist_self S u; on = D; adds = sums.zero_plus L (bill W (k ∷ ks)) })
    | inr o ↦ between_leg j (walk_between x p s.1 (metric.dist_rest S j (record { walk = p; simple = s.1 }) D) o) D
  ]

  -- each mark of a least way lies between its ends
  pub dist_between : {u v : ℕ} {c : C} (x : ℕ) (D : Dist W u v c) → Has D.ms x → Between W u x v c
  dist_between x D o =
      rw (cuts.dist_cost S D) at (walk_between x D.way.walk D.way.simple (rw (cuts.dist_cost S D) D) o)
