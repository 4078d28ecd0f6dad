-- Labels that fall stay the costs of ways home.
use Rattle.std.proofs.Common.{◌≡◌, ℕ, ◌^◌, ◌≤◌, ◌⊎◌, List, [], ◌∷◌, Some, None, Option, sym, refl, ap, ◌∙◌, inl, inr, arith}
use native.Mathlib.Decide.{ℕ_discrete}
use Rattle.measure.specs.Kind.{Kind, Lawful, AtMost}
use Rattle.measure.proofs.Sums as sums
use Rattle.measure.proofs.Sums.{plus, some_none, some_injective}
use Rattle.waterway.specs.Ways.{Joins, Walk, stay, along, Off, Simple, Way, Water, toll, Sound}
use Rattle.waterway.specs.Labels.{Within, Lower}
use Rattle.waterway.proofs.Bills as bills
use Rattle.waterway.proofs.Bills.{bill}
use Rattle.waterway.proofs.Written.{within_lower, lower_refl}
use Rattle.plain.specs.Relaxing.{Lowered, Relaxed, Trail, at_home, over, Sure}

module _ {C : Type 0} {K : Kind C} (L : Lawful K) {label label' : ℕ → Option C} where
  pub lowered_lower : (y : ℕ) (r : C) → Lowered K label label' y r → Lower K label label'
  lowered_lower y r (inl (same, w)) v c e = record { value = c; is = same v ∙ e; upto = sums.at_most_refl L c }
  lowered_lower y r (inr (wrote, above)) v c e = elim (ℕ_discrete v y) [
    | no other ↦ record { value = c; is = wrote.others v other ∙ e; upto = sums.at_most_refl L c }
    | yes at ↦ elim (sums.below_or L c r) [
      | inl l ↦ absurd (above (record { value = c; is = rw at at e; upto = sums.at_most_below L l }))
      | inr le ↦ record { value = r; is = rw at wrote.here; upto = le }
    ]
  ]

  pub lowered_within : (y : ℕ) (r : C) → Lowered K label label' y r → Within K (label' y) r
  lowered_within y r (inl (same, w)) = record { value = w.value; is = same y ∙ w.is; upto = w.upto }
  lowered_within y r (inr (wrote, above)) = record { value = r; is = wrote.here; upto = sums.at_most_refl L r }

-- a sum was offered, or all stay
record Offer {C : Type 0} (K : Kind C) (label label' : ℕ → Option C) (x y : ℕ) (price : C) : Type 0 where
  d : C
  c : C
  at : label x ≡ Some d
  adds : K.sum d price ≡ Some c
  lowered : Lowered K label label' y c

relaxed_or : {C : Type 0} {K : Kind C} {label label' : ℕ → Option C} {x y : ℕ} {price : C} → Relaxed K label label' x y price → Offer K label label' x y price ⊎ (label' ≡ label)
relaxed_or {C} {K} {label} {label'} {x} {y} {price} r = from (label x) refl
  where
    stay_all : ((d c : C) → label x ≡ Some d → K.sum d price ≡ Some c → ⊥) → label' ≡ label
    stay_all none = let same = r.idle none in λ i v. same v i

    sum_of : (d : C) → label x ≡ Some d → (o : Option C) → K.sum d price ≡ o → Offer K label label' x y price ⊎ (label' ≡ label)
    sum_of d e None f = inr (stay_all (λ d' c e' f'. some_none (rw (some_injective e' e) at f') f))
    sum_of d e (Some c) f = inl (record { d = d; c = c; at = e; adds = f; lowered = r.offered d c e f })

    from : (o : Option C) → label x ≡ o → Offer K label label' x y price ⊎ (label' ≡ label)
    from None e = inr (stay_all (λ d c e' f. some_none e' e))
    from (Some d) e = sum_of d e (K.sum d price) refl

module _ {C : Type 0} {K : Kind C} {W : Water K} {n : ℕ} (S : Sound W n) {home : ℕ} where
  open S use {lawful as L}

  -- A trail is a way

  trail_walk : {label : ℕ → Option C} {u : ℕ} {ms : List ℕ} {c : C} → Trail W home label u ms c → (ks : List ℕ) × Walk W.legs u home ks ms × (bill W ks ≡ c)
  trail_walk at_home = ([], stay, refl)
  trail_walk (over {k = k} {c = c} {d = d} j off adds w t) =
      let r = trail_walk t in (k ∷ r.0, along j r.1, ap (plus K (toll W k)) r.2 ∙ sums.plus_is L (toll W k) d c adds)

  trail_simple : {label : ℕ → Option C} {u : ℕ} {ms : List ℕ} {c : C} → Trail W home label u ms c → Simple ms
  trail_simple at_home = (tt, tt)
  trail_simple (over j off adds w t) = (off, trail_simple t)

  pub trail_way : {label : ℕ → Option C} {u : ℕ} {ms : List ℕ} {c : C} → Trail W home label u ms c → (ks : List ℕ) × Way W.legs u home ks ms × (bill W ks ≡ c)
  trail_way t = let r = trail_walk t in (r.0, record { walk = r.1; simple = trail_simple t }, r.2)

  trail_size : {label : ℕ → Option C} {u : ℕ} {ms : List ℕ} {c : C} → Trail W home label u ms c → K.size c ≤ 2 ^ 44
  trail_size {u = u} {ms = ms} t =
      let r = trail_way t in
      let e = ap K.size r.2 in
      omega (arith, bills.way_size S u home r.0 ms r.1)

  trail_lower : {label label' : ℕ → Option C} {u : ℕ} {ms : List ℕ} {c : C} → Lower K label label' → Trail W home label u ms c → Trail W home label' u ms c
  trail_lower lower at_home = at_home
  trail_lower lower (over j off adds w t) = over j off adds (within_lower L lower w) (trail_lower lower t)

  -- a trail misses a mark, or the mark has a label that is not above what the trail costs
  trail_meets : {label : ℕ → Option C} {u : ℕ} {ms : List ℕ} {c : C} (m : ℕ) → label home ≡ Some K.zero → Trail W home label u ms c → Off m ms ⊎ Within K (label m) c
  trail_meets m z at_home = elim (ℕ_discrete m home) [ yes e ↦ inr (rw e (record { value = K.zero; is = z; upto = sums.at_most_refl L K.zero })) | no e ↦ inl (e, tt) ]
  trail_meets m z (over {k = k} {u = u} {c = c} {d = d} j off adds w t) = elim (ℕ_discrete m u) [
    | yes e ↦ inr (rw e w)
    | no e ↦ elim (trail_meets m z t) [
      | inl o ↦ inl (e, o)
      | inr x ↦ (let small = trail_size t in
          let more : AtMost K d c = rw (sums.plus_is L (toll W k) d c adds) at (sums.plus_more_left L (toll W k) d (omega (arith, bills.toll_small S))) in
          inr (record { value = x.value; is = x.is; upto = sums.at_most_trans L x.upto more }))
    ]
  ]

  -- One relaxation

  pub sure_size : {label : ℕ → Option C} → Sure W home label → (v : ℕ) (c : C) → label v ≡ Some c → K.size c ≤ 2 ^ 44
  sure_size sure v c e = trail_size (sure.real v c e).1

  module _ {label label' : ℕ → Option C} (sure : Sure W home label) where
    module _ {k u w : ℕ} (j : Joins W.legs k u w) (r : Relaxed K label label' w u (toll W k)) where
      pub relaxed_lower : Lower K label label'
      relaxed_lower = elim (relaxed_or r) [ inl o ↦ lowered_lower L u o.c o.lowered | inr same ↦ rw same (lower_refl L label) ]

      -- the label falls to the cost of a way, since a way that came over the mark already would not cost less
      lowered_sure : (d c : C) → label w ≡ Some d → K.sum d (toll W k) ≡ Some c → Lowered K label label' u c → Sure W home label'
      lowered_sure d c at adds (inl (same, x)) = let e : label' ≡ label = λ i v. same v i in rw e sure
      lowered_sure d c at adds (inr (wrote, above)) = record { zero_home = home_stays; real = real }
        where
          turned : K.sum (toll W k) d ≡ Some c
          turned = L.comm (toll W k) d ∙ adds

          lower : Lower K label label'
          lower = lowered_lower L u c (inr (wrote, above))

          t : (ms : List ℕ) × Trail W home label w ms d
          t = sure.real w d at

          home_stays : label' home ≡ Some K.zero
          home_stays = elim (ℕ_discrete home u) [
            | yes e ↦ absurd (above (rw (← e) (record { value = K.zero; is = sure.zero_home; upto = sums.zero_at_most L c })))
            | no e ↦ wrote.others home e ∙ sure.zero_home
          ]

          not_met : Off u t.0 ⊎ Within K (label u) d → Off u t.0
          not_met (inl o) = o
          not_met (inr x) =
              let small = sure_size sure w d at in
              let more : AtMost K d c = rw (sums.plus_is L (toll W k) d c turned) at (sums.plus_more_left L (toll W k) d (omega (arith, bills.toll_small S))) in
              absurd (above (record { value = x.value; is = x.is; upto = sums.at_most_trans L x.upto more }))

          real : (v : ℕ) (b : C) → label' v ≡ Some b → (ms : List ℕ) × Trail W home label' v ms b
          real v b e = elim (ℕ_discrete v u) [
            | yes is ↦ (let cost : c ≡ b = some_injective wrote.here (rw is at e) in
                rw (is, ← cost) (
                  u ∷ t.0,
                  over j (not_met (trail_meets u sure.zero_home t.1)) turned
                      (record { value = c; is = wrote.here; upto = sums.at_most_refl L c }) (trail_lower lower t.1),
                ))
            | no other ↦ (let s = sure.real v b (sym (wrote.others v other) ∙ e) in (s.0, trail_lower lower s.1))
          ]

      pub relaxed_sure : Sure W home label'
      relaxed_sure = elim (relaxed_or r) [ inl o ↦ lowered_sure o.d o.c o.at o.adds o.lowered | inr same ↦ rw same sure ]

      pub relaxed_offered : {c d : C} → Within K (label w) d → K.sum (toll W k) d ≡ Some c → Within K (label' u) c
      relaxed_offered {c} {d} x adds =
          let small = sure_size sure w x.value x.is in
          let fits = sums.sum_fits L (toll W k) d c adds in
          let given = sums.sum_plus L x.value (toll W k) (omega (arith, bills.toll_small S)) in
          let y = lowered_within L u _ (r.offered x.value _ x.is given) in
          let most : AtMost K (plus K x.value (toll W k)) c =
          rw (sums.plus_comm L x.value (toll W k), ← sums.plus_is L (toll W k) d c adds)
          (sums.plus_mono_left L x.value d (toll W k) (omega (arith, bills.toll_small S)) (omega arith) x.upto) in
          record { value = y.value; is = y.is; upto = sums.at_most_trans L y.upto most }
