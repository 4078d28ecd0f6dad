-- A plain search that computes: the least cost of a walk of at most h legs to v, for each h in turn.
-- After as many rounds as there are marks it tells the distance, so any two marks have a distance or no way.
use Rattle.std.proofs.Common.{◌≡◌, ℕ, zero, suc, ◌+◌, ◌^◌, ◌<◌, ◌≤◌, Bool, true, false, cond, eqb, ◌⊎◌, List, [], ◌∷◌, length, Some, None, Decides, Option, sym, refl, ap, ◌∙◌, inl, inr, arith}
use native.Mathlib.Decide.{ℕ_discrete}
use Rattle.std.proofs.lemmas.Bool.{both_ways, cases_Bool, eqb-true, eq-eqb}
use Rattle.measure.specs.Kind.{Kind, Lawful, AtMost, limit, onto}
use Rattle.measure.proofs.Sums as sums
use Rattle.measure.proofs.Sums.{plus, some_none, some_injective}
use Rattle.waterway.specs.Legs.{leg_at}
use Rattle.waterway.specs.Ways.{Joins, Walk, stay, along, Water, toll, Dist, Apart, Tells, Sound}
use Rattle.waterway.specs.Labels.{Within}
use Rattle.waterway.proofs.Bills as bills
use Rattle.waterway.proofs.Bills.{bill}
use Rattle.waterway.proofs.Cuts as cuts

-- some walk of at most h legs from u to v costs c
pub record Reach {C : Type 0} {K : Kind C} (W : Water K) (h u v : ℕ) (c : C) : Type 0 where
  pub ks : List ℕ
  pub ms : List ℕ
  pub walk : Walk W.legs u v ks ms
  pub few : length ks ≤ h
  pub costs : bill W ks ≡ c

-- The search

module _ {C : Type 0} {K : Kind C} (W : Water K) (less : C → C → Bool) where
  -- the lesser of two costs, where they are given
  unfoldable pub lesser : Option C → Option C → Option C
  lesser None q = q
  lesser (Some a) None = Some a
  lesser (Some a) (Some b) = Some (cond (less b a) b a)

  -- from u over the leg k if it is open and ends there, and on from its other end
  unfoldable pub over : (ℕ → Option C) → ℕ → ℕ → Option C
  over rest u k = cond (leg_at W.legs k).«open»
      (lesser
      (cond (eqb (leg_at W.legs k).from u) (onto K (toll W k) (rest (leg_at W.legs k).to)) None)
      (cond (eqb (leg_at W.legs k).to u) (onto K (toll W k) (rest (leg_at W.legs k).from)) None))
      None

  -- the least over the first m legs, or as it was
  unfoldable pub offers : (ℕ → Option C) → ℕ → ℕ → Option C
  offers rest u zero = rest u
  offers rest u (suc m) = lesser (offers rest u m) (over rest u m)

  unfoldable pub rounds : ℕ → ℕ → ℕ → Option C
  rounds v zero u = cond (eqb u v) (Some K.zero) None
  rounds v (suc h) u = offers (rounds v h) u (length W.legs)

-- The search is right

module _ {C : Type 0} {K : Kind C} {W : Water K} {n : ℕ} (S : Sound W n) (less : C → C → Bool) (sharp : (a b : C) → Decides (less a b) (K.Below a b)) where
  open S use {lawful as L}

  within_more : {o : Option C} {a b : C} → Within K o a → AtMost K a b → Within K o b
  within_more w h = record { value = w.value; is = w.is; upto = sums.at_most_trans L w.upto h }

  lesser_found : (p q : Option C) {c : C} → lesser W less p q ≡ Some c → (p ≡ Some c) ⊎ (q ≡ Some c)
  unfolding lesser
  lesser_found None q e = inr e
  lesser_found (Some a) None e = inl e
  lesser_found (Some a) (Some b) e = elim (cases_Bool (less b a)) [ inl t ↦ inr (rw t at e) | inr t ↦ inl (rw t at e) ]

  lesser_left : (p q : Option C) {r : C} → Within K p r → Within K (lesser W less p q) r
  unfolding lesser
  lesser_left None q w = some_none w.is refl
  lesser_left (Some a) None w = w
  lesser_left (Some a) (Some b) w =
      let same : a ≡ w.value = some_injective refl w.is in
      elim (cases_Bool (less b a)) [
        | inl t ↦ record { value = b; is = rw t; upto = sums.at_most_trans L (rw same at (sums.at_most_below L ((sharp b a).0 t))) w.upto }
        | inr t ↦ record { value = a; is = rw t; upto = rw same w.upto }
      ]

  lesser_right : (p q : Option C) {r : C} → Within K q r → Within K (lesser W less p q) r
  unfolding lesser
  lesser_right None q w = w
  lesser_right (Some a) None w = some_none w.is refl
  lesser_right (Some a) (Some b) w =
      let same : b ≡ w.value = some_injective refl w.is in
      elim (cases_Bool (less b a)) [
        | inl t ↦ record { value = b; is = rw t; upto = rw same w.upto }
        | inr t ↦ (let kept : AtMost K a b = λ l. both_ways (less b a) t ((sharp b a).1 l) in
            record { value = a; is = rw t; upto = sums.at_most_trans L (rw same at kept) w.upto })
      ]

  -- what one leg brings
  record Onward (rest : ℕ → Option C) (u k : ℕ) (c : C) : Type 0 where
    w : ℕ
    d : C
    joins : Joins W.legs k u w
    at : rest w ≡ Some d
    adds : K.sum (toll W k) d ≡ Some c

  onto_found : (a : C) (o : Option C) {c : C} → onto K a o ≡ Some c → (d : C) × (o ≡ Some d) × (K.sum a d ≡ Some c)
  onto_found a None e = some_none e refl
  onto_found a (Some d) e = (d, refl, e)

  over_found : (rest : ℕ → Option C) (u k : ℕ) {c : C} → k < length W.legs → over W less rest u k ≡ Some c → Onward rest u k c
  unfolding over
  over_found rest u k {c} stands e = elim (cases_Bool (leg_at W.legs k).«open») [
    | inr shut ↦ some_none (rw shut at e) refl
    | inl free ↦ elim (lesser_found _ _ (rw free at e)) [
      | inl f ↦ elim (cases_Bool (eqb (leg_at W.legs k).from u)) [
        | inr t ↦ some_none (rw t at f) refl
        | inl t ↦ (let o = onto_found (toll W k) (rest (leg_at W.legs k).to) (rw t at f) in
            record { w = (leg_at W.legs k).to; d = o.0; joins = record { stands = stands; free = rw free tt; ends = inl (eqb-true _ _ t, refl) }; at = o.1; adds = o.2 })
      ]
      | inr f ↦ elim (cases_Bool (eqb (leg_at W.legs k).to u)) [
        | inr t ↦ some_none (rw t at f) refl
        | inl t ↦ (let o = onto_found (toll W k) (rest (leg_at W.legs k).from) (rw t at f) in
            record { w = (leg_at W.legs k).from; d = o.0; joins = record { stands = stands; free = rw free tt; ends = inr (refl, eqb-true _ _ t) }; at = o.1; adds = o.2 })
      ]
    ]
  ]

  onto_given : (rest : ℕ → Option C) (k w : ℕ) {d : C} → rest w ≡ Some d → K.size (toll W k) + K.size d ≤ limit → Within K (onto K (toll W k) (rest w)) (plus K (toll W k) d)
  onto_given rest k w {d} e fits = record { value = plus K (toll W k) d; is = rw e (sums.sum_plus L (toll W k) d fits); upto = sums.at_most_refl L (plus K (toll W k) d) }

  over_within : (rest : ℕ → Option C) {u k w : ℕ} {d : C} → Joins W.legs k u w → rest w ≡ Some d → K.size (toll W k) + K.size d ≤ limit
      → Within K (over W less rest u k) (plus K (toll W k) d)
  unfolding over
  over_within rest {u} {k} {w} {d} j e fits =
      let free : (leg_at W.legs k).«open» ≡ true = elim (cases_Bool (leg_at W.legs k).«open») [ inl t ↦ t | inr t ↦ absurd (rw t at j.free) ] in
      rw free (elim j.ends [
        | inl f ↦ lesser_left _ _ (rw (eq-eqb (leg_at W.legs k).from u f.0, f.1) (onto_given rest k w e fits))
        | inr f ↦ lesser_right _ _ (rw (eq-eqb (leg_at W.legs k).to u f.1, f.0) (onto_given rest k w e fits))
      ])

  offers_found : (rest : ℕ → Option C) (u m : ℕ) {c : C} → m ≤ length W.legs → offers W less rest u m ≡ Some c → (rest u ≡ Some c) ⊎ ((k : ℕ) × Onward rest u k c)
  unfolding offers
  offers_found rest u zero le e = inl e
  offers_found rest u (suc m) le e = elim (lesser_found _ _ e) [
    | inl f ↦ offers_found rest u m (omega arith) f
    | inr f ↦ inr (m, over_found rest u m (omega arith) f)
  ]

  offers_keep : (rest : ℕ → Option C) (u m : ℕ) {r : C} → Within K (rest u) r → Within K (offers W less rest u m) r
  unfolding offers
  offers_keep rest u zero w = w
  offers_keep rest u (suc m) w = lesser_left _ _ (offers_keep rest u m w)

  offers_within : (rest : ℕ → Option C) (m : ℕ) {u k w : ℕ} {d : C} → k < m → Joins W.legs k u w → rest w ≡ Some d → K.size (toll W k) + K.size d ≤ limit
      → Within K (offers W less rest u m) (plus K (toll W k) d)
  unfolding offers
  offers_within rest zero lt j e fits = absurd (omega arith)
  offers_within rest (suc m) {u} {k} {w} {d} lt j e fits = elim (ℕ_discrete k m) [
    | yes same ↦ lesser_right _ _ (rw (← same) (over_within rest j e fits))
    | no other ↦ lesser_left _ _ (offers_within rest m (omega arith) j e fits)
  ]

  module _ (v : ℕ) where
    rounds_found : (h u : ℕ) {c : C} → rounds W less v h u ≡ Some c → Reach W h u v c
    unfolding rounds
    rounds_found zero u e = elim (cases_Bool (eqb u v)) [
      | inl t ↦ rw (eqb-true u v t) (record { ks = []; ms = _; walk = stay; few = omega arith; costs = some_injective refl (rw t at e) })
      | inr t ↦ some_none (rw t at e) refl
    ]
    rounds_found (suc h) u e = elim (offers_found (rounds W less v h) u (length W.legs) (omega arith) e) [
      | inl f ↦ (let r = rounds_found h u f in record { ks = r.ks; ms = r.ms; walk = r.walk; few = omega (arith, r.few); costs = r.costs })
      | inr (k, o) ↦ (let r = rounds_found h o.w o.at in
          record {
            ks = k ∷ r.ks;
            ms = u ∷ r.ms;
            walk = along o.joins r.walk;
            few = omega (arith, r.few);
            costs = ap (plus K (toll W k)) r.costs ∙ sums.plus_is L (toll W k) o.d _ o.adds;
          })
    ]

    reach_size : (h w : ℕ) (c : C) → Reach W h w v c → h ≤ 256 → K.size c ≤ 2 ^ 44
    reach_size h w c r le = let e = ap K.size r.costs in omega (arith, bills.size_bill S r.ks (omega (arith, r.few)), r.few)

    rounds_within : (h : ℕ) {u : ℕ} {ks ms : List ℕ} → h ≤ 256 → Walk W.legs u v ks ms → length ks ≤ h → Within K (rounds W less v h u) (bill W ks)
    unfolding rounds
    rounds_within zero le stay few = record { value = K.zero; is = rw (eq-eqb v v refl); upto = sums.at_most_refl L K.zero }
    rounds_within zero le (along j p) few = absurd (omega arith)
    rounds_within (suc h) le (stay {v = v}) few = offers_keep (rounds W less v h) v (length W.legs) (rounds_within h (omega arith) stay (omega arith))
    rounds_within (suc h) le (along {k = k} {u = u} {w = w} {ks = ks} j p) few =
        let r = rounds_within h (omega arith) p (omega arith) in
        let small_r = reach_size h w r.value (rounds_found h w r.is) (omega arith) in
        let small_p = bills.size_bill S ks (omega arith) in
        within_more
        (offers_within (rounds W less v h) (length W.legs) j.stands j r.is (omega (arith, bills.toll_small S)))
        (sums.plus_mono_left L r.value (bill W ks) (toll W k) (omega (arith, bills.toll_small S)) (omega (arith, bills.toll_small S)) r.upto)

    -- as many rounds as there are marks
    pub rounds_tell : (u : ℕ) → Tells W u v (rounds W less v n u)
    rounds_tell u = cuts.tells_from S
        (λ c e. let r = rounds_found n u e in
        cuts.walk_is_dist S r.walk (omega (arith, r.few, S.few)) r.costs
        (λ js ns x. let w = rounds_within n S.few x.walk (omega (arith, bills.way_few S)) in rw (some_injective w.is e) at w.upto))
        (λ e ks ms x. some_none (rounds_within n S.few x.walk (omega (arith, bills.way_few S))).is e)

-- Every lawful kind of cost has such a comparison

module _ {C : Type 0} {K : Kind C} (L : Lawful K) where
  pub less_of : C → C → Bool
  less_of a b = elim (L.total a b) [ inl l ↦ true | inr r ↦ false ]

  pub less_sharp : (a b : C) → Decides (less_of a b) (K.Below a b)
  unfolding less_of
  less_sharp a b = elim (L.total a b) as (λ t. Decides (elim t [ inl l ↦ true | inr r ↦ false ]) (K.Below a b)) [
    | inl l ↦ (λ e. l, λ h. refl)
    | inr r ↦ (λ e. let z : ◌≡◌ {A = ℕ} 0 1 = cc in absurd (omega arith), λ h. absurd (elim r [ inl e ↦ sums.at_most_eq L (sym e) h | inr l ↦ sums.at_most_below L l h ]))
  ]

module _ {C : Type 0} {K : Kind C} {W : Water K} {n : ℕ} (S : Sound W n) where
  pub apart_or_dist : (v u : ℕ) → Apart W u v ⊎ ((c : C) × Dist W u v c)
  apart_or_dist v u = go (rounds W (less_of S.lawful) v n u) refl
    where
      t : Tells W u v (rounds W (less_of S.lawful) v n u)
      t = rounds_tell S (less_of S.lawful) (less_sharp S.lawful) v u

      go : (o : Option C) → rounds W (less_of S.lawful) v n u ≡ o → Apart W u v ⊎ ((c : C) × Dist W u v c)
      go None e = inl (t.none.0 e)
      go (Some c) e = inr (c, (t.some c).0 e)
