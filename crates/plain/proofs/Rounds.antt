-- Rounds over all legs bring the labels down to the distances.
use Rattle.std.proofs.Common.{◌≡◌, ℕ, ◌+◌, ◌<◌, ◌≤◌, true, false, List, [], ◌∷◌, length, Some, None, Option, refl, ◌∙◌, inl, inr, arith}
use native.Mathlib.Decide.{ℕ_discrete}
use Rattle.std.proofs.lemmas.Bool.{cases_Bool}
use Rattle.measure.specs.Kind.{Kind}
use Rattle.measure.proofs.Sums as sums
use Rattle.measure.proofs.Sums.{plus, some_none, some_injective}
use Rattle.waterway.specs.Legs.{leg_at}
use Rattle.waterway.specs.Ways.{Joins, Walk, stay, along, Water, toll, Dist, Apart, Tells, Sound}
use Rattle.waterway.specs.Labels.{Within, Lower}
use Rattle.waterway.proofs.Bills as bills
use Rattle.waterway.proofs.Bills.{bill}
use Rattle.waterway.proofs.Cuts as cuts
use Rattle.waterway.proofs.Metric as metric
use Rattle.waterway.proofs.Written.{within_lower, lower_trans}
use Rattle.plain.specs.Relaxing.{Lowered, Relaxed, LegRelaxed, Trail, at_home, Sure, Round}
use Rattle.plain.proofs.Trails as trails

-- each walk home of fewer than h legs costs no less than the label where it begins
abbrev pub Reached : {C : Type 0} {K : Kind C} → Water K → ℕ → ℕ → (ℕ → Option C) → Type 0
Reached {C} {K} W home h label = (u : ℕ) (ks ms : List ℕ) → Walk W.legs u home ks ms → length ks < h → Within K (label u) (bill W ks)

module _ {C : Type 0} {K : Kind C} {W : Water K} {n home : ℕ} (S : Sound W n) where
  open S use {lawful as L}

  -- One round, leg by leg

  pub round_more : {m : ℕ} {label now label' : ℕ → Option C} → m < length W.legs → Round W m home label now → LegRelaxed K now label' (leg_at W.legs m) (toll W m)
      → Round W (m + 1) home label label'
  round_more {m} {label} {now} {label'} stands p r = elim (cases_Bool (leg_at W.legs m).«open») [ inl e ↦ go_open e (r.both e) | inr e ↦ go_closed e ]
    where
      go_closed : (leg_at W.legs m).«open» ≡ false → Round W (m + 1) home label label'
      go_closed shut =
          let same = r.closed shut in
          let e : label' ≡ now = λ i v. same v i in
          rw e (record {
            sure = p.sure;
            lower = p.lower;
            offered = λ k u w c d lt j. elim (ℕ_discrete k m) [ yes q ↦ absurd (rw (q, shut) at j.free) | no q ↦ p.offered k u w c d (omega arith) j ];
          })

      go_open : (leg_at W.legs m).«open» ≡ true
          → (halfway : ℕ → Option C) × Relaxed K now halfway (leg_at W.legs m).from (leg_at W.legs m).to (toll W m)
          × Relaxed K halfway label' (leg_at W.legs m).to (leg_at W.legs m).from (toll W m) → Round W (m + 1) home label label'
      go_open free (halfway, out, back) = record { sure = trails.relaxed_sure S half_sure j_back back; lower = lower_trans L p.lower (lower_trans L half_lower end_lower); offered = offered }
        where
          j_out : Joins W.legs m (leg_at W.legs m).to (leg_at W.legs m).from
          j_out = record { stands = stands; free = rw free tt; ends = inr (refl, refl) }

          j_back : Joins W.legs m (leg_at W.legs m).from (leg_at W.legs m).to
          j_back = record { stands = stands; free = rw free tt; ends = inl (refl, refl) }

          half_sure : Sure W home halfway
          half_sure = trails.relaxed_sure S p.sure j_out out

          half_lower : Lower K now halfway
          half_lower = trails.relaxed_lower S p.sure j_out out

          end_lower : Lower K halfway label'
          end_lower = trails.relaxed_lower S half_sure j_back back

          offered : (k u w : ℕ) (c d : C) → k < m + 1 → Joins W.legs k u w → label w ≡ Some d → K.sum (toll W k) d ≡ Some c → Within K (label' u) c
          offered k u w c d lt j e adds = elim (ℕ_discrete k m) [
            | no q ↦ within_lower L (lower_trans L half_lower end_lower) (p.offered k u w c d (omega arith) j e adds)
            | yes q ↦ elim (rw q at j.ends) [
              | inl f ↦ rw (← f.0) (trails.relaxed_offered S half_sure j_back back (rw f.1 (lower_trans L p.lower half_lower w d e)) (rw q at adds))
              | inr f ↦ rw (← f.1) (within_lower L end_lower (trails.relaxed_offered S p.sure j_out out (rw f.0 (p.lower w d e)) (rw q at adds)))
            ]
          ]

  -- All rounds

  pub sure_start : {label label' : ℕ → Option C} → ((v : ℕ) → label v ≡ None) → Lowered K label label' home K.zero → Sure W home label'
  sure_start none (inl (same, w)) = some_none w.is (none home)
  sure_start {label} {label'} none (inr (wrote, above)) = record { zero_home = wrote.here; real = real }
    where
      real : (u : ℕ) (c : C) → label' u ≡ Some c → (ms : List ℕ) × Trail W home label' u ms c
      real u c e = elim (ℕ_discrete u home) [
        | yes q ↦ rw (q, ← some_injective wrote.here (rw q at e)) (home ∷ [], at_home)
        | no q ↦ some_none e (wrote.others u q ∙ none u)
      ]

  pub reached_start : {label : ℕ → Option C} → Sure W home label → Reached W home 1 label
  reached_start s u ks ms stay lt = record { value = K.zero; is = s.zero_home; upto = sums.at_most_refl L K.zero }
  reached_start s u ks ms (along j p) lt = absurd (omega arith)

  pub reached_more : {h : ℕ} {label label' : ℕ → Option C} → h ≤ 256 → Sure W home label → Reached W home h label → Round W (length W.legs) home label label'
      → Reached W home (h + 1) label'
  reached_more few s reached r u ks ms stay lt = record { value = K.zero; is = r.sure.zero_home; upto = sums.at_most_refl L K.zero }
  reached_more few s reached r u ks ms (along {k = k} {w = w} {ks = js} {ms = ns} j p) lt =
      let x = reached w js ns p (omega arith) in
      let small = trails.sure_size S s w x.value x.is in
      let long = bills.size_bill S js (omega arith) in
      let y = r.offered k u w (plus K (toll W k) x.value) x.value j.stands j x.is (sums.sum_plus L (toll W k) x.value (omega (arith, bills.toll_small S))) in
      let most = sums.plus_mono_left L x.value (bill W js) (toll W k) (omega (arith, bills.toll_small S)) (omega (arith, bills.toll_small S)) x.upto in
      record { value = y.value; is = y.is; upto = sums.at_most_trans L y.upto most }

  pub all_told : {label : ℕ → Option C} → Sure W home label → Reached W home n label → (v : ℕ) → v < n → Tells W home v (label v)
  all_told {label} s reached v lt = cuts.tells_from S (λ c e. metric.dist_turned S (found c e)) (λ e. metric.apart_turned S (lost e))
    where
      found : (c : C) → label v ≡ Some c → Dist W v home c
      found c e =
          let t = s.real v c e in
          let w = trails.trail_way S t.1 in
          cuts.walk_is_dist S w.1.walk (omega (arith, bills.way_short S v home w.0 t.0 w.1)) w.2
          (λ js ns x. let y = reached v js ns x.walk (bills.way_fewer S x lt) in rw (some_injective y.is e) at y.upto)

      lost : label v ≡ None → Apart W v home
      lost e js ns x = some_none (reached v js ns x.walk (bills.way_fewer S x lt)).is e
