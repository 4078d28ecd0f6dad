-- Runs of relaxations on a waterway.
use Rattle.std.proofs.Common.{◌≡◌, ℕ, Bool, List, Some, None, Option, sym, refl, ◌∙◌, inl, inr, arith}
use Rattle.measure.specs.Kind.{Kind, Lawful}
use Rattle.measure.proofs.Sums.{some_none, some_injective}
use Rattle.queue.specs.Held.{Held}
use Rattle.waterway.specs.Ways.{Water, Dist, Joins, toll, Sound}
use Rattle.waterway.proofs.Distance.{dist, dist_found, dist_is}
use Rattle.waterway.specs.declared.Label.{Label}
use Rattle.bundling.specs.declared.Host.{Host}
use Rattle.waterway.specs.Labels.{Within, label_of}
use Rattle.bundling.specs.Marks.{pivot_in, host_in, away_in}
use Rattle.relaxing.specs.Offers.{Keyed, Kept, Steady, Matched, Tried, Relaxed, Comes}
use Rattle.relaxing.specs.Search.{Reach, Sure, Housed, Ran}
use Rattle.bundling.proofs.Graph.{Above}
use Rattle.bundling.proofs.Nearby.{away, away_nearby, leg_nearby}
use Rattle.bundling.proofs.Labels.{offer, stays}
use Rattle.waterway.proofs.Written.{within_lower, lower_refl}
use Rattle.bundling.proofs.Water.{Edge, ways}

pub steady_trans : {C : Type 0} {h i j : Held C} → Steady h i → Steady i j → Steady h j
steady_trans p q = record { span = q.span ∙ p.span; draws = q.draws ∙ p.draws }

module _ {C : Type 0} {K : Kind C} (L : Lawful K) where
  pub kept_trans : {pivot : ℕ → Bool} {host : ℕ → ℕ} {away : ℕ → Option C} {a b c i j k : ℕ → Option C}
      → Kept K pivot host away a b i j → Kept K pivot host away b c j k → Kept K pivot host away a c i k
  kept_trans p q = record {
    lower = λ v l e. within_lower L q.lower (p.lower v l e);
    keyed = q.keyed;
    same_drawn = λ v. q.same_drawn v ∙ p.same_drawn v;
    passed = λ v out. elim (q.passed v out) [
      | inl e ↦ elim (p.passed v out) [
        | inl f ↦ inl (e ∙ f)
        | inr f ↦ inr (λ c h r g n s. within_lower L q.lower (f c h r (sym e ∙ g) n s))
      ]
      | inr f ↦ inr f
    ];
  }

  kept_refl : {pivot : ℕ → Bool} {host : ℕ → ℕ} {away : ℕ → Option C} {label key : ℕ → Option C} → Keyed pivot label key → Kept K pivot host away label label key key
  kept_refl {label = label} keyed = record { lower = lower_refl L label; keyed = keyed; same_drawn = λ p. refl; passed = λ v out. inl refl }

  module _ {W : Water K} {hosts : List (Host C)} where
    pub ran_refl : (a : List (Label C)) (h : Held C) → Matched K hosts a h → Ran W hosts a h a h
    ran_refl a h m = record { matched = m; keeps = kept_refl m.keyed; steady = record { span = refl; draws = refl }; sure = λ s f. f }

    pub ran_trans : {a b c : List (Label C)} {i j k : Held C} → Ran W hosts a i b j → Ran W hosts b j c k → Ran W hosts a i c k
    ran_trans p q = record { matched = q.matched; keeps = kept_trans p.keeps q.keeps; steady = steady_trans p.steady q.steady; sure = λ s f. q.sure s (p.sure s f) }

    pub within_ran : {a b : List (Label C)} {i j : Held C} (v : ℕ) {r : C} → Ran W hosts a i b j → Within K (label_of K a v) r → Within K (label_of K b v) r
    within_ran v p = within_lower L p.keeps.lower

module _ {C : Type 0} {K : Kind C} {W : Water K} {n : ℕ} (S : Sound W n) where
  pub reach_within : {s v : ℕ} {c : C} → Reach W s v c → Within K (dist S s v) c
  reach_within r = record { value = r.dist; is = dist_is S r.is; upto = r.upto }

  pub sure_above : {s : ℕ} {label : ℕ → Option C} → ((v : ℕ) (c : C) → label v ≡ Some c → Reach W s v c) → Above K (dist S) s label
  sure_above sure v c e = reach_within (sure v c e)

  pub within_reach : {s v : ℕ} {c : C} → Within K (dist S s v) c → Reach W s v c
  within_reach r = record { dist = r.value; is = dist_found S r.is; upto = r.upto }

  pub reach_on : {s x y : ℕ} {a d r : C} → Reach W s x a → Dist W x y d → K.sum a d ≡ Some r → Reach W s y r
  reach_on p D e =
      let q = away (ways S) (dist_is S D) in
      within_reach (offer (ways S) (reach_within p) (away_nearby (ways S) q) (omega arith) e)

  pub reach_leg : {s x y k : ℕ} {a r : C} → Reach W s x a → Joins W.legs k x y → K.sum a (toll W k) ≡ Some r → Reach W s y r
  reach_leg {s} {x} {y} {k} p j e =
      let l : Edge W x y (toll W k) = record { leg = k; joins = j; costs = refl } in
      within_reach (offer (ways S) (reach_within p) (leg_nearby (ways S) l) (omega (arith, (ways S).short_leg x y (toll W k) l)) e)

  module _ {hosts : List (Host C)} (housed : Housed W n hosts) where
    pub comes_reach : {s y v : ℕ} {r c : C} → Reach W s y r → Comes K (pivot_in K hosts) (host_in K hosts) (away_in K hosts) y r v c → Reach W s v c
    comes_reach p (inl f) = rw (f.0, f.1) p
    comes_reach {y = y} p (inr f) = rw f.0 (reach_on p (housed.some y f.1.0 f.1.1).dist f.1.2)

    pub tried_ran : {a b : List (Label C)} {i j : Held C} {y : ℕ} {o : Option C} → Tried K hosts a i b j y o
        → ((s : ℕ) (r : C) → Sure W s a → o ≡ Some r → Reach W s y r) → Ran W hosts a i b j
    tried_ran {a} {b} {i} {j} {y} t valid = record {
      matched = t.matched;
      keeps = t.keeps;
      steady = t.steady;
      sure = λ s sure v c e. elim (t.change v c e) [
        | inl f ↦ sure v c f
        | inr f ↦ comes_reach (valid s f.0 sure f.1) f.2
      ];
    }

  -- an exact label stays
  pub still : {hosts : List (Host C)} {a b : List (Label C)} {i j : Held C} {s z : ℕ} {l : C} → Ran W hosts a i b j → Sure W s a
      → label_of K a z ≡ Some l → Dist W s z l → label_of K b z ≡ Some l
  still {a = a} {b = b} {s = s} {z = z} p sure e D =
      stays (ways S) p.keeps.lower (sure_above (p.sure s sure)) z (e ∙ sym (dist_is S D)) ∙ dist_is S D

module _ {C : Type 0} {K : Kind C} (L : Lawful K) {hosts : List (Host C)} {a b : List (Label C)} {i j : Held C} {y : ℕ} {o : Option C} where
  pub relaxed_tried : {c : C} → o ≡ Some c → Relaxed K hosts a i b j y c → Tried K hosts a i b j y o
  relaxed_tried {c} is x = record {
    matched = x.matched;
    keeps = x.keeps;
    steady = x.steady;
    within = λ r e. rw (some_injective e is) x.within;
    change = λ v d e. elim (x.change v d e) [ inl f ↦ inl f | inr f ↦ inr (c, is, f) ];
  }

module _ {C : Type 0} {K : Kind C} (L : Lawful K) {hosts : List (Host C)} {a : List (Label C)} {i : Held C} {y : ℕ} {o : Option C} where
  pub untried : o ≡ None → Matched K hosts a i → Tried K hosts a i a i y o
  untried none m = record {
    matched = m;
    keeps = kept_refl L m.keyed;
    steady = record { span = refl; draws = refl };
    within = λ r e. some_none e none;
    change = λ v c e. inl e;
  }
