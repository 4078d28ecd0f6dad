-- A relaxation: an offer to a mark and, where it is no pivot, from there to its host.
use Rattle.std.proofs.Common.{◌≡◌, ℕ, Bool, true, false, ◌&&◌, ◌⊎◌, List, length, Some, Option, sym, ap, ◌∙◌, inl, inr, arith}
use native.Mathlib.Decide.{ℕ_discrete}
use Rattle.std.proofs.lemmas.Bool.{cases_Bool}
use Rattle.measure.specs.Kind.{Kind, Lawful, AtMost}
use Rattle.measure.proofs.Sums.{some_injective, at_most_refl}
use Rattle.queue.specs.Held.{Held}
use Rattle.waterway.specs.declared.Label.{Label}
use Rattle.bundling.specs.declared.Host.{Host}
use Rattle.waterway.specs.Labels.{Within, Wrote, Clean, label_of}
use Rattle.bundling.specs.Marks.{pivot_in, host_in, away_in}
use Rattle.relaxing.specs.Offers.{out, Offered, Keyed, drawn_of, Kept, Comes, Steady, Matched, Relaxed}
use Rattle.bundling.proofs.Queue.{true_false}
use Rattle.waterway.proofs.Written.{lower_trans}
use Rattle.relaxing.proofs.Offering.{wrote_lower, wrote_within, wrote_change}

module _ {C : Type 0} {K : Kind C} (L : Lawful K) (pivot : ℕ → Bool) (host : ℕ → ℕ) (away : ℕ → Option C) where
  pub record Step (label label' key key' : ℕ → Option C) (y : ℕ) (r : C) : Type 0 where
    pub kept : Kept K pivot host away label label' key key'
    pub within : Within K (label' y) r
    pub change : (v : ℕ) (c : C) → label' v ≡ Some c → (label v ≡ Some c) ⊎ Comes K pivot host away y r v c

  module _ {label key : ℕ → Option C} (keyed : Keyed pivot label key) {y : ℕ} {r : C} where
    pub pivot_step : {label' key' : ℕ → Option C} → pivot y ≡ true → Offered K label label' key key' y r → Step label label' key key' y r
    pivot_step {label'} {key'} b o = record {
      kept = record {
        lower = o.lower;
        keyed = record {
          agrees = o.agrees;
          pivots = λ p k e. elim (ℕ_discrete p y) [ yes f ↦ rw f b | no f ↦ keyed.pivots p k (sym (o.keys p f) ∙ e) ];
        };
        same_drawn = λ p. ap (λ x. pivot p && x) (o.same_out p);
        passed = λ v out. elim (o.change v) [ inl e ↦ inl e | inr e ↦ true_false b (rw e.0 at out) ];
      };
      within = o.within;
      change = λ v c e. elim (o.change v) [ inl f ↦ inl (sym f ∙ e) | inr f ↦ inr (inl (f.0, some_injective e f.1)) ];
    }

    pub not_step : {label' : ℕ → Option C} → ((v : ℕ) → label' v ≡ label v) → Within K (label y) r → Step label label' key key y r
    not_step {label'} same w = record {
      kept = record {
        lower = λ v c e. record { value = c; is = same v ∙ e; upto = at_most_refl L c };
        keyed = record { agrees = λ p k e. same p ∙ keyed.agrees p k e; pivots = keyed.pivots };
        same_drawn = λ p. rw (same p);
        passed = λ v out. inl (same v);
      };
      within = rw (same y) w;
      change = λ v c e. inl (sym (same v) ∙ e);
    }

    -- y is no pivot, and its label falls to r
    module _ {label' : ℕ → Option C} (outer : pivot y ≡ false) (w : Wrote label label' y r) (less : (l : C) → label y ≡ Some l → AtMost K r l) where
      other : {p : ℕ} → pivot p ≡ true → label' p ≡ label p
      other {p} b = w.others p (λ f. true_false b (rw f outer))

      pub outer_keyed : Keyed pivot label' key
      outer_keyed = record { agrees = λ p k e. other (keyed.pivots p k e) ∙ keyed.agrees p k e; pivots = keyed.pivots }

      outer_drawn : (p : ℕ) → drawn_of pivot label' key p ≡ drawn_of pivot label key p
      outer_drawn p = elim (cases_Bool (pivot p)) [ inl b ↦ rw (other b) | inr b ↦ rw b ]

      pub outer_stop : ((h s : C) → away y ≡ Some h → K.sum r h ≡ Some s → ⊥) → Step label label' key key y r
      outer_stop none = record {
        kept = record {
          lower = wrote_lower L w less;
          keyed = outer_keyed;
          same_drawn = outer_drawn;
          passed = λ v out. elim (ℕ_discrete v y) [
            | yes f ↦ inr (λ c h s e n g. absurd (none h s (ap away (sym f) ∙ n) (rw (some_injective (ap label' (sym f) ∙ e) w.here) at g)))
            | no f ↦ inl (w.others v f)
          ];
        };
        within = wrote_within L w;
        change = λ v c e. elim (wrote_change L w v) [ inl f ↦ inl (sym f ∙ e) | inr f ↦ inr (inl (f.0, some_injective e f.1)) ];
      }

      pub outer_onward : {label'' key'' : ℕ → Option C} {h s : C} → away y ≡ Some h → K.sum r h ≡ Some s → pivot (host y) ≡ true
          → Offered K label' label'' key key'' (host y) s → Step label label'' key key'' y r
      outer_onward {label''} {key''} {h} {s} at sum is o = record {
        kept = record {
          lower = lower_trans L (wrote_lower L w less) o.lower;
          keyed = record {
            agrees = o.agrees;
            pivots = λ p k e. elim (ℕ_discrete p (host y)) [ yes f ↦ rw f is | no f ↦ keyed.pivots p k (sym (o.keys p f) ∙ e) ];
          };
          same_drawn = λ p. ap (λ x. pivot p && x) (o.same_out p) ∙ outer_drawn p;
          passed = λ v out. elim (ℕ_discrete v y) [
            | yes f ↦ inr (λ c h' s' e n g. rw f (at_y out f c h' s' e n g))
            | no f ↦ inl (same out ∙ w.others v f)
          ];
        };
        within = record { value = r; is = same outer ∙ w.here; upto = at_most_refl L r };
        change = λ v c e. elim (o.change v) [
          | inl f ↦ elim (wrote_change L w v) [ inl i ↦ inl (sym i ∙ (sym f ∙ e)) | inr i ↦ inr (inl (i.0, some_injective (sym f ∙ e) i.1)) ]
          | inr f ↦ inr (inr (f.0, (h, at, rw (some_injective e f.1) sum)))
        ];
      }
        where
          same : {v : ℕ} → pivot v ≡ false → label'' v ≡ label' v
          same {v} out = elim (o.change v) [ inl f ↦ f | inr f ↦ true_false is (rw f.0 at out) ]

          at_y : {v : ℕ} → pivot v ≡ false → v ≡ y → (c h' s' : C) → label'' v ≡ Some c → away v ≡ Some h' → K.sum c h' ≡ Some s' → Within K (label'' (host y)) s'
          at_y {v} out f c h' s' e n g =
              let c_is : c ≡ r = some_injective (sym (same out) ∙ e) (ap label' f ∙ w.here) in
              let h_is : h' ≡ h = some_injective n (ap away f ∙ at) in
              let s_is : s' ≡ s = some_injective (rw (c_is, h_is) at g) sum in
              rw s_is o.within

module _ {C : Type 0} {K : Kind C} (L : Lawful K) (hosts : List (Host C)) (a b : List (Label C)) (h h' : Held C) where
  pub step_relaxed : {y : ℕ} {r : C} → Matched K hosts a h → length b ≡ length a → Steady h h' → Clean K b
      → Step L (pivot_in K hosts) (host_in K hosts) (away_in K hosts) (label_of K a) (label_of K b) h.key h'.key y r → Relaxed K hosts a h b h' y r
  step_relaxed m long steady clean s = record {
    matched = record { long = omega (arith, m.long); span = omega (arith, m.span, steady.span); clean = clean; keyed = s.kept.keyed; hosted = λ v c e. let i = m.hosted v c e in (omega (arith, i.0), i.1) };
    keeps = s.kept;
    steady = steady;
    within = s.within;
    change = s.change;
  }
