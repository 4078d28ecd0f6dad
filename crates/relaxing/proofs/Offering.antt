-- An offer to a mark that the queue may hold.
use Rattle.std.proofs.Common.{◌≡◌, ℕ, ◌<◌, true, false, not, ◌&&◌, ◌⊎◌, is_some, Some, None, Ok, Err, Option, Result, sym, refl, ap, ◌∙◌, inl, inr}
use native.Mathlib.Decide.{ℕ_discrete}
use Rattle.std.proofs.lemmas.Bool.{cases_Bool, and_left, and_right}
use Rattle.measure.specs.Kind.{Kind, Lawful, AtMost}
use Rattle.measure.proofs.Sums.{some_none, some_injective, at_most_refl, at_most_below}
use Rattle.queue.specs.declared.refusal.Refusal.{Refusal}
use Rattle.queue.specs.Held.{Held, Alike, with_key}
use Rattle.queue.specs.Calls.{PutAnswer, LowerAnswer, after_setting}
use Rattle.queue.proofs.Alikes.{key_set, key_kept}
use Rattle.queue.proofs.Answering.{key_if_held, put_is_accepted, lower_is_accepted, lower_is_not_held}
use Rattle.bundling.proofs.Queue.{true_false}
use Rattle.relaxing.specs.declared.offers.Fall.{Fall}
use Rattle.relaxing.specs.declared.offers.Fall.TheVariants.{Not, First, Again}
use Rattle.waterway.specs.Labels.{Within, Lower, Wrote}
use Rattle.relaxing.specs.Offers.{Fallen, Agrees, out, Offered, Steady}

-- what is set leaves the span and the count of draws
pub setting_steady : {C : Type 0} (h h' : Held C) (m : ℕ) (k : C) (a : Result Unit Refusal) → Alike h' (after_setting h m k a) → Steady h h'
setting_steady h h' m k (Ok _) same = record { span = same.span; draws = same.draws }
setting_steady h h' m k (Err _) same = record { span = same.span; draws = same.draws }

pub keyed_in : {C : Type 0} (o q : Option C) {k : C} → q ≡ Some k → (is_some o && not (is_some q)) ≡ false
keyed_in o q e = and_right (is_some o) (not (is_some q)) (ap (λ x. not (is_some x)) e)

full_out : {C : Type 0} (o q : Option C) → (o ≡ None → ⊥) → q ≡ None → (is_some o && not (is_some q)) ≡ true
full_out None q n e = absurd (n refl)
full_out (Some c) None n e = refl
full_out (Some c) (Some j) n e = some_none refl e

no_key : {C : Type 0} (o : Option C) → ((k : C) → o ≡ Some k → ⊥) → o ≡ None
no_key None f = refl
no_key (Some k) f = absurd (f k refl)

module _ {C : Type 0} {K : Kind C} (L : Lawful K) {label label' : ℕ → Option C} {y : ℕ} {r : C} where
  pub wrote_lower : Wrote label label' y r → ((l : C) → label y ≡ Some l → AtMost K r l) → Lower K label label'
  wrote_lower w less v c e = elim (ℕ_discrete v y) [
    | yes f ↦ record { value = r; is = ap label' f ∙ w.here; upto = less c (ap label (sym f) ∙ e) }
    | no f ↦ record { value = c; is = w.others v f ∙ e; upto = at_most_refl L c }
  ]

  pub wrote_within : Wrote label label' y r → Within K (label' y) r
  wrote_within w = record { value = r; is = w.here; upto = at_most_refl L r }

  pub wrote_change : Wrote label label' y r → (v : ℕ) → (label' v ≡ label v) ⊎ ((v ≡ y) × (label' v ≡ Some r))
  wrote_change w v = elim (ℕ_discrete v y) [ yes f ↦ inr (f, ap label' f ∙ w.here) | no f ↦ inl (w.others v f) ]

  -- a label that has fallen was written
  pub fallen_wrote : (f : Fall) → Fallen K label label' y r f → (f ≡ Not → ⊥) → Wrote label label' y r × ((l : C) → label y ≡ Some l → AtMost K r l)
  fallen_wrote Not p n = absurd (n refl)
  fallen_wrote First p n = (p.1, λ l e. some_none e p.0)
  fallen_wrote Again p n = (p.1.1, λ l e. at_most_below L (p.0 l e))

  module _ {key key' : ℕ → Option C} (agrees : Agrees label key) where
    pub offered_not : ((v : ℕ) → label' v ≡ label v) → Within K (label y) r → ((v : ℕ) → key' v ≡ key v) → Offered K label label' key key' y r
    offered_not same w kept = record {
      lower = λ v c e. record { value = c; is = same v ∙ e; upto = at_most_refl L c };
      within = rw (same y) w;
      change = λ v. inl (same v);
      agrees = λ p k e. same p ∙ agrees p k (sym (kept p) ∙ e);
      keys = λ v ne. kept v;
      same_out = λ v. rw (same v, kept v);
    }

    offered_wrote : Wrote label label' y r → ((l : C) → label y ≡ Some l → AtMost K r l) → ((v : ℕ) → (v ≡ y → ⊥) → key' v ≡ key v)
        → ((k : C) → key' y ≡ Some k → r ≡ k) → out label' key' y ≡ out label key y → Offered K label label' key key' y r
    offered_wrote w less keys at_y out_y = record {
      lower = wrote_lower w less;
      within = wrote_within w;
      change = wrote_change w;
      agrees = λ p k e. elim (ℕ_discrete p y) [
        | yes f ↦ ap label' f ∙ (w.here ∙ ap Some (at_y k (ap key' (sym f) ∙ e)))
        | no f ↦ w.others p f ∙ agrees p k (sym (keys p f) ∙ e)
      ];
      keys = keys;
      same_out = λ v. elim (ℕ_discrete v y) [ yes f ↦ rw f out_y | no f ↦ rw (w.others v f, keys v f) ];
    }

  module _ (h h' : Held C) (agrees : Agrees label h.key) (w : Wrote label label' y r) (inside : y < h.span) where
    set_offered : Alike h' (with_key h y (Some r)) → ((l : C) → label y ≡ Some l → AtMost K r l) → out label h.key y ≡ false
        → Offered K label label' h.key h'.key y r
    set_offered same less out_y =
        let now = same.key y ∙ key_set h y y (Some r) refl in
        offered_wrote agrees w less (λ v ne. same.key v ∙ key_kept h y v (Some r) ne) (λ k e. some_injective now e) (keyed_in (label' y) (h'.key y) now ∙ sym out_y)

    pub put_offered : (a : Result Unit Refusal) → PutAnswer h y a → Alike h' (after_setting h y r a) → label y ≡ None → Offered K label label' h.key h'.key y r
    put_offered a p same none =
        let free = no_key (h.key y) (λ k e. some_none (agrees y k e) none) in
        set_offered (rw (put_is_accepted h y a inside free p) at same) (λ l e. some_none e none) (and_left (is_some (label y)) (not (is_some (h.key y))) (ap is_some none))

    pub lower_offered : (a : Result Unit Refusal) → LowerAnswer K.Below h y r a → Alike h' (after_setting h y r a) → (label y ≡ None → ⊥)
        → ((l : C) → label y ≡ Some l → K.Below r l) → Offered K label label' h.key h'.key y r
    lower_offered a p same some less = elim (cases_Bool (is_some (h.key y))) [
      | inl is ↦ set_offered (rw (lower_is_accepted K.Below h y r a inside is (λ k e. less k (agrees y k e)) p) at same) (λ l e. at_most_below L (less l e))
          (keyed_in (label y) (h.key y) (key_if_held h y is).1)
      | inr none ↦ (let out_now : Alike h' h = rw (lower_is_not_held K.Below h y r a inside (λ is. true_false is none) p) at same in
          let free = no_key (h.key y) (λ k e. true_false (ap is_some e) none) in
          offered_wrote agrees w (λ l e. at_most_below L (less l e)) (λ v ne. out_now.key v) (λ k e. some_none e (out_now.key y ∙ free))
          (full_out (label' y) (h'.key y) (λ e. some_none w.here e) (out_now.key y ∙ free) ∙ sym (full_out (label y) (h.key y) some free)))
    ]
