-- Steps home from labels that are the distances.
use Rattle.std.proofs.Common.{◌≡◌, ℕ, ◌+◌, ◌<◌, ◌≤◌, MatchOption, List, [], ◌∷◌, ◌++◌, length, Some, None, Option, Ordering, Less, Equal, Greater, is_eq, refl, inl, inr, arith, length-append}
use native.Mathlib.Decide.{dec_lt}
use Rattle.std.specs.Ordering.{MatchOrdering}
use Rattle.measure.specs.Kind.{Kind, Lawful}
use Rattle.waterway.specs.Ways.{Water, Dist, Tells, Sound, Dear}
use Rattle.waterway.specs.Routes.{Nearer, Route, at_home, onward as on}
use Rattle.waterway.proofs.Steps as steps_are
use Rattle.waterway.proofs.Routes as routes
use Rattle.waterway.proofs.Bills as bills
use Rattle.waterway.proofs.Rounds as rounds
use Rattle.waterway.proofs.Walks.{marks_length}
use Rattle.waterway.proofs.Pigeons.{pigeons}
use Rattle.waterway.specs.declared.Label.{Label}
use Rattle.homeward.specs.declared.Step.{Step}
use Rattle.waterway.specs.Labels.{label_of}
use Rattle.homeward.specs.Steps.{Back, LeadsBack, Leads, ends, onward, StepIs, StepsAre, step_at}
use Rattle.std.specs.Bool.{then_some}

module _ {C : Type 0} {K : Kind C} {W : Water K} {home : ℕ} (labels : List (Label C)) (tells : (v : ℕ) → Tells W home v (label_of K labels v)) where
  pub back_nearer : {v k w : ℕ} → Back W labels v k w → Nearer W home v k w
  back_nearer {v} {k} {w} b = record {
    joins = b.joins;
    near = b.near;
    far = b.far;
    to_w = ((tells w).some b.near).0 b.to_w;
    to_v = ((tells v).some b.far).0 b.to_v;
    adds = b.adds;
  }

  pub nearer_back : {v k w : ℕ} → Nearer W home v k w → Back W labels v k w
  nearer_back {v} {k} {w} b = record {
    joins = b.joins;
    near = b.near;
    far = b.far;
    to_w = ((tells w).some b.near).1 b.to_w;
    to_v = ((tells v).some b.far).1 b.to_v;
    adds = b.adds;
  }

  -- the first step back is the step home
  pub first_back : {n : ℕ} (S : Sound W n) (v : ℕ) → (v ≡ home → ⊥) → (r : Option Step)
      → MatchOption r ((k : ℕ) → k < length W.legs → LeadsBack W labels v k None) (λ s. (k : ℕ) × (k < length W.legs) × LeadsBack W labels v k (Some s) × ((j : ℕ) → j < k → LeadsBack W labels v j None))
      → StepIs W home v r
  first_back S v ne None none = inr (elim (rounds.apart_or_dist S v home) [
    | inl apart ↦ apart
    | inr d ↦ (let s = steps_are.step_exists S home v d.0 d.1 ne in
        absurd (none s.0 s.2.nearer.joins.stands s.1 (nearer_back s.2.nearer)))
  ])
  first_back S v ne (Some s) (k, lt, (is, back), none) = record {
    away = ne;
    nearer = rw is (back_nearer back);
    lowest = λ j x n. elim (dec_lt j s.leg) [ yes l ↦ absurd (none j (omega (arith, is)) x (nearer_back n)) | no ge ↦ omega arith ];
  }

-- the step over a leg is there just where the sum makes up the label
pub step_if : {C : Type 0} {K : Kind C} {W : Water K} {labels : List (Label C)} {v k w : ℕ} (L : Lawful K) (o : Ordering) {sum far : C}
    → MatchOrdering o (K.Below sum far) (sum ≡ far) (K.Below far sum)
    → (sum ≡ far → Back W labels v k w) → ((sum ≡ far → ⊥) → (x : ℕ) → Back W labels v k x → ⊥)
    → LeadsBack W labels v k (then_some (is_eq o) (record { leg = k; next = w }))
step_if L Less r back none = none (λ e. L.irrefl _ (rw e at r))
step_if L Equal r back none = (refl, back r)
step_if L Greater r back none = none (λ e. L.irrefl _ (rw e at r))

module _ {C : Type 0} {K : Kind C} {W : Water K} {home : ℕ} where
  pub route_home : {v : ℕ} {ks : List ℕ} → Route W home v ks → v ≡ home → ks ≡ []
  route_home at_home e = refl
  route_home (on s r) e = absurd (s.away e)

  pub room_left : {v at : ℕ} {ks : List ℕ} → (v ≡ home → ⊥) → Route W home v ks → length ks ≤ at → 1 ≤ at
  room_left away at_home short = absurd (away refl)
  room_left away (on {k = k} {ks = ks} s r) short = omega (arith, length-append ks (k ∷ []))

module _ {C : Type 0} {K : Kind C} {W : Water K} {n : ℕ} (S : Sound W n) (dear : Dear W) (home : ℕ) where
  pub route_short : {v : ℕ} {ks : List ℕ} → home < n → Route W home v ks → length ks + 1 ≤ n
  route_short lt r =
      let w = routes.route_way S home dear r in
      omega (arith, pigeons n w.0 w.1.simple (bills.marks_in S w.1.walk lt), marks_length w.1.walk)

module _ {C : Type 0} {K : Kind C} {W : Water K} (home : ℕ) (steps : List (Option Step)) (S : Sound W (length steps)) (are : StepsAre W home steps (length steps)) (inside : home < length steps) where
  -- a step that stands is the step home
  step_of : (v : ℕ) → v < length steps → (o : Option Step) → step_at steps v ≡ o → StepIs W home v o
  step_of v lt o is = rw (← is) (are.each v lt)

  -- the steps lead over the route
  pub leads_route : {v : ℕ} {ks : List ℕ} → Route W home v ks → Leads steps v ks
  leads_route at_home = at_end (step_at steps home) refl
    where
      at_end : (o : Option Step) → step_at steps home ≡ o → Leads steps home []
      at_end None is = ends inside is
      at_end (Some s) is = absurd ((step_of home inside (Some s) is).away refl)
  leads_route (on {v = v} {k = k} {w = w} {ks = ks} step r) = at_step (leads_route r) (step_at steps v) refl
    where
      lt : v < length steps
      lt = (bills.joins_in S step.nearer.joins).0

      at_step : Leads steps w ks → (o : Option Step) → step_at steps v ≡ o → Leads steps v (ks ++ k ∷ [])
      at_step l None is = elim (step_of v lt None is) [
        | inl same ↦ absurd (step.away same)
        | inr apart ↦ (let D = step.nearer.to_v in absurd (apart D.ks D.ms D.way))
      ]
      at_step l (Some s) is =
          let same = steps_are.step_unique S home step (step_of v lt (Some s) is) in
          rw same.0 (onward lt is (rw same.1 at l))

  -- where the steps lead, they lead over the route
  pub route_leads : {v : ℕ} {ks : List ℕ} → Leads steps v ks → (c : C) × Dist W home v c → Route W home v ks
  route_leads (ends {v = v} lt is) way = elim (step_of v lt None is) [
    | inl same ↦ rw same at_home
    | inr apart ↦ (let D = way.1 in absurd (apart D.ks D.ms D.way))
  ]
  route_leads (onward {v = v} {s = s} lt is l) way =
      let step = step_of v lt (Some s) is in
      on step (route_leads l (step.nearer.near, step.nearer.to_w))

-- what leads from a mark that has a step
pub leads_on : {steps : List (Option Step)} {v : ℕ} {ks : List ℕ} (s : Step) → Leads steps v ks → step_at steps v ≡ Some s → (js : List ℕ) × Leads steps s.next js × (length ks ≡ length js + 1)
leads_on s (ends lt is) here = absurd (cc)
leads_on s (onward {s = x} {ks = js} lt is l) here = let same : x ≡ s = cc in (js, rw same at l, length-append js (x.leg ∷ []))

pub leads_in : {steps : List (Option Step)} {v : ℕ} {ks : List ℕ} → Leads steps v ks → v < length steps
leads_in (ends lt is) = lt
leads_in (onward lt is l) = lt
