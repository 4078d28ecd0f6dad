-- What holds between two draws, and what the steps of an iteration do.
use Rattle.std.proofs.Common.{◌≡◌, ℕ, Bool, true, false, ◌⊎◌, Some, Option, sym, ap, ◌∙◌}
use Rattle.std.proofs.lemmas.Bool.{false_from_ne_true}
use Rattle.measure.specs.Kind.{Kind, AtMost}
use Rattle.measure.proofs.Sums.{some_injective, at_most_eq, plus}
use Rattle.waterway.specs.Labels.{Within, Lower}
use Rattle.bundling.proofs.Graph.{Hosts, Ball, Above}
use Rattle.bundling.proofs.Queue.{true_false}
use Rattle.bundling.proofs.Nearby.{same_away, away_self, Away}

module _ {C : Type 0} {K : Kind C} {dist : ℕ → ℕ → Option C} {Edge : ℕ → ℕ → C → Type 0} {pivot : ℕ → Bool} {host : ℕ → ℕ} {s : ℕ}
    (hosts : Hosts K dist Edge pivot host s) where
  open K use {zero, sum, Below}
  open hosts use {ways}
  open ways use {lawful as L}

  infixl 65 ◌⊕◌
  infix 50 ◌≼◌
  abbrev ◌⊕◌ : C → C → C
  ◌⊕◌ = plus K

  abbrev ◌≼◌ : C → C → Type 0
  ◌≼◌ = AtMost K

  abbrev pub InBall : ℕ → ℕ → Type 0
  InBall = Ball K dist pivot host

  -- A mark nearer than the host is in the ball: to a pivot nothing is nearer than itself.
  pub in_ball : {v z : ℕ} {b h : C} → Away ways v z b → Away ways v (host v) h → Below b h → InBall v z
  in_ball {v} {z} {b} {h} p q l =
      record { outer = outer; cost = b; is = p.is; rim = h; rim_is = q.is; inside = l }
    where
      outer : pivot v ≡ false
      outer = false_from_ne_true (pivot v) (λ e. L.least b (rw (same_away ways (rw (hosts.own v e) at q) (away_self ways v)) at l))

  -- What holds between two draws. A mark is settled when its host is drawn.
  pub record Ready (label : ℕ → Option C) (drawn : ℕ → Bool) : Type 0 where
    pub above : Above K dist s label
    -- the label of a settled mark is exact
    pub exact : (x : ℕ) → drawn (host x) ≡ true → label x ≡ dist s x
    -- a settled mark has offered to its neighbours, and to the marks in their balls
    pub legs : (x y : ℕ) (a c : C) → drawn (host x) ≡ true → dist s x ≡ Some a → Edge x y c → Within K (label y) (a ⊕ c)
    pub balls : (x y z : ℕ) (a c e : C) → drawn (host x) ≡ true → dist s x ≡ Some a → Edge x y c → InBall y z → dist y z ≡ Some e
        → Within K (label z) (a ⊕ c ⊕ e)
    -- a mark with a label has offered to its host
    pub to_host : (v : ℕ) (c h r : C) → pivot v ≡ false → label v ≡ Some c → dist v (host v) ≡ Some h → sum c h ≡ Some r
        → Within K (label (host v)) r
    -- until the source is drawn, it alone has a label
    pub start : label s ≡ Some zero
    pub only : drawn s ≡ false → (v : ℕ) (c : C) → label v ≡ Some c → v ≡ s
    -- only pivots with a way are drawn
    pub drawn_pivot : (p : ℕ) → drawn p ≡ true → pivot p ≡ true
    pub drawn_way : (p : ℕ) → drawn p ≡ true → (d : C) × (dist s p ≡ Some d)

  -- Step 3, as steps 1 and 2 run from `label` to `now`: a mark whose label has fallen has offered to its host, unless the host is u.
  abbrev pub Told : (ℕ → Option C) → (ℕ → Option C) → ℕ → Type 0
  Told label now u = (v : ℕ) (c h r : C) → pivot v ≡ false → now v ≡ Some c → dist v (host v) ≡ Some h → sum c h ≡ Some r
      → (label v ≡ Some c) ⊎ ((host v ≡ u) ⊎ (Within K (now (host v)) r))

  -- Step 1 of the iteration of u, whose key is k: what the labels after it, label', have been offered.
  -- A label is asked for an offer only where it was exact before, so that it cannot change while the step runs.
  pub record Step1 (label label' : ℕ → Option C) (u : ℕ) (k : C) : Type 0 where
    pub lower : Lower K label label'
    pub above : Above K dist s label'
    pub own : (v : ℕ) (e : C) → host v ≡ u → dist u v ≡ Some e → Within K (label' v) (k ⊕ e)
    pub ball : (v y : ℕ) (l e : C) → host v ≡ u → InBall v y → label y ≡ Some l → dist s y ≡ Some l → dist y v ≡ Some e
        → Within K (label' v) (l ⊕ e)
    pub rim : (v z w : ℕ) (l c e : C) → host v ≡ u → InBall v w → Edge z w c → label z ≡ Some l → dist s z ≡ Some l → dist w v ≡ Some e
        → Within K (label' v) (l ⊕ c ⊕ e)

  -- Steps 2 and 3, from label' to label''. The labels before the iteration are `label`.
  pub record Step23 (label label' label'' : ℕ → Option C) (u : ℕ) : Type 0 where
    pub lower : Lower K label' label''
    pub above : Above K dist s label''
    pub legs : (x y : ℕ) (a c : C) → host x ≡ u → dist s x ≡ Some a → Edge x y c → Within K (label'' y) (a ⊕ c)
    pub balls : (x y z : ℕ) (a c e : C) → host x ≡ u → dist s x ≡ Some a → Edge x y c → InBall y z → dist y z ≡ Some e
        → Within K (label'' z) (a ⊕ c ⊕ e)
    pub to_host : Told label label'' u

  -- The start: the source alone has a label, and nothing is drawn.
  module _ {label : ℕ → Option C} {drawn : ℕ → Bool} (first : label s ≡ Some zero) (alone : (v : ℕ) (c : C) → label v ≡ Some c → v ≡ s)
      (none : (p : ℕ) → drawn p ≡ false) where
    pub ready_start : Ready label drawn
    ready_start = record {
      above = λ v c e.
          let f = alone v c e in
          let z : zero ≡ c = some_injective first (ap label (sym f) ∙ e) in
          record { value = zero; is = rw f (ways.self s); upto = at_most_eq L z };
      exact = λ x b. true_false b (none (host x));
      legs = λ x y a c b. true_false b (none (host x));
      balls = λ x y z a c e b. true_false b (none (host x));
      to_host = λ v c h r out e. true_false hosts.source (rw (alone v c e) at out);
      start = first;
      only = λ b. alone;
      drawn_pivot = λ p b. true_false b (none p);
      drawn_way = λ p b. true_false b (none p);
    }
