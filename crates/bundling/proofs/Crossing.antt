-- The first place on a cheapest way where something fails.
use Rattle.std.proofs.Common.{◌≡◌, ℕ, ◌^◌, ◌≤◌, ◌⊎◌, Some, None, Option, sym, refl, ◌∙◌, inl, inr, arith}
use Rattle.measure.specs.Kind.{Kind, AtMost}
use Rattle.measure.proofs.Sums.{some_none, below_or, plus, plus_is, size_plus, plus_assoc, zero_plus}
use Rattle.bundling.proofs.Graph.{Geo, here, step, Ways}
use Rattle.bundling.proofs.Nearby.{away, same_away, away_self, triangle_leg, pinned, Away}

module _ {C : Type 0} {K : Kind C} {dist : ℕ → ℕ → Option C} {Edge : ℕ → ℕ → C → Type 0} (ways : Ways K dist Edge) where
  open K use {zero, size, Below}
  open ways use {lawful as L}

  infixl 65 ◌⊕◌
  infix 50 ◌≼◌
  abbrev ◌⊕◌ : C → C → C
  ◌⊕◌ = plus K

  abbrev ◌≼◌ : C → C → Type 0
  ◌≼◌ = AtMost K

  -- The first place on a cheapest way from o to v where P fails: a leg from x, where P holds, to y, where Q does.
  pub record Crossing (P Q : ℕ → Type 0) (o v : ℕ) : Type 0 where
    pub x : ℕ
    pub y : ℕ
    pub a : C
    pub c : C
    pub r : C
    pub before : P x
    pub after : Q y
    pub leg : Edge x y c
    pub small : size c ≤ 2 ^ 36
    pub to_x : Away ways o x a
    pub to_y : Away ways o y (a ⊕ c)
    pub rest : Away ways y v r
    pub from_x : Away ways x v (c ⊕ r)
    pub whole : Away ways o v (a ⊕ c ⊕ r)

  module _ {P Q : ℕ → Type 0} (side : (z : ℕ) → (P z) ⊎ (Q z)) {o v : ℕ} where
    crossing_from : {x : ℕ} → Geo K dist Edge v x → (a b : C) → Away ways o x a → Away ways x v b → Away ways o v (a ⊕ b) → P x → (P v) ⊎ (Crossing P Q o v)
    crossing_from here a b p q whole h = inl h
    crossing_from {x} (step {w = w} {c = c} {r = r} {d = d} leg rest from sums g) a b p q whole h =
        elim (side w) [ inl k ↦ crossing_from g (a ⊕ c) r to_w rest' whole' k | inr k ↦ inr (crossed k) ]
      where
        small : size c ≤ 2 ^ 36
        small = ways.short_leg x w c leg

        rest' : Away ways w v r
        rest' = away ways rest

        b_is : b ≡ c ⊕ r
        b_is = same_away ways q (away ways from) ∙ sym (plus_is L c r d sums)

        whole' : Away ways o v (a ⊕ c ⊕ r)
        whole' = rw (plus_assoc L a c r (omega (arith, small, rest'.short))) (rw b_is at whole)

        to_w : Away ways o w (a ⊕ c)
        to_w = pinned ways (triangle_leg ways p leg) (omega (arith, small, size_plus L a c)) rest' whole'

        crossed : Q w → Crossing P Q o v
        crossed k = record {
          x = x;
          y = w;
          a = a;
          c = c;
          r = r;
          before = h;
          after = k;
          leg = leg;
          small = small;
          to_x = p;
          to_y = to_w;
          rest = rest';
          from_x = rw b_is at q;
          whole = whole';
        }

    pub crossing : {d : C} → Away ways o v d → P o → (P v) ⊎ (Crossing P Q o v)
    crossing {d} p h = crossing_from (ways.walk o v d p.is) zero d (away_self ways o) p (rw (zero_plus L d) p) h

  -- z is nearer to y than h, or it is not.
  module _ (y : ℕ) (h : C) where
    abbrev pub Inner : ℕ → Type 0
    Inner z = (b : C) × Away ways y z b × Below b h

    abbrev pub Outer : ℕ → Type 0
    Outer z = (b : C) → Away ways y z b → h ≼ b

    pub inner_or_outer : (z : ℕ) → (Inner z) ⊎ (Outer z)
    inner_or_outer z = go (dist y z) refl
      where
        go : (o : Option C) → dist y z ≡ o → (Inner z) ⊎ (Outer z)
        go None f = inr (λ b p. some_none p.is f)
        go (Some b) f =
            elim (below_or L b h) [
              | inl l ↦ inl (b, away ways f, l)
              | inr l ↦ inr (λ c p. rw (same_away ways p (away ways f)) l)
            ]
