-- What is drawn has its exact label.
use Rattle.std.proofs.Common.{◌≡◌, ℕ, Bool, true, false, Some, Option, sym, ap, ◌∙◌, inl, inr, arith}
use Rattle.std.proofs.lemmas.Bool.{cases_Bool}
use Rattle.measure.specs.Kind.{Kind, AtMost}
use Rattle.measure.proofs.Sums.{some_injective, at_most_trans, at_most_antisym, zero_at_most, plus, sum_plus, plus_mono_left, plus_more}
use Rattle.waterway.specs.Labels.{Within}
use Rattle.bundling.proofs.Graph.{Hosts}
use Rattle.bundling.proofs.Queue.{true_false, Held}
use Rattle.bundling.proofs.Nearby.{away, same_away, away_turn, Away}
use Rattle.bundling.proofs.Crossing.{Crossing, crossing}
use Rattle.bundling.proofs.Labels.{tight}
use Rattle.bundling.proofs.Steps.{Ready}

module _ {C : Type 0} {K : Kind C} {dist : ℕ → ℕ → Option C} {Edge : ℕ → ℕ → C → Type 0} {pivot : ℕ → Bool} {host : ℕ → ℕ} {s : ℕ}
    (hosts : Hosts K dist Edge pivot host s) where
  open K use {zero}
  open hosts use {ways}
  open ways use {lawful as L}

  infixl 65 ◌⊕◌
  infix 50 ◌≼◌
  abbrev ◌⊕◌ : C → C → C
  ◌⊕◌ = plus K

  abbrev ◌≼◌ : C → C → Type 0
  ◌≼◌ = AtMost K

  module _ {label : ℕ → Option C} {drawn : ℕ → Bool} (ready : Ready hosts label drawn) where
    abbrev pub Settled : ℕ → Type 0
    Settled x = drawn (host x) ≡ true

    abbrev pub Unsettled : ℕ → Type 0
    Unsettled x = drawn (host x) ≡ false

    -- The host of a mark with an exact label has an offer from it; a pivot is its own host.
    host_label : {y : ℕ} {a h : C} → label y ≡ Some a → Away ways s y a → Away ways y (host y) h → Within K (label (host y)) (a ⊕ h)
    host_label {y} {a} {h} e p q =
        elim (cases_Bool (pivot y)) [
          | inl k ↦ record { value = a; is = rw (hosts.own y k) e; upto = plus_more L a h (omega arith) }
          | inr k ↦ ready.to_host y a h (a ⊕ h) k e q.is (sum_plus L a h (omega arith))
        ]

    -- On a cheapest way to an unsettled mark v: y is the first that is not settled. Its label is exact, and its host is held.
    pub record Front (v : ℕ) : Type 0 where
      pub cross : Crossing ways Settled Unsettled s v
      pub exact : label cross.y ≡ Some (cross.a ⊕ cross.c)
      pub h : C
      pub to_host : Away ways cross.y (host cross.y) h
      pub j : C
      pub held : Held pivot label drawn (host cross.y) j
      pub upto : j ≼ cross.a ⊕ cross.c ⊕ h

    pub front : {v : ℕ} {d : C} → drawn s ≡ true → Away ways s v d → Unsettled v → Front v
    front {v} {d} b p un =
        elim (crossing ways {P = Settled} {Q = Unsettled} (λ z. cases_Bool (drawn (host z))) p (rw (hosts.own s hosts.source) b)) [
          | inl k ↦ true_false k un
          | inr c ↦ found c
        ]
      where
        found : Crossing ways Settled Unsettled s v → Front v
        found c =
            let e = tight ways ready.above (ready.legs c.x c.y c.a c.c c.before c.to_x.is c.leg) c.to_y in
            let n = hosts.near c.y s (c.a ⊕ c.c) hosts.source (away_turn ways c.to_y).is in
            let q = away ways n.is in
            let m = host_label e c.to_y q in
            record {
              cross = c;
              exact = e;
              h = n.cost;
              to_host = q;
              j = m.value;
              upto = m.upto;
              held = record { pivotal = n.pivotal; undrawn = c.after; key = m.is };
            }

    -- A draw: u is held with the key k, which is not above any other.
    module _ {u : ℕ} {k : C} (held : Held pivot label drawn u k) (least : (p : ℕ) (j : C) → Held pivot label drawn p j → k ≼ j) where
      -- The first draw is of the source.
      pub first_draw : drawn s ≡ false → (u ≡ s) × (k ≡ zero)
      first_draw b =
          let e = ready.only b u k held.key in
          (e, some_injective held.key (ap label e ∙ ready.start))

      pub front_key : {v : ℕ} (f : Front v) → k ≼ f.cross.a ⊕ f.cross.c ⊕ f.h
      front_key f = at_most_trans L (least (host f.cross.y) f.j f.held) f.upto

      -- No pivot that waits is nearer than the key.
      pub key_upto : {p : ℕ} {d : C} → pivot p ≡ true → drawn p ≡ false → Away ways s p d → k ≼ d
      key_upto {p} {d} piv un q =
          elim (cases_Bool (drawn s)) [
            | inl b ↦ by_front (front b q (rw (hosts.own p piv) un))
            | inr b ↦ rw (first_draw b).1 (zero_at_most L d)
          ]
        where
          by_front : Front p → k ≼ d
          by_front f =
              let c = f.cross in
              let n = hosts.near c.y p c.r piv c.rest.is in
              let near : f.h ≼ c.r = rw (same_away ways (away ways n.is) f.to_host) at n.upto in
              let more : c.a ⊕ c.c ⊕ f.h ≼ c.a ⊕ c.c ⊕ c.r =
              plus_mono_left L f.h c.r (c.a ⊕ c.c) (omega arith) (omega arith) near in
              rw (same_away ways c.whole q) at (at_most_trans L (front_key f) more)

      -- What is drawn has its exact label.
      pub exact_key : Away ways s u k
      exact_key =
          let m = ready.above u k held.key in
          let q = away ways m.is in
          rw (at_most_antisym L m.upto (key_upto held.pivotal held.undrawn q)) at q

      pub exact_draw : label u ≡ dist s u
      exact_draw = held.key ∙ sym exact_key.is
