-- What holds between draws holds again after an iteration.
use Rattle.std.proofs.Common.{◌≡◌, ℕ, Bool, true, false, Some, Option, sym, ◌∙◌, inl, inr, arith}
use Rattle.std.proofs.lemmas.Bool.{cases_Bool}
use Rattle.measure.specs.Kind.{Kind, AtMost}
use Rattle.measure.proofs.Sums.{plus}
use Rattle.waterway.specs.Labels.{Within, Lower}
use Rattle.waterway.proofs.Written.{within_lower, lower_trans}
use Rattle.bundling.proofs.Graph.{Hosts, Above}
use Rattle.bundling.proofs.Queue.{true_false, Held, Draws}
use Rattle.bundling.proofs.Nearby.{away, away_nearby}
use Rattle.bundling.proofs.Labels.{offer, stays}
use Rattle.bundling.proofs.Steps.{Ready, Step1, Step23}
use Rattle.bundling.proofs.Draw.{first_draw, exact_key, exact_draw}
use Rattle.bundling.proofs.Bundle.{exact_bundle}

module _ {C : Type 0} {K : Kind C} {dist : ℕ → ℕ → Option C} {Edge : ℕ → ℕ → C → Type 0} {pivot : ℕ → Bool} {host : ℕ → ℕ} {s : ℕ}
    (hosts : Hosts K dist Edge pivot host s) where
  open K use {sum}
  open hosts use {ways}
  open ways use {lawful as L}

  infixl 65 ◌⊕◌
  infix 50 ◌≼◌
  abbrev ◌⊕◌ : C → C → C
  ◌⊕◌ = plus K

  abbrev ◌≼◌ : C → C → Type 0
  ◌≼◌ = AtMost K

  module _ {label : ℕ → Option C} {drawn : ℕ → Bool} (ready : Ready hosts label drawn) {u : ℕ} {k : C} (held : Held pivot label drawn u k)
      (least : (p : ℕ) (j : C) → Held pivot label drawn p j → k ≼ j) where
    -- u is drawn now.
    module _ {drawn' : ℕ → Bool} (draws : Draws drawn drawn' u) where
      -- While the iteration runs, labels fall from `label` to `now`; those of drawn pivots, u among them, stay.
      module _ {now : ℕ → Option C} (lower : Lower K label now) (above : Above K dist s now) where
        pub drawn_exact : (p : ℕ) → drawn' p ≡ true → now p ≡ dist s p
        drawn_exact p b =
            elim (draws.no_other p b) [
              | inl b ↦ stays ways lower above p (ready.exact p (rw (hosts.own p (ready.drawn_pivot p b)) b))
              | inr e ↦ rw e (stays ways lower above u (exact_draw hosts ready held least))
            ]

      module _ {label' label'' : ℕ → Option C} (step1 : Step1 hosts label label' u k) (step23 : Step23 hosts label label' label'' u) where
        falls : Lower K label label''
        falls = lower_trans ways.lawful step1.lower step23.lower

        source_now : drawn' s ≡ true
        source_now =
            elim (cases_Bool (drawn s)) [
              | inl b ↦ draws.kept s b
              | inr b ↦ rw (first_draw hosts ready held least b).0 at draws.now
            ]

        exact_now : (x : ℕ) → drawn' (host x) ≡ true → label'' x ≡ dist s x
        exact_now x b =
            elim (draws.no_other (host x) b) [
              | inl b ↦ stays ways falls step23.above x (ready.exact x b)
              | inr e ↦ stays ways step23.lower step23.above x (exact_bundle hosts ready held least step1 x e)
            ]

        to_host_now : (v : ℕ) (c h r : C) → pivot v ≡ false → label'' v ≡ Some c → dist v (host v) ≡ Some h → sum c h ≡ Some r
            → Within K (label'' (host v)) r
        to_host_now v c h r out e n g =
            elim (step23.to_host v c h r out e n g) [
              | inl f ↦ within_lower ways.lawful falls (ready.to_host v c h r out f n g)
              | inr f ↦ elim f [ inl mine ↦ at_u mine | inr m ↦ m ]
            ]
          where
            -- u has its exact label, and so no offer is below it
            at_u : host v ≡ u → Within K (label'' (host v)) r
            at_u mine =
                let q = away ways n in
                rw
                (exact_now (host v) (rw (mine, hosts.own u held.pivotal) draws.now))
                (offer ways (step23.above v c e) (away_nearby ways q) (omega arith) g)

        -- what holds between draws holds again
        pub ready_again : Ready hosts label'' drawn'
        ready_again = record {
          above = step23.above;
          exact = exact_now;
          legs = λ x y a c b p l. elim (draws.no_other (host x) b) [
            | inl b ↦ within_lower ways.lawful falls (ready.legs x y a c b p l)
            | inr m ↦ step23.legs x y a c m p l
          ];
          balls = λ x y z a c e b p l i q. elim (draws.no_other (host x) b) [
            | inl b ↦ within_lower ways.lawful falls (ready.balls x y z a c e b p l i q)
            | inr m ↦ step23.balls x y z a c e m p l i q
          ];
          to_host = to_host_now;
          start = stays ways falls step23.above s (ready.start ∙ sym (ways.self s)) ∙ ways.self s;
          only = λ b. true_false source_now b;
          drawn_pivot = λ p b. elim (draws.no_other p b) [
            | inl b ↦ ready.drawn_pivot p b
            | inr e ↦ rw e held.pivotal
          ];
          drawn_way = λ p b. elim (draws.no_other p b) [
            | inl b ↦ ready.drawn_way p b
            | inr e ↦ (k, rw e (exact_key hosts ready held least).is)
          ];
        }
