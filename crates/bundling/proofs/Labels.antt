-- Labels that come down towards the distances, and never below them.
use Rattle.std.proofs.Common.{◌≡◌, ℕ, ◌^◌, ◌≤◌, Some, None, Option, sym, refl, ◌∙◌, arith}
use Rattle.measure.specs.Kind.{Kind, AtMost}
use Rattle.measure.proofs.Sums.{some_none, at_most_trans, at_most_antisym, plus, plus_is, sum_fits, plus_mono, plus_mono_left}
use Rattle.waterway.specs.Labels.{Within, Lower}
use Rattle.bundling.proofs.Graph.{Ways, Above}
use Rattle.bundling.proofs.Nearby.{away, same_away, triangle, Away, Nearby}

module _ {C : Type 0} {K : Kind C} {dist : ℕ → ℕ → Option C} {Edge : ℕ → ℕ → C → Type 0} (ways : Ways K dist Edge) where
  open K use {sum, size}
  open ways use {lawful as L}

  infixl 65 ◌⊕◌
  infix 50 ◌≼◌
  abbrev ◌⊕◌ : C → C → C
  ◌⊕◌ = plus K

  abbrev ◌≼◌ : C → C → Type 0
  ◌≼◌ = AtMost K

  module _ {s : ℕ} where
    -- One relaxation: x has a label a, and d is at least what y is away from x (as a leg's price is). The offer is not below what y is away.
    pub offer : {x y : ℕ} {a d r : C} → Within K (dist s x) a → Nearby ways x y d → size d ≤ 2 ^ 46 → sum a d ≡ Some r → Within K (dist s y) r
    offer {x} {y} {a} {d} {r} m n small e =
        let p = away ways m.is in
        let q = n.away in
        let t = triangle ways p q in
        let fits = sum_fits L a d r e in
        let one : m.value ⊕ n.cost ≼ m.value ⊕ d = plus_mono_left L n.cost d m.value (omega arith) (omega arith) n.upto in
        let two : m.value ⊕ d ≼ a ⊕ d = plus_mono L m.value a d (omega arith) (omega arith) m.upto in
        let all = at_most_trans L t.upto (at_most_trans L one two) in
        record { value = t.cost; is = t.away.is; upto = rw (plus_is L a d r e) at all }

    module _ {label : ℕ → Option C} (above : Above K dist s label) where
      -- A label that has come down to what its mark is away is exact.
      pub tight : {y : ℕ} {a : C} → Within K (label y) a → Away ways s y a → label y ≡ Some a
      tight {y} {a} m p =
          let n = above y m.value m.is in
          let k : a ≼ m.value = rw (same_away ways (away ways n.is) p) at n.upto in
          rw (at_most_antisym L k m.upto) m.is

      -- So are all those that have a way, and then the others have no label.
      pub exact_if : (v : ℕ) → ((d : C) → Away ways s v d → Within K (label v) d) → label v ≡ dist s v
      exact_if v reach = go (dist s v) refl (label v) refl
        where
          go : (o : Option C) → dist s v ≡ o → (l : Option C) → label v ≡ l → l ≡ o
          go None f None g = refl
          go None f (Some c) g = some_none (above v c g).is f
          go (Some d) f l g = sym g ∙ tight (reach d (away ways f)) (away ways f)

    -- An exact label stays as it is.
    pub stays : {label label' : ℕ → Option C} → Lower K label label' → Above K dist s label' → (v : ℕ) → label v ≡ dist s v → label' v ≡ dist s v
    stays lower above v e = exact_if above v (λ d p. lower v d (e ∙ p.is))
