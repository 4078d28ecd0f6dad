use Rattle.std.proofs.Common.{◌≡◌, List, [], ◌∷◌, length, replicate, refl, rules}
use Rattle.std.specs.List.{FoldsTo}
use Rattle.waterway.proofs.blank_labels.Goals as goal

all_same : {P A : Type 0} (R : P → A → P → Type 0) (u : A) (p : P) → ((x : A) (q : P) → R p x q → (q ≡ p) × (x ≡ u)) → (xs : List A) (q : P) → FoldsTo R p xs q → xs ≡ replicate (length xs) u
all_same R u p same [] q f = refl
all_same R u p same (x ∷ xs) q (j, first, rest) =
    let s = same x j first in
    rw (s.1, ← all_same R u p same xs q (rw s.0 at rest)) refl

pub returns : goal.returns
returns g c =
    let ran = c.fill_with.ensures.ran in
    let same = all_same _ c.blank-label.result _ (λ x q k. search rules) c.fill_with.new.self ran.0 ran.1 in
    rw (c.fill_with.ensures.len, c.blank-label.ensures) at same
