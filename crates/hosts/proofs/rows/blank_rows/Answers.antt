use Rattle.std.proofs.Common.{◌≡◌, ◌-◌, List, [], ◌∷◌, length, drop, replicate, refl, rules, arith, length-take, length-drop}
use Rattle.std.specs.List.{FoldsTo}
use Rattle.hosts.proofs.Hosting.{rows_blank}
use Rattle.hosts.proofs.rows.blank_rows.Goals as goal

all_same : {P A : Type 0} (R : P → A → P → Type 0) (u : A) (p : P) → ((x : A) (q : P) → R p x q → (q ≡ p) × (x ≡ u)) → (xs : List A) (q : P) → FoldsTo R p xs q → xs ≡ replicate (length xs) u
all_same R u p same [] q f = refl
all_same R u p same (x ∷ xs) q (j, first, rest) =
    let s = same x j first in
    rw (s.1, ← all_same R u p same xs q (rw s.0 at rest)) refl

pub returns : goal.returns
returns g c =
    let near = c.args.near.now in
    let from = c.min-start.result in
    let ran = c.fill_with.ensures.ran in
    let same = all_same _ (record { mark = 65535; cost = c.zero.result }) _ (λ x q k. search rules) c.fill_with.new.self ran.0 ran.1 in
    rows_blank g.C.Cost.kind near c.fill_with.new.self c.args.start from c.min-start.ensures (rw c.zero.ensures at same)
    (omega (arith, c.fill_with.ensures.len, length-take (length near - from) (drop from near), length-drop from near))
