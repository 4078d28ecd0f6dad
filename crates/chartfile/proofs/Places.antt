-- A list by its places.
use Rattle.std.proofs.Common.{◌≡◌, ℕ, zero, suc, ◌+◌, List, [], ◌∷◌, length, get_or, drop, ap, ◌∙◌, arith, drop-cons}
use Rattle.std.proofs.lemmas.List.{drop_all}

-- the n elements from the place k on
abbrev pub places : ℕ → ℕ → List ℕ → List ℕ
places k zero bytes = []
places k (suc n) bytes = get_or bytes k 0 ∷ places (suc k) n bytes

pub from_places : (n k : ℕ) (bytes : List ℕ) → length bytes ≡ k + n → drop k bytes ≡ places k n bytes
from_places zero k bytes long = drop_all k bytes (omega arith)
from_places (suc n) k bytes long =
    drop-cons bytes k 0 (omega arith) ∙ ap (λ rest. get_or bytes k 0 ∷ rest) (from_places n (suc k) bytes (omega arith))
