-- What a queue means. Assumes nothing.
use Rattle.std.specs.Prelude.{◌≡◌, ℕ, ◌+◌, min, true, cond, is_some, None, Option, ◌==◌}

-- the key of each mark that is held; below which number marks can be held; the draws since the queue was cleared
pub record Held (K : Type 0) : Type 0 where
  pub key : ℕ → Option K
  pub span : ℕ
  pub draws : ℕ

-- no span is greater, and the count of draws stops here
abbrev pub most : ℕ
most = 65535

-- the mark m is held
abbrev pub Holds : {K : Type 0} → Held K → ℕ → Type 0
Holds h m = is_some (h.key m) ≡ true

-- two queues that mean the same
pub record Alike {K : Type 0} (a b : Held K) : Type 0 where
  pub key : (m : ℕ) → a.key m ≡ b.key m
  pub span : a.span ≡ b.span
  pub draws : a.draws ≡ b.draws

-- no mark, and no draw
abbrev pub cleared : {K : Type 0} → ℕ → Held K
cleared s = record { key = λ n. None; span = s; draws = 0 }

-- h with this key, or none, for the mark m
abbrev pub with_key : {K : Type 0} → Held K → ℕ → Option K → Held K
with_key h m k = record { key = λ n. cond (n == m) k (h.key n); span = h.span; draws = h.draws }

-- h without the mark m, and one draw more
abbrev pub drawn : {K : Type 0} → Held K → ℕ → Held K
drawn h m = record { key = (with_key h m None).key; span = h.span; draws = min (h.draws + 1) most }
