-- The calls on a queue: when each is refused, what it answers, and what it leaves. Under is the order of the keys.
use Rattle.std.specs.Prelude.{◌≡◌, ℕ, ◌<◌, ◌≤◌, List, [], ◌∷◌, Some, None, Ok, Err, Option, Result}
use Rattle.queue.specs.declared.refusal.Refusal.{Refusal}
use Rattle.queue.specs.declared.refusal.Refusal.TheVariants.{PastSpan, HeldAlready, NotHeld, NotLower}
use Rattle.checks.specs.Checks.{Check, ◌refuses_by◌, Answers}
use Rattle.queue.specs.Held.{Held, Holds, with_key, drawn}

-- accepted where no check refuses
abbrev pub Decided : List (Check Refusal) → Result (Unit {0}) Refusal → Type 0
Decided = Answers Err (λ r. r ≡ Ok tt)

-- Putting the mark m

abbrev pub putting : {K : Type 0} → Held K → ℕ → List (Check Refusal)
putting h m = ((h.span ≤ m) refuses_by PastSpan) ∷ (Holds h m refuses_by HeldAlready) ∷ []

abbrev pub PutAnswer : {K : Type 0} → Held K → ℕ → Result (Unit {0}) Refusal → Type 0
PutAnswer h m = Decided (putting h m)

-- Lowering the key of the mark m to k

-- k is below the key of m
abbrev pub Lowers : {K : Type 0} → (K → K → Type 0) → Held K → ℕ → K → Type 0
Lowers {K} Under h m k = (present : K) → h.key m ≡ Some present → Under k present

abbrev pub lowering : {K : Type 0} → (K → K → Type 0) → Held K → ℕ → K → List (Check Refusal)
lowering Under h m k =
    ((h.span ≤ m) refuses_by PastSpan) ∷ ((Holds h m → ⊥) refuses_by NotHeld) ∷ ((Lowers Under h m k → ⊥) refuses_by NotLower) ∷ []

abbrev pub LowerAnswer : {K : Type 0} → (K → K → Type 0) → Held K → ℕ → K → Result (Unit {0}) Refusal → Type 0
LowerAnswer Under h m k = Decided (lowering Under h m k)

-- what a put or a lowering leaves: where it is accepted, m has the key k; a refused one changes nothing
abbrev pub after_setting : {K : Type 0} → Held K → ℕ → K → Result (Unit {0}) Refusal → Held K
after_setting h m k (Ok _) = with_key h m (Some k)
after_setting h m k (Err _) = h

-- Drawing

-- m is held with the key k, and no key is below k
pub record Least {K : Type 0} (Under : K → K → Type 0) (h : Held K) (m : ℕ) (k : K) : Type 0 where
  pub below : m < h.span
  pub holds : h.key m ≡ Some k
  pub least : (n : ℕ) (j : K) → h.key n ≡ Some j → Under j k → ⊥

-- a least mark with its key, or none where no mark is held
abbrev pub DrawAnswer : {K : Type 0} → (K → K → Type 0) → Held K → Option (ℕ × K) → Type 0
DrawAnswer Under h None = (m : ℕ) → h.key m ≡ None
DrawAnswer Under h (Some p) = Least Under h p.0 p.1

-- what a draw leaves: an empty queue counts nothing
abbrev pub after_draw : {K : Type 0} → Held K → Option (ℕ × K) → Held K
after_draw h None = h
after_draw h (Some p) = drawn h p.0
