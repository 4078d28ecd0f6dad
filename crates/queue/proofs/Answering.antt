-- Which answer a call gets, from what is known of its checks.
use Rattle.std.proofs.Common.{◌≡◌, ℕ, ◌<◌, true, is_some, Some, None, Ok, Err, Option, Result, refl, inl, inr, arith}
use Rattle.queue.specs.declared.refusal.Refusal.{Refusal}
use Rattle.queue.specs.declared.refusal.Refusal.TheVariants.{NotHeld}
use Rattle.queue.specs.Held.{Held, Holds}
use Rattle.queue.specs.Calls.{PutAnswer, LowerAnswer, Lowers}

none_is_none : {K : Type 0} (o : Option K) → o ≡ None → is_some o ≡ true → ⊥
none_is_none o e f = let z : ◌≡◌ {A = ℕ} 0 1 = cc in omega arith

module _ {K : Type 0} (h : Held K) (m : ℕ) where
  -- a mark that is held has a key
  pub key_if_held : Holds h m → (k : K) × (h.key m ≡ Some k)
  key_if_held = go (h.key m) refl
    where
      go : (o : Option K) → h.key m ≡ o → is_some o ≡ true → (k : K) × (h.key m ≡ Some k)
      go None e is = absurd (none_is_none {K = K} None refl is)
      go (Some k) e is = (k, e)

  -- a mark below the span that is not held can be put
  pub put_is_accepted : (r : Result (Unit {0}) Refusal) → m < h.span → h.key m ≡ None → PutAnswer h m r → r ≡ Ok tt
  put_is_accepted r inside none answer = elim answer [
    | inl past ↦ let le = past.0 in absurd (omega arith)
    | inr rest ↦ elim rest.1 [ inl held ↦ absurd (none_is_none (h.key m) none held.0) | inr ok ↦ ok.1 ]
  ]

module _ {K : Type 0} (Under : K → K → Type 0) (h : Held K) (m : ℕ) (k : K) where
  -- a key below that of a mark that is held can be set
  pub lower_is_accepted : (r : Result (Unit {0}) Refusal) → m < h.span → Holds h m → Lowers Under h m k → LowerAnswer Under h m k r → r ≡ Ok tt
  lower_is_accepted r inside held low answer = elim answer [
    | inl past ↦ let le = past.0 in absurd (omega arith)
    | inr rest ↦ elim rest.1 [
      | inl none ↦ absurd (none.0 held)
      | inr more ↦ elim more.1 [ inl high ↦ absurd (high.0 low) | inr ok ↦ ok.1 ]
    ]
  ]

  -- a mark below the span that is not held has no key to lower
  pub lower_is_not_held : (r : Result (Unit {0}) Refusal) → m < h.span → (Holds h m → ⊥) → LowerAnswer Under h m k r → r ≡ Err NotHeld
  lower_is_not_held r inside none answer = elim answer [
    | inl past ↦ let le = past.0 in absurd (omega arith)
    | inr rest ↦ elim rest.1 [ inl found ↦ found.1 | inr more ↦ absurd (more.0 none) ]
  ]
