-- The numbers below n with a property that is decided are listed in one way, and so counted.
use Rattle.std.proofs.Common.{◌≡◌, ℕ, zero, suc, ◌<◌, ◌⊎◌, List, [], ◌∷◌, ◌++◌, length, sym, refl, ap, ◌∙◌, ap₂, inl, inr, arith}
use native.Mathlib.Decide.{ℕ_discrete}
use Rattle.std.specs.List.{ContainsAt as Has, AllByRecursion}
use Rattle.std.proofs.ByRecursion.{has_push, has_push_cases, has_append_left, has_append_right, all-has, all_has_itself, All-push, All-weaker}
use Rattle.waterway.specs.Counts.{Rising, Lists, Counts}

-- a greater number put at the end
rising_push : (xs : List ℕ) (m : ℕ) → Rising xs → AllByRecursion (λ x. x < m) xs → Rising (xs ++ m ∷ [])
rising_push [] m r a = (tt, tt)
rising_push (x ∷ xs) m r a = (All-push (λ y. x < y) xs m r.0 a.0, rising_push xs m r.1 a.1)

-- all that stands in a list, as a statement of each
pub has_here : (x : ℕ) (xs : List ℕ) → Has (x ∷ xs) x
has_here x xs = has_append_left (x ∷ []) xs x (has_push [] x)

pub has_there : (x y : ℕ) (xs : List ℕ) → Has xs y → Has (x ∷ xs) y
has_there x y xs h = has_append_right (x ∷ []) xs y h

pub has_cases : (x y : ℕ) (xs : List ℕ) → Has (x ∷ xs) y → (x ≡ y) ⊎ Has xs y
has_cases x y xs (zero, lt, at) = inl (at 0)
has_cases x y xs (suc k, lt, at) = inr (k, omega arith, at)

all_if : (P : ℕ → Type 0) (xs : List ℕ) → ((x : ℕ) → Has xs x → P x) → AllByRecursion P xs
all_if P xs h = All-weaker (Has xs) P h xs (all_has_itself xs)

module _ (P : ℕ → Type 0) where
  pub lists_exist : ((x : ℕ) → P x ⊎ (P x → ⊥)) → (n : ℕ) → (xs : List ℕ) × Lists P n xs
  lists_exist or zero = ([], record { rising = tt; only = λ x h. let lt = h.1 in absurd (omega arith); every = λ x lt p. absurd (omega arith) })
  lists_exist or (suc m) = go (lists_exist or m) (or m)
    where
      go : (xs : List ℕ) × Lists P m xs → P m ⊎ (P m → ⊥) → (xs : List ℕ) × Lists P (suc m) xs
      go (xs, r) (inl p) = (
        xs ++ m ∷ [],
        record {
          rising = rising_push xs m r.rising (all_if (λ x. x < m) xs (λ x h. (r.only x h).0));
          only = λ x h. elim (has_push_cases xs m x h) [ inl g ↦ (let o = r.only x g in let lt = o.0 in (omega arith, o.1)) | inr e ↦ (omega arith, rw e at p) ];
          every = λ x lt q. elim (ℕ_discrete x m) [ yes e ↦ rw e (has_push xs m) | no e ↦ has_append_left xs (m ∷ []) x (r.every x (omega arith) q) ];
        },
      )
      go (xs, r) (inr a) = (
        xs,
        record {
          rising = r.rising;
          only = λ x h. let o = r.only x h in let lt = o.0 in (omega arith, o.1);
          every = λ x lt q. elim (ℕ_discrete x m) [ yes e ↦ absurd (a (rw e at q)) | no e ↦ r.every x (omega arith) q ];
        },
      )

-- two rising lists with the same members are the same
pub rising_unique : (xs ys : List ℕ) → Rising xs → Rising ys → ((x : ℕ) → Has xs x → Has ys x) → ((x : ℕ) → Has ys x → Has xs x) → xs ≡ ys
rising_unique [] [] r s to from = refl
rising_unique [] (y ∷ ys) r s to from = let lt = (from y (has_here y ys)).1 in absurd (omega arith)
rising_unique (x ∷ xs) [] r s to from = let lt = (to x (has_here x xs)).1 in absurd (omega arith)
rising_unique (x ∷ xs) (y ∷ ys) r s to from =
    ap₂ ◌∷◌ first (rising_unique xs ys r.1 s.1
    (λ z h. rest z (all-has (λ w. x < w) xs z r.0 h) (to z (has_there x z xs h)))
    (λ z h. back z (all-has (λ w. y < w) ys z s.0 h) (from z (has_there y z ys h))))
  where
    above : (a b : ℕ) (bs : List ℕ) → AllByRecursion (λ w. b < w) bs → (a ≡ b) ⊎ Has bs a → (b ≡ a) ⊎ (b < a)
    above a b bs all (inl e) = inl (sym e)
    above a b bs all (inr h) = inr (all-has (λ w. b < w) bs a all h)

    first : x ≡ y
    first =
        elim (has_cases y x ys (to x (has_here x xs))) [
          | inl e ↦ sym e
          | inr h ↦ elim (has_cases x y xs (from y (has_here y ys))) [
            | inl e ↦ e
            | inr g ↦ (let p = all-has (λ w. y < w) ys x s.0 h in let q = all-has (λ w. x < w) xs y r.0 g in absurd (omega arith))
          ]
        ]

    rest : (z : ℕ) → x < z → Has (y ∷ ys) z → Has ys z
    rest z lt h = elim (has_cases y z ys h) [ inl e ↦ (let f = first in absurd (omega arith)) | inr g ↦ g ]

    back : (z : ℕ) → y < z → Has (x ∷ xs) z → Has xs z
    back z lt h = elim (has_cases x z xs h) [ inl e ↦ (let f = first in absurd (omega arith)) | inr g ↦ g ]

module _ {P : ℕ → Type 0} {n : ℕ} where
  pub lists_unique : {xs ys : List ℕ} → Lists P n xs → Lists P n ys → xs ≡ ys
  lists_unique {xs} {ys} l m = rising_unique xs ys l.rising m.rising
      (λ x h. let o = l.only x h in m.every x o.0 o.1)
      (λ x h. let o = m.only x h in l.every x o.0 o.1)

  pub counts_unique : {c d : ℕ} → Counts P n c → Counts P n d → c ≡ d
  counts_unique k l = sym k.many ∙ ap length (lists_unique k.lists l.lists) ∙ l.many

pub counts_exist : (P : ℕ → Type 0) → ((x : ℕ) → P x ⊎ (P x → ⊥)) → (n : ℕ) → (c : ℕ) × Counts P n c
counts_exist P or n = let l = lists_exist P or n in (length l.0, record { those = l.0; lists = l.1; many = refl })
