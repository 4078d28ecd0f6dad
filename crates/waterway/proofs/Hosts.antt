-- Each mark has one host, unless no pivot can be reached from it.
use Rattle.std.proofs.Common.{◌≡◌, ℕ, zero, suc, ◌<◌, ◌≤◌, Bool, true, false, T, ◌⊎◌, sym, refl, inl, inr, arith}
use native.Mathlib.Decide.{ℕ_discrete}
use Rattle.measure.specs.Kind.{Kind, AtMost}
use Rattle.measure.proofs.Sums as sums
use Rattle.waterway.specs.Ways.{Water, Dist, Apart, Sound, Dear}
use Rattle.waterway.specs.Hosts.{Host, Hostless}
use Rattle.waterway.proofs.Cuts.{dist_unique}
use Rattle.waterway.proofs.Rounds.{apart_or_dist}
use Rattle.waterway.proofs.Metric as metric

module _ {C : Type 0} {K : Kind C} {W : Water K} {n : ℕ} (S : Sound W n) (pivot : ℕ → Bool) where
  open K use {Below}
  open S use {lawful as L}

  -- what the pivots below m make of v
  abbrev Found : ℕ → ℕ → Type 0
  Found m v = Hostless W m pivot v ⊎ ((u : ℕ) × (c : C) × Host W m pivot v u c)

  -- one more mark looked at, which is no better than the host so far
  host_keeps : {m v u : ℕ} {c : C} → Host W m pivot v u c → ((d : C) → T (pivot m) → Dist W v m d → AtMost K c d) → Host W (suc m) pivot v u c
  host_keeps {m} {v} {u} {c} H far = let lt = H.inside in record {
    inside = omega arith;
    is_pivot = H.is_pivot;
    dist = H.dist;
    nearest = λ p d p_in p_is E. elim (ℕ_discrete p m) [
      | yes e ↦ (let at_least_lem = far d (rw e at p_is) (rw e at E) in
          elim (L.total c d) [ inl l ↦ inl l | inr r ↦ elim r [ inl same ↦ inr (same, omega arith) | inr l ↦ absurd (at_least_lem l) ] ])
      | no e ↦ H.nearest p d (omega arith) p_is E
    ];
  }

  -- one more mark looked at, which is nearer than all before
  host_new : {m v : ℕ} {d : C} → T (pivot m) → Dist W v m d → ((p : ℕ) (e : C) → p < m → T (pivot p) → Dist W v p e → Below d e) → Host W (suc m) pivot v m d
  host_new {m} {v} {d} is D far = record {
    inside = omega arith;
    is_pivot = is;
    dist = D;
    nearest = λ p e p_in p_is E. elim (ℕ_discrete p m) [
      | yes q ↦ inr (dist_unique S D (rw q at E), omega arith)
      | no q ↦ inl (far p e (omega arith) p_is E)
    ];
  }

  -- the first m marks looked at in turn
  look : (m v : ℕ) → Found m v
  look zero v = inl (λ p p_in. absurd (omega arith))
  look (suc m) v = at (pivot m) refl (look m v)
    where
      skip : (T (pivot m) → Apart W v m) → Found m v → Found (suc m) v
      skip far (inl h) = inl (λ p p_in p_is. elim (ℕ_discrete p m) [ yes e ↦ rw e (far (rw e at p_is)) | no e ↦ h p (omega arith) p_is ])
      skip far (inr (u, c, H)) = inr (u, c, host_keeps H (λ d is D. absurd (far is D.ks D.ms D.way)))

      meet : T (pivot m) → (d : C) → Dist W v m d → Found m v → Found (suc m) v
      meet is d D (inl h) = inr (m, d, host_new is D (λ p e p_in p_is E. absurd (h p p_in p_is E.ks E.ms E.way)))
      meet is d D (inr (u, c, H)) = elim (sums.below_or L d c) [
        | inl l ↦ inr (m, d, host_new is D (λ p e p_in p_is E. elim (H.nearest p e p_in p_is E) [ inl b ↦ L.trans d c e l b | inr s ↦ rw s.0 at l ]))
        | inr l ↦ inr (u, c, host_keeps H (λ e is E. rw (dist_unique S D E) at l))
      ]

      at : (b : Bool) → pivot m ≡ b → Found m v → Found (suc m) v
      at false e f = skip (λ t. absurd (rw e at t)) f
      at true e f = elim (apart_or_dist S m v) [ inl a ↦ skip (λ t. a) f | inr D ↦ meet (rw e tt) D.0 D.1 f ]

  pub host_or_none : (v : ℕ) → Found n v
  host_or_none v = look n v

  pub host_exists : (v p : ℕ) {d : C} → p < n → T (pivot p) → Dist W v p d → (u : ℕ) × (c : C) × Host W n pivot v u c
  host_exists v p p_in p_is D = elim (host_or_none v) [ inl h ↦ absurd (h p p_in p_is D.ks D.ms D.way) | inr H ↦ H ]

  -- the host is no farther than any pivot
  pub host_most : {v u p : ℕ} {c d : C} → Host W n pivot v u c → p < n → T (pivot p) → Dist W v p d → AtMost K c d
  host_most {p = p} {d = d} H lt is D = elim (H.nearest p d lt is D) [ inl l ↦ sums.at_most_below L l | inr s ↦ sums.at_most_eq L s.0 ]

  pub host_unique : {v u p : ℕ} {c d : C} → Host W n pivot v u c → Host W n pivot v p d → (u ≡ p) × (c ≡ d)
  host_unique {v} {u} {p} {c} {d} H I =
      let same : c ≡ d = sums.at_most_antisym L (host_most H I.inside I.is_pivot I.dist) (host_most I H.inside H.is_pivot H.dist) in
      elim (H.nearest p d I.inside I.is_pivot I.dist) [
        | inl b ↦ absurd (L.irrefl d (rw same at b))
        | inr s ↦ elim (I.nearest u c H.inside H.is_pivot H.dist) [
          | inl b ↦ absurd (L.irrefl d (rw same at b))
          | inr t ↦ (let u_le = s.1 in let p_le = t.1 in (omega arith, same))
        ]
      ]

  -- where each leg costs something, a pivot is its own host
  pub host_own : Dear W → {v : ℕ} → v < n → T (pivot v) → Host W n pivot v v K.zero
  host_own dear {v} lt is = record { inside = lt; is_pivot = is; dist = metric.dist_self S v; nearest = λ p d p_in p_is D. go p d D (L.total K.zero d) }
    where
      go : (p : ℕ) (d : C) → Dist W v p d → (Below K.zero d) ⊎ ((K.zero ≡ d) ⊎ (Below d K.zero)) → (Below K.zero d) ⊎ ((K.zero ≡ d) × (v ≤ p))
      go p d D (inl l) = inl l
      go p d D (inr (inl e)) = let same = metric.dear_apart S dear (metric.dist_geo S D) (sums.at_most_eq L (sym e)) in inr (e, omega arith)
      go p d D (inr (inr l)) = absurd (L.least d l)
