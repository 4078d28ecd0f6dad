-- The nearest pivot and the ball, from labels that are right round a mark.
use Rattle.std.proofs.Common.{◌≡◌, ℕ, ◌+◌, ◌<◌, Bool, true, false, List, [], ◌∷◌, ◌++◌, length, Some, None, Option, sym, refl, ap, ◌∙◌, inl, inr, arith, length-append}
use native.Mathlib.Decide.{ℕ_discrete, dec_lt}
use Rattle.std.proofs.lemmas.List.{get_or_append_left, get_or_push, map-append}
use Rattle.std.proofs.ByRecursion.{All-push, All-weaker}
use Rattle.measure.specs.Kind.{Kind, Lawful, AtMost}
use Rattle.measure.proofs.Sums.{some_none, some_injective, at_most_eq, at_most_below, at_most_trans, at_most_antisym, below_or, at_most_then_below}
use Rattle.waterway.specs.Ways.{Water, Sound, Dear}
use Rattle.waterway.specs.Hosts.{Host as Nearest, InBall as Inside}
use Rattle.waterway.proofs.Bills as bills
use Rattle.waterway.proofs.Walks.{walk_turned}
use Rattle.waterway.proofs.Hosts as hosts_are
use Rattle.waterway.specs.declared.Label.{Label}
use Rattle.bundling.specs.declared.Near.{Near}
use Rattle.waterway.specs.Labels.{label_of}
use Rattle.hosts.specs.Local.{pivot_of, own, UptoPivots, Around, row, Beats, Closer, NearestOf, Written, RowWritten, HostMade, pair}
use Rattle.relaxing.specs.Search.{near_at}
use Rattle.bundling.proofs.Listed.{lists_none, lists_push, lists_skip}
use Rattle.bundling.proofs.Queue.{true_false}
use Rattle.std.proofs.lemmas.Float.{T_from_true as holds}
use Rattle.bundling.proofs.Pivots.{is_true}

module _ {C : Type 0} {K : Kind C} (L : Lawful K) (pivots : List Bool) (labels : List (Label C)) (i : ℕ) where
  keep : (best : Option (Near C)) → NearestOf K pivots labels i best
      → ((c : C) → pivot_of pivots i ≡ true → label_of K labels i ≡ Some c → (b : Near C) × ((best ≡ Some b) × AtMost K b.cost c)) → NearestOf K pivots labels (i + 1) best
  keep None h f = λ p d lt piv is. elim (ℕ_discrete p i) [
    | yes e ↦ (let b = f d (rw e at piv) (rw e at is) in some_none b.1.0 refl)
    | no e ↦ h p d (omega arith) piv is
  ]
  keep (Some b) h f = (
    omega (arith, h.0),
    h.1,
    h.2,
    λ p d lt piv is. elim (ℕ_discrete p i) [
      | yes e ↦ (let x = f d (rw e at piv) (rw e at is) in
          let same : x.0 ≡ b = some_injective x.1.0 refl in
          let upto : AtMost K b.cost d = rw same at x.1.1 in
          elim (below_or L b.cost d) [ inl l ↦ inl l | inr l ↦ inr (at_most_antisym L upto l, omega (arith, h.0, e)) ])
      | no e ↦ h.3 p d (omega arith) piv is
    ],
  )

  take : (best : Option (Near C)) (c : C) → NearestOf K pivots labels i best → pivot_of pivots i ≡ true → label_of K labels i ≡ Some c
      → ((b : Near C) → best ≡ Some b → K.Below c b.cost) → NearestOf K pivots labels (i + 1) (Some (row i c))
  take None c h piv is less = (
    omega arith,
    piv,
    is,
    λ p d lt piv' is'. elim (ℕ_discrete p i) [
      | yes e ↦ inr (some_injective is (rw e at is'), omega (arith, e))
      | no e ↦ absurd (h p d (omega arith) piv' is')
    ],
  )
  take (Some b) c h piv is less = (
    omega arith,
    piv,
    is,
    λ p d lt piv' is'. elim (ℕ_discrete p i) [
      | yes e ↦ inr (some_injective is (rw e at is'), omega (arith, e))
      | no e ↦ elim (h.3 p d (omega arith) piv' is') [ inl l ↦ inl (L.trans c b.cost d (less b refl) l) | inr l ↦ inl (rw l.0 at (less b refl)) ]
    ],
  )

  pub nearest_more : (best next : Option (Near C)) → NearestOf K pivots labels i best → Closer K best (pivot_of pivots i) (label_of K labels i) i next → NearestOf K pivots labels (i + 1) next
  nearest_more best next h (inl c) = rw c.0 (keep best h c.1)
  nearest_more best next h (inr c) = rw c.3 (take best c.0 h c.1 c.2 c.4)

module _ {C : Type 0} (K : Kind C) (best : Option (Near C)) (pivot : Bool) {o : Option C} (v : ℕ) {c : C} (is : o ≡ Some c) where
  pub closer_keeps : (Beats K best c → ⊥) → Closer K best pivot o v best
  closer_keeps not_beaten = inl (refl, λ d piv e. beaten best not_beaten d (some_injective e is))
    where
      beaten : (best : Option (Near C)) → (Beats K best c → ⊥) → (d : C) → d ≡ c → (b : Near C) × ((best ≡ Some b) × AtMost K b.cost d)
      beaten None h d f = absurd (h tt)
      beaten (Some b) h d f = (b, (refl, rw f h))

-- the rows of one more mark
module _ {C : Type 0} {K : Kind C} (labels : List (Label C)) (near a b : List (Near C)) (first at i : ℕ) (rim : C) where
  pub rows_more : (next : ℕ) → length b ≡ length a → Written K labels near a first at i rim → RowWritten K (label_of K labels i) a b at i rim next → Written K labels near b first next (i + 1) rim
  rows_more next long w (inl r) = record {
    rows = w.rows;
    inner = record { members = lists_skip w.inner.members refl (λ p. r.1.1 p.0 p.1 p.2); costs = w.inner.costs };
    ends = r.0 ∙ w.ends;
    short = omega (arith, w.short);
    before = λ j lt. r.1.0 j ∙ w.before j lt;
    stand = record { each = λ j k e lt room. ap pair (r.1.0 k) ∙ w.stand.each j k e lt (omega (arith, room, long)) };
  }
  rows_more next long w (inr r) =
      let xs = w.rows in
      let more = length-append xs ((i, r.0) ∷ []) in
      record {
        rows = xs ++ (i, r.0) ∷ [];
        inner = record {
          members = rw (map-append (λ (z : ℕ × C). z.0) xs ((i, r.0) ∷ [])) (lists_push w.inner.members refl (r.0, r.2, r.3));
          costs = All-push (λ (z : ℕ × C). (label_of K labels z.0 ≡ Some z.1) × (K.Below z.1 rim)) xs (i, r.0) w.inner.costs (r.2, r.3);
        };
        ends = omega (arith, r.1, w.ends, more);
        short = omega (arith, w.short, more);
        before = λ j lt. r.4 j (λ f. omega (arith, w.ends, f)) ∙ w.before j lt;
        stand = record {
          each = λ j k e lt room. elim (dec_lt j (length xs)) [
            | yes less ↦ ap pair (r.4 k (λ f. omega (arith, w.ends, f, e))) ∙ (w.stand.each j k e less (omega (arith, room, long)) ∙ sym (get_or_append_left xs ((i, r.0) ∷ []) (0, K.zero) j less))
            | no past ↦ (let last : length xs ≡ j = omega (arith, lt, more) in
                let k_is : k ≡ at = omega (arith, w.ends, e) in
                ap (λ x. pair (near_at K b x)) k_is ∙ (ap pair (r.5 (omega (arith, room, long, k_is))) ∙ sym (get_or_push xs (i, r.0) (0, K.zero) j last)))
          ];
        };
      }

-- what has a host is a mark
pub hosted_in : {C : Type 0} {K : Kind C} {W : Water K} {n : ℕ} (S : Sound W n) {pivot : ℕ → Bool} {v u : ℕ} {c : C} → Nearest W n pivot v u c → v < n
hosted_in S H = bills.walk_ends S (walk_turned H.dist.way.walk) H.inside

pub nearest_same : {C : Type 0} {K : Kind C} {W : Water K} {n : ℕ} {pivot : ℕ → Bool} {v u u' : ℕ} {c c' : C} → Nearest W n pivot v u c → u ≡ u' → c ≡ c' → Nearest W n pivot v u' c'
nearest_same N e f = rw f at (rw e at N)

module _ {C : Type 0} {K : Kind C} {W : Water K} {n : ℕ} (S : Sound W n) (pivots : List Bool) {v : ℕ} {labels : List (Label C)} (around : Around W n pivots v labels) where
  open S use {lawful as L}

  host_upto : {u : ℕ} {c : C} → Nearest W n (pivot_of pivots) v u c → UptoPivots W n pivots v c
  host_upto H p d lt piv D = hosts_are.host_most S (pivot_of pivots) H lt (holds _ piv) D

  -- the pivot with the least label is the host
  pub host_found : (b : Near C) → NearestOf K pivots labels n (Some b) → Nearest W n (pivot_of pivots) v b.mark b.cost
  host_found b h =
      let r = around.sure b.mark b.cost h.2 in
      let H = hosts_are.host_exists S (pivot_of pivots) v b.mark h.0 (holds _ h.1) r.is in
      let most : AtMost K H.1 r.dist = host_upto H.2 b.mark r.dist h.0 h.1 r.is in
      let label = around.exact H.0 H.1 H.2.dist (host_upto H.2) in
      elim (h.3 H.0 H.1 H.2.inside (is_true _ H.2.is_pivot) label) [
        | inl below ↦ absurd (at_most_trans L most r.upto below)
        | inr same ↦ (let back : AtMost K r.dist H.1 = at_most_trans L r.upto (at_most_eq L same.0) in
            let dist_is : H.1 ≡ r.dist = at_most_antisym L most back in
            elim (H.2.nearest b.mark r.dist h.0 (holds _ h.1) r.is) [
              | inl lower ↦ absurd (back lower)
              | inr other ↦ (let mark_is : H.0 ≡ b.mark = omega (arith, same.1, other.1) in nearest_same H.2 mark_is (sym same.0))
            ])
      ]

  pub no_host_found : NearestOf K pivots labels n None → (u : ℕ) (c : C) → Nearest W n (pivot_of pivots) v u c → ⊥
  no_host_found h u c H = h u c H.inside (is_true _ H.is_pivot) (around.exact u c H.dist (host_upto H))

  -- the labels below the rim are those of the ball
  module _ {u : ℕ} {rim : C} (H : Nearest W n (pivot_of pivots) v u rim) (outer : pivot_of pivots v ≡ false) where
    pub inner_ball : (w : ℕ) (d : C) → label_of K labels w ≡ Some d → K.Below d rim → Inside W n (pivot_of pivots) v w d
    inner_ball w d is below =
        let r = around.sure w d is in
        let lower : K.Below r.dist rim = at_most_then_below L r.upto below in
        let exact = around.exact w r.dist r.is (λ p c lt piv D. at_most_trans L (at_most_below L lower) (host_upto H p c lt piv D)) in
        record { no_pivot = outer; dist = rw (some_injective exact is) at r.is; host = u; far = rim; is_host = H; nearer = below }

    pub ball_inner : (w : ℕ) (d : C) → Inside W n (pivot_of pivots) v w d → (label_of K labels w ≡ Some d) × (K.Below d rim)
    ball_inner w d B =
        let same = (hosts_are.host_unique S (pivot_of pivots) B.is_host H).1 in
        let below : K.Below d rim = rw same at B.nearer in
        (around.exact w d B.dist (λ p c lt piv D. at_most_trans L (at_most_below L below) (host_upto H p c lt piv D)), below)

module _ {C : Type 0} (K : Kind C) (labels : List (Label C)) (near : List (Near C)) (first : ℕ) (rim : C) where
  pub rows_none : Written K labels near near first first 0 rim
  rows_none = record {
    rows = [];
    inner = record { members = lists_none 0 (λ x lt. absurd (omega arith)); costs = tt };
    ends = omega arith;
    short = omega arith;
    before = λ j lt. refl;
    stand = record { each = λ j k e lt. absurd (omega arith) };
  }

pub written_moved : {C : Type 0} {K : Kind C} {labels : List (Label C)} {near near' : List (Near C)} {first at i n : ℕ} {rim : C} → Written K labels near near' first at i rim → i ≡ n → Written K labels near near' first at n rim
written_moved w e = rw e at w

pub nearest_moved : {C : Type 0} (K : Kind C) (pivots : List Bool) (labels : List (Label C)) (b : Option (Near C)) {i n : ℕ} → NearestOf K pivots labels i b → i ≡ n → NearestOf K pivots labels n b
nearest_moved K pivots labels b w e = rw e at w

module _ {C : Type 0} {K : Kind C} {W : Water K} {n : ℕ} (S : Sound W n) (dear : Dear W) (pivots : List Bool) (v : ℕ) (v_in : v < n) (first : ℕ) (near : List (Near C)) where
  open S use {lawful as L}

  -- a pivot is its own host, and has no ball
  pub made_pivot : pivot_of pivots v ≡ true → HostMade W n pivots v first near near (own K v first)
  made_pivot piv = record {
    host = hosts_are.host_own S (pivot_of pivots) dear v_in (holds _ piv);
    starts = refl;
    rows = [];
    ball = record { members = lists_none n (λ x lt B. true_false piv B.1.no_pivot); costs = tt };
    ends = omega arith;
    short = omega arith;
    before = λ j lt. refl;
    stand = record { each = λ j k e lt. absurd (omega arith) };
  }

  module _ {labels : List (Label C)} (around : Around W n pivots v labels) (outer : pivot_of pivots v ≡ false) where
    pub made_none : NearestOf K pivots labels n None → HostMade W n pivots v first near near (record { pivot = None; start = first; end = first })
    made_none h = record {
      host = no_host_found S pivots around h;
      starts = refl;
      rows = [];
      ball = record { members = lists_none n (λ x lt B. no_host_found S pivots around h B.1.host B.1.far B.1.is_host); costs = tt };
      ends = omega arith;
      short = omega arith;
      before = λ j lt. refl;
      stand = record { each = λ j k e lt. absurd (omega arith) };
    }

    pub made_some : (b : Near C) (near' : List (Near C)) (end : ℕ) → NearestOf K pivots labels n (Some b) → Written K labels near near' first end n b.cost
        → HostMade W n pivots v first near near' (record { pivot = Some b; start = first; end = end })
    made_some b near' end h w =
        let H = host_found S pivots around b h in
        record {
          host = H;
          starts = refl;
          rows = w.rows;
          ball = record {
            members = record {
              rising = w.inner.members.rising;
              only = λ x h. let o = w.inner.members.only x h in (o.0, (o.1.0, inner_ball S pivots around H outer x o.1.0 o.1.1 o.1.2));
              every = λ x lt B. let o = ball_inner S pivots around H outer x B.0 B.1 in w.inner.members.every x lt (B.0, o.0, o.1);
            };
            costs = All-weaker (λ (z : ℕ × C). (label_of K labels z.0 ≡ Some z.1) × (K.Below z.1 b.cost)) (λ (z : ℕ × C). Inside W n (pivot_of pivots) v z.0 z.1)
                (λ z p. inner_ball S pivots around H outer z.0 z.1 p.0 p.1) w.rows w.inner.costs;
          };
          ends = w.ends;
          short = w.short;
          before = w.before;
          stand = w.stand;
        }
