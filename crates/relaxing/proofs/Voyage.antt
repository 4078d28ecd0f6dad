-- One turn of the search, and its end, by the theorems.
use Rattle.std.proofs.Common.{◌≡◌, ℕ, ◌+◌, ◌<◌, ◌≤◌, Bool, true, false, not, ◌&&◌, List, length, is_some, Some, None, Option, sym, refl, ap, ◌∙◌, inl, inr, arith}
use native.Mathlib.Decide.{ℕ_discrete}
use Rattle.std.proofs.lemmas.List.{get_or_past}
use Rattle.std.proofs.lemmas.Bool.{cases_lt, and_right}
use Rattle.std.proofs.lemmas.Float.{T_from_true}
use Rattle.measure.specs.Kind.{Kind, AtMost}
use Rattle.measure.proofs.Sums.{some_none, some_injective, at_most_refl, plus, sum_plus, size_plus, plus_is, plus_zero}
use Rattle.queue.specs.Held.{Held, Alike, drawn as without}
use Rattle.queue.specs.Calls.{Least}
use Rattle.queue.proofs.Alikes.{key_set, key_kept}
use Rattle.waterway.specs.Ways.{Water, Dist, Sound, Dear, Tells}
use Rattle.waterway.specs.Counts.{Counts}
use Rattle.waterway.specs.Hosts.{Host as Nearest, InBall as Inside}
use Rattle.waterway.proofs.Cuts.{dist_unique}
use Rattle.waterway.proofs.Hosts as hosts_are
use Rattle.waterway.proofs.Metric as metric
use Rattle.waterway.proofs.Distance.{dist, dist_found, dist_is}
use Rattle.waterway.specs.declared.Label.{Label}
use Rattle.bundling.specs.declared.Host.{Host}
use Rattle.bundling.specs.declared.Near.{Near}
use Rattle.waterway.specs.Labels.{label_of}
use Rattle.bundling.specs.Marks.{no_host, host_at, cost_of, pivot_in, host_in, away_in}
use Rattle.relaxing.specs.Offers.{out, Begun, Matched, Kept, drawn_of}
use Rattle.relaxing.specs.Search.{Sure, Housed, Balled, Ran, Mine, StepOne, StepTwo, near_at, ball_in}
use Rattle.bundling.proofs.Graph.{Hosts}
use Rattle.bundling.proofs.Queue.{true_false, Draws}
use Rattle.bundling.proofs.Queue as queues
use Rattle.bundling.proofs.Nearby.{away, Away}
use Rattle.bundling.proofs.Steps.{InBall, Ready, Step1, Step23, Told, ready_start}
use Rattle.bundling.proofs.Draw.{exact_key}
use Rattle.bundling.proofs.Bundle.{exact_bundle}
use Rattle.bundling.proofs.Again.{ready_again}
use Rattle.bundling.proofs.Water.{Edge, ways}
use Rattle.bundling.proofs.Written.{either_option, at_some, cost_some, none_mark}
use Rattle.bundling.proofs.Pivots.{is_true, Placed, bundles, in_ball}
use Rattle.bundling.proofs.Answer.{end_tells, drawn_are}
use Rattle.bundling.proofs.Tally.{tally_counts, tally_below, tally_drawn}
use Rattle.queue.proofs.Tally.{tally}
use Rattle.relaxing.proofs.Offering.{keyed_in}
use Rattle.relaxing.proofs.Rows.{mine_away}
use Rattle.relaxing.proofs.Runs.{sure_above, within_reach, kept_trans}

drawn_yes : {C : Type 0} {p : Bool} {l q : Option C} {c : C} → p ≡ true → l ≡ Some c → q ≡ None → (p && (is_some l && not (is_some q))) ≡ true
drawn_yes e f g = rw (e, f, g)

drawn_parts : {C : Type 0} (p : Bool) (l q : Option C) → (p && (is_some l && not (is_some q))) ≡ true → (p ≡ true) × ((c : C) × (l ≡ Some c)) × (q ≡ None)
drawn_parts false l q e = true_false e refl
drawn_parts true None q e = true_false e refl
drawn_parts true (Some c) None e = (refl, (c, refl), refl)
drawn_parts true (Some c) (Some j) e = true_false e refl

waiting : {C : Type 0} (p : Bool) (l q : Option C) {c : C} → p ≡ true → l ≡ Some c → (p && (is_some l && not (is_some q))) ≡ false → (j : C) × (q ≡ Some j)
waiting false l q e f g = true_false e refl
waiting true None q e f g = some_none f refl
waiting true (Some c) None e f g = true_false refl g
waiting true (Some c) (Some j) e f g = (j, refl)

module _ {C : Type 0} (K : Kind C) (hosts : List (Host C)) where
  pivot_away : (v : ℕ) → pivot_in K hosts v ≡ true → (c : C) × (away_in K hosts v ≡ Some c)
  unfolding pivot_in away_in
  pivot_away v e = let p = at_some (host_at K hosts v).pivot e in (p.0, ap cost_of p.1)

  none_self : (v : ℕ) → away_in K hosts v ≡ None → host_in K hosts v ≡ v
  unfolding away_in host_in
  none_self v e = none_mark (host_at K hosts v).pivot v e

  away_mine : (v u : ℕ) (c : C) → away_in K hosts v ≡ Some c → host_in K hosts v ≡ u → Mine K hosts u v
  unfolding away_in host_in
  away_mine v u c e f = record { away = c; pivot = cost_some (host_at K hosts v).pivot v e ∙ ap (λ m. Some (record { mark = m; cost = c })) f }

  known_in : (v : ℕ) {p : Near C} → (host_at K hosts v).pivot ≡ Some p → v < length hosts
  known_in v k = elim (cases_lt v (length hosts)) [
    | inl lt ↦ lt
    | inr past ↦ some_none k (ap (λ (z : Host C). z.pivot) (get_or_past hosts v (no_host K) past))
  ]

  pivot_in_marks : (v : ℕ) → pivot_in K hosts v ≡ true → v < length hosts
  unfolding pivot_in
  pivot_in_marks v e = known_in v (at_some (host_at K hosts v).pivot e).1

module _ {C : Type 0} {K : Kind C} {W : Water K} {n : ℕ} (S : Sound W n) (dear : Dear W) {hosts : List (Host C)} (housed : Housed W n hosts) where
  open S use {lawful as L}

  pub placed : Placed W n (pivot_in K hosts) (host_in K hosts)
  placed = record {
    inside = λ v u c N. elim (either_option (away_in K hosts v)) [
      | inl e ↦ absurd (housed.none v u c e N)
      | inr e ↦ (hosts_are.host_unique S (pivot_in K hosts) (housed.some v e.0 e.1) N).0
    ];
    outside = λ p is out. absurd (omega (arith, pivot_in_marks K hosts p (is_true _ is), housed.long));
  }

  module _ (home : ℕ) (home_pivot : pivot_in K hosts home ≡ true) where
    abbrev pub H : Hosts K (dist S) (Edge W) (pivot_in K hosts) (host_in K hosts) home
    H = bundles S (pivot_in K hosts) placed dear home (T_from_true (pivot_in K hosts home) home_pivot)

    -- the host of a mark that has one
    nearest : (v : ℕ) {c : C} → away_in K hosts v ≡ Some c → Nearest W n (pivot_in K hosts) v (host_in K hosts v) c
    nearest v {c} e = housed.some v c e

    -- a ball of the search is one of the waterway
    ball_of : (v w : ℕ) → InBall H v w → (d : C) → dist S v w ≡ Some d → Inside W n (pivot_in K hosts) v w d
    ball_of v w B d e = elim (either_option (away_in K hosts v)) [
      | inl none ↦ absurd (L.least B.cost (rw (some_injective (rw (none_self K hosts v none) at B.rim_is) ((ways S).self v)) at B.inside))
      | inr some ↦ rw (some_injective B.is e) at (in_ball S (pivot_in K hosts) placed (nearest v some.1) B)
    ]

    module _ {a : List (Label C)} {h : Held C} (matched : Matched K hosts a h)
        (ready : Ready H (label_of K a) (drawn_of (pivot_in K hosts) (label_of K a) h.key)) {u : ℕ} {k : C} (least : Least K.Below h u k) where
      pub key_is : label_of K a u ≡ Some k
      key_is = matched.keyed.agrees u k least.holds

      pub pivotal : pivot_in K hosts u ≡ true
      pivotal = matched.keyed.pivots u k least.holds

      pub drawn_inside : u < n
      drawn_inside = omega (arith, pivot_in_marks K hosts u pivotal, housed.long)

      pub held : queues.Held (pivot_in K hosts) (label_of K a) (drawn_of (pivot_in K hosts) (label_of K a) h.key) u k
      held = record { pivotal = pivotal; undrawn = and_right (pivot_in K hosts u) (out (label_of K a) h.key u) (keyed_in (label_of K a u) (h.key u) least.holds); key = key_is }

      pub lowest : (p : ℕ) (j : C) → queues.Held (pivot_in K hosts) (label_of K a) (drawn_of (pivot_in K hosts) (label_of K a) h.key) p j → AtMost K k j
      lowest p j held =
          let q = waiting (pivot_in K hosts p) (label_of K a p) (h.key p) held.pivotal held.key held.undrawn in
          let same : q.0 ≡ j = some_injective (matched.keyed.agrees p q.0 q.1) held.key in
          least.least p j (rw same at q.1)

      pub sure : Sure W home a
      sure v c e = within_reach S (ready.above v c e)

      pub at_u : Away H.ways home u k
      at_u = exact_key H ready held lowest

      -- the queue after the draw
      module _ {h' : Held C} (same : Alike h' (without h u)) where
        gone : h'.key u ≡ None
        gone = same.key u ∙ key_set h u u None refl

        rest : (p : ℕ) → (p ≡ u → ⊥) → h'.key p ≡ h.key p
        rest p ne = same.key p ∙ key_kept h u p None ne

        pub matched_drawn : Matched K hosts a h'
        matched_drawn = record {
          long = matched.long;
          span = omega (arith, same.span, matched.span);
          clean = matched.clean;
          keyed = record {
            agrees = λ p j e. matched.keyed.agrees p j (was p j e);
            pivots = λ p j e. matched.keyed.pivots p j (was p j e);
          };
          hosted = matched.hosted;
        }
          where
            was : (p : ℕ) (j : C) → h'.key p ≡ Some j → h.key p ≡ Some j
            was p j e = elim (ℕ_discrete p u) [ yes f ↦ some_none e (ap h'.key f ∙ gone) | no f ↦ sym (rest p f) ∙ e ]

        pub draws : {drawn : ℕ → Bool} → ((p : ℕ) → drawn p ≡ drawn_of (pivot_in K hosts) (label_of K a) h'.key p)
            → Draws (drawn_of (pivot_in K hosts) (label_of K a) h.key) drawn u
        draws {drawn} is = record {
          now = is u ∙ drawn_yes pivotal key_is gone;
          kept = λ p e. let d = drawn_parts (pivot_in K hosts p) (label_of K a p) (h.key p) e in
              is p ∙ drawn_yes d.0 d.1.1 (elim (ℕ_discrete p u) [ yes f ↦ ap h'.key f ∙ gone | no f ↦ rest p f ∙ d.2 ]);
          no_other = λ p e. elim (ℕ_discrete p u) [
            | yes f ↦ inr f
            | no f ↦ (let d = drawn_parts (pivot_in K hosts p) (label_of K a p) (h'.key p) (sym (is p) ∙ e) in
                inl (drawn_yes d.0 d.1.1 (sym (rest p f) ∙ d.2)))
          ];
        }

        module _ {near : List (Near C)} (balled : Balled W n hosts near) {b c : List (Label C)} {i j : Held C}
            (p : Ran W hosts a h' b i) (one : StepOne W hosts near a b u n) (q : Ran W hosts b i c j) (two : StepTwo W n hosts b c u n) where
          -- what u hosts and has a way is a mark with a host
          mine : (v : ℕ) → host_in K hosts v ≡ u → Mine K hosts u v
          mine v e = elim (either_option (away_in K hosts v)) [
            | inl none ↦ (let s = pivot_away K hosts u pivotal in some_none s.1 (rw (sym (sym (none_self K hosts v none) ∙ e)) none))
            | inr some ↦ away_mine K hosts v u some.0 some.1 e
          ]

          mine_in : (v : ℕ) → host_in K hosts v ≡ u → v < n
          mine_in v e = omega (arith, known_in K hosts v (mine v e).pivot, housed.long)

          gap : (v : ℕ) (e : C) → host_in K hosts v ≡ u → dist S u v ≡ Some e → away_in K hosts v ≡ Some e
          gap v e m f =
              let some = mine_away (mine v m) in
              some ∙ ap Some (dist_unique S (rw m at (nearest v some).dist) (metric.dist_turned S (dist_found S f)))

          row_of : (v w : ℕ) (d : C) → host_in K hosts v ≡ u → InBall H v w → dist S w v ≡ Some d
              → (x : ℕ) × (x < length (ball_in K hosts near v)) × ((near_at K (ball_in K hosts near v) x).mark ≡ w) × ((near_at K (ball_in K hosts near v) x).cost ≡ d)
          row_of v w d m B e =
              let D = metric.dist_turned S (dist_found S e) in
              let I = ball_of v w B d (dist_is S D) in
              let row = balled.every v w d I in
              (row.0, row.1, row.2, dist_unique S (rw row.2 at (balled.only v row.0 row.1).dist) D)

          step1 : Step1 H (label_of K a) (label_of K b) u k
          step1 = record {
            lower = p.keeps.lower;
            above = sure_above S (p.sure home sure);
            own = λ v e m f.
                let A = away (ways S) f in
                (one.each v (mine_in v m) (mine v m)).own.each home sure k e (plus K k e) (rw m key_is) (rw m (dist_found S at_u.is)) (gap v e m f) (sum_plus L k e (omega (arith, at_u.short, A.short)));
            ball = λ v y l e m B f g i.
                let row = row_of v y e m B i in
                let A = away (ways S) g in
                let A' = away (ways S) i in
                ((one.each v (mine_in v m) (mine v m)).ball.each row.0 row.1).ball home sure l (plus K l e)
                (rw row.2 f) (rw row.2 (dist_found S g)) (rw row.3 (sum_plus L l e (omega (arith, A.short, A'.short))));
            rim = λ v z w l d e m B E f g i.
                let row = row_of v w e m B i in
                let A = away (ways S) g in
                let A' = away (ways S) i in
                let s = (ways S).short_leg z w d E in
                ((one.each v (mine_in v m) (mine v m)).ball.each row.0 row.1).rim.each home sure E.leg z l (plus K l d) (plus K (plus K l d) e)
                E.joins.stands (rw row.2 E.joins) f (dist_found S g)
                (rw E.costs (sum_plus L l d (omega (arith, A.short))))
                (rw row.3 (sum_plus L (plus K l d) e (omega (arith, size_plus L l d, A.short, A'.short))));
          }

          exact : (x : ℕ) (d : C) → host_in K hosts x ≡ u → dist S home x ≡ Some d → label_of K b x ≡ Some d
          exact x d m e = exact_bundle H ready held lowest step1 x m ∙ e

          all : Kept K (pivot_in K hosts) (host_in K hosts) (away_in K hosts) (label_of K a) (label_of K c) h'.key j.key
          all = kept_trans L p.keeps q.keeps

          told : Told H (label_of K a) (label_of K c) u
          told v d g r out e f s = elim (all.passed v out) [
            | inl same ↦ inl (sym same ∙ e)
            | inr on ↦ inr (inr (elim (either_option (away_in K hosts v)) [
              | inl none ↦ (let self = none_self K hosts v none in
                  let g_is : g ≡ K.zero = some_injective (rw self at f) ((ways S).self v) in
                  let r_is : d ≡ r = sym (plus_zero L d) ∙ plus_is L d K.zero r (rw g_is at s) in
                  record { value = d; is = ap (label_of K c) self ∙ e; upto = rw r_is (at_most_refl L r) })
              | inr some ↦ on d g r e (some.1 ∙ ap Some (some_injective (dist_is S (nearest v some.1).dist) f)) s
            ]))
          ]

          step23 : Step23 H (label_of K a) (label_of K b) (label_of K c) u
          step23 = record {
            lower = q.keeps.lower;
            above = sure_above S (q.sure home (p.sure home sure));
            legs = λ x y l d m f E.
                let A = away (ways S) f in
                let s = (ways S).short_leg x y d E in
                (two.each x (mine_in x m) (mine x m)).leg home (p.sure home sure) E.leg y l (plus K l d) E.joins.stands E.joins
                (exact x l m f) (dist_found S f) (rw E.costs (sum_plus L l d (omega (arith, A.short))));
            balls = λ x y z l d e m f E B g.
                let A = away (ways S) f in
                let A' = away (ways S) g in
                let s = (ways S).short_leg x y d E in
                (two.each x (mine_in x m) (mine x m)).ball home (p.sure home sure) E.leg y z l (plus K l d) e (plus K (plus K l d) e) E.joins.stands E.joins
                (exact x l m f) (dist_found S f) (rw E.costs (sum_plus L l d (omega (arith, A.short))))
                (ball_of y z B e g) (sum_plus L (plus K l d) e (omega (arith, size_plus L l d, A.short, A'.short)));
            to_host = told;
          }

          now_drawn : (x : ℕ) → drawn_of (pivot_in K hosts) (label_of K c) j.key x ≡ drawn_of (pivot_in K hosts) (label_of K a) h'.key x
          now_drawn = all.same_drawn

          pub ready_turned : Ready H (label_of K c) (drawn_of (pivot_in K hosts) (label_of K c) j.key)
          ready_turned = ready_again H ready held lowest (draws now_drawn) step1 step23

          -- one more pivot is drawn
          pub tally_turned : u < n → tally (drawn_of (pivot_in K hosts) (label_of K c) j.key) n ≡ tally (drawn_of (pivot_in K hosts) (label_of K a) h.key) n + 1
          tally_turned lt = tally_drawn (drawn_of (pivot_in K hosts) (label_of K a) h.key) n (draws now_drawn) lt held.undrawn

          pub tally_room : u < n → tally (drawn_of (pivot_in K hosts) (label_of K a) h.key) n + 1 ≤ n
          tally_room lt = omega (arith, tally_turned lt, tally_below (drawn_of (pivot_in K hosts) (label_of K c) j.key) n)

    -- the end: the queue is empty
    module _ {a : List (Label C)} {h : Held C} (matched : Matched K hosts a h)
        (ready : Ready H (label_of K a) (drawn_of (pivot_in K hosts) (label_of K a) h.key)) (none : (m : ℕ) → h.key m ≡ None) where
      empty : (p : ℕ) (k : C) → queues.Held (pivot_in K hosts) (label_of K a) (drawn_of (pivot_in K hosts) (label_of K a) h.key) p k → ⊥
      empty p k held =
          let q = waiting (pivot_in K hosts p) (label_of K a p) (h.key p) held.pivotal held.key held.undrawn in
          some_none q.1 (none p)

      pub all_told : (v : ℕ) → Tells W home v (label_of K a v)
      all_told = end_tells S dear (pivot_in K hosts) placed home (T_from_true (pivot_in K hosts home) home_pivot) ready empty

      pub all_counted : Counts (λ p. (pivot_in K hosts p ≡ true) × ((c : C) × Dist W home p c)) n (tally (drawn_of (pivot_in K hosts) (label_of K a) h.key) n)
      all_counted = tally_counts (drawn_of (pivot_in K hosts) (label_of K a) h.key) (λ p. (pivot_in K hosts p ≡ true) × ((c : C) × Dist W home p c))
          (drawn_are S dear (pivot_in K hosts) placed home (T_from_true (pivot_in K hosts home) home_pivot) ready empty) n

    -- the start: home alone has a label
    module _ {a : List (Label C)} {h j : Held C} (begun : Begun K home a h j) where
      pub none_drawn : (p : ℕ) → drawn_of (pivot_in K hosts) (label_of K a) j.key p ≡ false
      none_drawn p = rw begun.undrawn (and_right (pivot_in K hosts p) false refl)

      pub ready_first : Ready H (label_of K a) (drawn_of (pivot_in K hosts) (label_of K a) j.key)
      ready_first = ready_start H begun.first begun.alone none_drawn

      pub matched_first : length a ≡ n → length a ≤ h.span → Matched K hosts a j
      matched_first long span = record {
        long = housed.long ∙ sym long;
        span = omega (arith, begun.span);
        clean = begun.clean;
        keyed = record { agrees = begun.agrees; pivots = λ p k e. rw (begun.keys p k e) home_pivot };
        hosted = λ v c e. let N = housed.some v c e in (omega (arith, N.inside), is_true _ N.is_pivot);
      }

-- what holds between two draws, of whatever shows that the legs and the hosts are right
abbrev pub ReadyAt : {C : Type 0} {K : Kind C} → Water K → ℕ → List (Host C) → ℕ → List (Label C) → Held C → Type 0
ReadyAt {C} {K} W n hosts home labels h =
    (S : Sound W n) (dear : Dear W) (housed : Housed W n hosts) (home_pivot : pivot_in K hosts home ≡ true)
    → Ready (H S dear housed home home_pivot) (label_of K labels) (drawn_of (pivot_in K hosts) (label_of K labels) h.key)

pub counts_moved : {P : ℕ → Type 0} {n m c d : ℕ} → Counts P n c → n ≡ m → d ≡ c → Counts P m d
counts_moved k e f = rw f (rw e at k)
