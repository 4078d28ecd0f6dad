-- The search round one mark: every mark is its own host.
use Rattle.std.proofs.Common.{◌≡◌, ℕ, ◌-◌, ◌^◌, ◌<◌, ◌≤◌, Bool, true, false, ◌⊎◌, List, [], length, drop, Some, None, Option, sym, refl, ap, ◌∙◌, inl, inr, arith, length-take}
use Rattle.std.proofs.lemmas.List.{get_or_past}
use Rattle.std.proofs.lemmas.Bool.{cases_Bool, cases_lt, eq-eqb}
use Rattle.measure.specs.Kind.{Kind, Lawful}
use Rattle.measure.proofs.Sums.{some_none, some_injective, at_most_refl, at_most_trans, plus_zero, plus_is}
use Rattle.queue.specs.Held.{Held, Alike, drawn as without}
use Rattle.queue.specs.Calls.{Least}
use Rattle.waterway.specs.Ways.{Water, Sound, Dear}
use Rattle.waterway.specs.Hosts.{Host as Nearest}
use Rattle.waterway.proofs.Bills as bills
use Rattle.waterway.proofs.Hosts as hosts_are
use Rattle.waterway.proofs.Distance.{dist_found, dist_is}
use Rattle.waterway.specs.declared.Label.{Label}
use Rattle.bundling.specs.declared.Host.{Host}
use Rattle.waterway.specs.Labels.{label_of}
use Rattle.bundling.specs.Marks.{no_host, host_at, mark_or, pivot_in, host_in, away_in}
use Rattle.relaxing.specs.Offers.{Matched, drawn_of}
use Rattle.bundling.specs.declared.Near.{Near}
use Rattle.relaxing.specs.Search.{Housed, Balled, Ran, Mine, StepOne, StepTwo, SpreadLegs, ball_in}
use Rattle.hosts.specs.declared.rounds.Round.{Round}
use Rattle.hosts.specs.Rounds.{Lone}
use Rattle.relaxing.specs.Bundles.{waters, Right}
use Rattle.waterway.proofs.Priced.{priced_sound, priced_dear}
use Rattle.std.specs.Option.{option_or}
use Rattle.std.specs.Bool.{then_some}
use Rattle.measure.specs.Legal.{Legal}
use Rattle.hosts.specs.Local.{Selves, pivot_of, Around, Past, Found}
use Rattle.hosts.proofs.Nearing.{hosted_in}
use Rattle.bundling.proofs.Queue.{true_false}
use Rattle.bundling.proofs.Nearby.{away}
use Rattle.bundling.proofs.Steps.{Ready}
use Rattle.bundling.proofs.Draw.{key_upto}
use Rattle.relaxing.proofs.Runs.{within_reach}
use Rattle.std.proofs.lemmas.Float.{T_from_true as holds}
use Rattle.relaxing.proofs.Runs.{ran_refl}
use Rattle.relaxing.proofs.Voyage.{H, ReadyAt, drawn_inside, held, lowest, at_u, all_told}
use Rattle.relaxing.proofs.Turns.{drawn_in, turn_matched, turn_ready, turn_falls}

module _ {C : Type 0} {K : Kind C} {selves : List (Host C)} {n : ℕ} (lone : Selves K selves n) where
  self_host : (v : ℕ) → v < n → host_in K selves v ≡ v
  unfolding host_in
  self_host v lt = rw (lone.each v lt)

  self_away : (v : ℕ) → v < n → away_in K selves v ≡ Some K.zero
  unfolding away_in
  self_away v lt = rw (lone.each v lt)

  pub self_pivot : (v : ℕ) → v < n → pivot_in K selves v ≡ true
  unfolding pivot_in
  self_pivot v lt = rw (lone.each v lt) (eq-eqb v v refl)

  none_past : (v : ℕ) → n ≤ v → host_at K selves v ≡ no_host K
  none_past v past = get_or_past selves v (no_host K) (omega (arith, lone.long))

  away_past : (v : ℕ) → n ≤ v → away_in K selves v ≡ None
  unfolding away_in
  away_past v past = rw (none_past v past)

  away_in_marks : (v : ℕ) (c : C) → away_in K selves v ≡ Some c → (v < n) × (c ≡ K.zero)
  away_in_marks v c e = elim (cases_lt v n) [
    | inl lt ↦ (lt, some_injective e (self_away v lt))
    | inr past ↦ some_none e (away_past v past)
  ]

  mine_self : {u v : ℕ} → Mine K selves u v → v < n → v ≡ u
  mine_self {u} {v} mine lt = ap (λ o. mark_or o v) (sym (ap (λ (z : Host C). z.pivot) (lone.each v lt)) ∙ mine.pivot)

  end_zero : (v : ℕ) → ((host_at K selves v).start ≡ 0) × ((host_at K selves v).end ≡ 0)
  end_zero v = elim (cases_lt v n) [
    | inl lt ↦ (ap (λ (z : Host C). z.start) (lone.each v lt), ap (λ (z : Host C). z.end) (lone.each v lt))
    | inr past ↦ (ap (λ (z : Host C). z.start) (none_past v past), ap (λ (z : Host C). z.end) (none_past v past))
  ]

  no_row : (v : ℕ) {j : ℕ} → j < length (ball_in K selves [] v) → ⊥
  no_row v lt =
      let rest : List (Near C) = drop (host_at K selves v).start [] in
      omega (arith, lt, length-take ((host_at K selves v).end - (host_at K selves v).start) rest, (end_zero v).1)

  module _ {W : Water K} (S : Sound W n) (dear : Dear W) where
    open S use {lawful as L}

    pub selves_housed : Housed W n selves
    selves_housed = record { long = lone.long; some = here; none = λ v u c e N. some_none (self_away v (hosted_in S N)) e }
      where
        here : (v : ℕ) (c : C) → away_in K selves v ≡ Some c → Nearest W n (pivot_in K selves) v (host_in K selves v) c
        here v c e =
            let i = away_in_marks v c e in
            rw (self_host v i.0, i.1) (hosts_are.host_own S (pivot_in K selves) dear i.0 (holds (pivot_in K selves v) (self_pivot v i.0)))

    pub selves_balled : Balled W n selves []
    selves_balled = record {
      fits = λ v. let z = end_zero v in (omega (arith, z.0, z.1), omega (arith, z.1));
      inside = λ v j hi. absurd (no_row v hi);
      only = λ v j hi. absurd (no_row v hi);
      every = λ v w d B. true_false (self_pivot v (hosted_in S B.is_host)) B.no_pivot;
    }

    -- a turn of the search: step 1 has nothing to do, and step 2 is for u alone
    pub one_self : (a : List (Label C)) (u : ℕ) → StepOne W selves [] a a u n
    one_self a u = record {
      each = λ x lt mine. record {
        own = record {
          each = λ s sure l e r f D g h.
              let e_is = some_injective g (self_away x lt) in
              let r_is : l ≡ r = sym (plus_zero L l) ∙ plus_is L l K.zero r (rw e_is at h) in
              record { value = l; is = rw (self_host x lt) at f; upto = rw r_is (at_most_refl L r) };
        };
        ball = record { each = λ j hi. absurd (no_row x hi) };
      };
    }

    pub two_self : {a c : List (Label C)} (u : ℕ) → SpreadLegs W n selves a c (length W.legs) u → StepTwo W n selves a c u n
    two_self u done = record { each = λ x lt mine. rw (mine_self mine lt) done }

    module _ (v : ℕ) (v_in : v < n) {a : List (Label C)} {h : Held C} (matched : Matched K selves a h) (ready_at : ReadyAt W n selves v a h) (pivots : List Bool) where
      pivot : pivot_in K selves v ≡ true
      pivot = self_pivot v v_in

      ready : Ready (H S dear selves_housed v pivot) (label_of K a) (drawn_of (pivot_in K selves) (label_of K a) h.key)
      ready = ready_at S dear selves_housed pivot

      -- the search stops at a key past the best
      module _ {u : ℕ} {k : C} (least : Least K.Below h u k) where
        pub found_more : {best next : Option C} → Found W n pivots v best → (next ≡ best) ⊎ ((pivot_of pivots u ≡ true) × (next ≡ Some k)) → Found W n pivots v next
        found_more f (inl e) = rw e f
        found_more f (inr e) = rw e.1 (
          u,
          drawn_inside S dear selves_housed v pivot matched ready least,
          e.0,
          dist_found S (at_u S dear selves_housed v pivot matched ready least).is,
        )

        pub around_past : (best : Option C) → Found W n pivots v best → Past K best k → Around W n pivots v a
        around_past None f past = absurd past
        around_past (Some b) f past = record {
          sure = λ w c e. within_reach S (ready.above w c e);
          exact = λ w d D upto.
              let w_in = bills.walk_ends S D.way.walk v_in in
              let hosts = H S dear selves_housed v pivot in
              elim (cases_Bool (drawn_of (pivot_in K selves) (label_of K a) h.key w)) [
                | inl yes_drawn ↦ ready.exact w (rw (self_host w w_in) yes_drawn) ∙ dist_is S D
                | inr un ↦ (let far = key_upto hosts ready (held S dear selves_housed v pivot matched ready least) (lowest S dear selves_housed v pivot matched ready least)
                    (self_pivot w w_in) un (away hosts.ways (dist_is S D)) in
                    absurd (at_most_trans L far (upto f.0 b f.1 f.2 f.3) past))
              ];
        }

      pub around_end : ((m : ℕ) → h.key m ≡ None) → Around W n pivots v a
      around_end none = record {
        sure = λ w c e. within_reach S (ready.above w c e);
        exact = λ w d D upto. ((all_told S dear selves_housed v pivot matched ready none w).some d).1 D;
      }

-- one turn of the search: u is drawn, and offers its label on
module _ {C : Type 0} {K : Kind C} {selves : List (Host C)} {n : ℕ} (lone : Selves K selves n) {W : Water K} (S : Sound W n) (dear : Dear W) (v : ℕ) (v_in : v < n)
    {a b : List (Label C)} {h i j : Held C} (matched : Matched K selves a h) (ready : ReadyAt W n selves v a h) {u : ℕ} {k : C} (least : Least K.Below h u k)
    (after : Alike i (without h u)) (ran : Ran W selves a i b j) (spread : SpreadLegs W n selves a b (length W.legs) u) where
  one_ran : Ran W selves a i a i
  one_ran = ran_refl S.lawful a i (turn_matched S dear (selves_housed lone S dear) v (self_pivot lone v v_in) matched ready least after)

  pub round_ready : ReadyAt W n selves v b j
  round_ready = turn_ready S dear (selves_housed lone S dear) v (self_pivot lone v v_in) matched ready least after (selves_balled lone S dear) one_ran (one_self lone S dear a u) ran (two_self lone S dear u spread)

  pub round_falls : n - drawn_in K selves n b j < n - drawn_in K selves n a h
  round_falls = turn_falls S dear (selves_housed lone S dear) v (self_pivot lone v v_in) matched ready least after (selves_balled lone S dear) one_ran (one_self lone S dear a u) ran (two_self lone S dear u spread)

-- the best after a draw
pub or_then : {C : Type 0} (best : Option C) (b : Bool) {k k' : C} {some next : Option C} → next ≡ option_or best some → some ≡ then_some b k' → k' ≡ k → (next ≡ best) ⊎ ((b ≡ true) × (next ≡ Some k))
or_then (Some x) b e f g = inl e
or_then None true e f g = inr (refl, e ∙ (f ∙ ap Some g))
or_then None false e f g = inl (e ∙ f)

pub past_is : {C : Type 0} (K : Kind C) (best : Option C) {k k' : C} → Past K best k' → k' ≡ k → Past K best k
past_is K best h e = rw e at h

-- what a search round v stands on
pub record Grounds {C : Type 0} {K : Kind C} (W : Water K) (selves : List (Host C)) (v : ℕ) : Type 0 where
  pub sound : Sound W (length selves)
  pub dear : Dear W
  pub housed : Housed W (length selves) selves
  pub v_in : v < length selves
  pub pivot : pivot_in K selves v ≡ true

module _ {M C : Type 0} {K : Kind C} (priced : M → ℕ → ℕ → C) (r : Round M C) (lone : Lone K r) where
  pub grounds : Lawful K → ((m : M) (long locks : ℕ) → Legal long locks → K.size (priced m long locks) ≤ 2 ^ 36)
      → ((m : M) (long locks : ℕ) → Legal long locks → K.Below K.zero (priced m long locks))
      → {v n : ℕ} → v < n → n ≡ length r.bundles.hosts.now → Grounds (waters K priced r.bundles) r.bundles.hosts.now v
  grounds lawful small dear inside long =
      let m = r.bundles.measure.now in
      let S = priced_sound K (priced m) lone.chart lawful (small m) in
      let D = priced_dear K (priced m) lone.chart (dear m) in
      let v_in = rw long at inside in
      record { sound = S; dear = D; housed = selves_housed lone.selves S D; v_in = v_in; pivot = self_pivot lone.selves _ v_in }

  pub lone_right : {v : ℕ} → Grounds (waters K priced r.bundles) r.bundles.hosts.now v → Right K priced r.bundles
  lone_right G = record { chart = lone.chart; housed = G.housed; balled = rw lone.no_rows (selves_balled lone.selves G.sound G.dear) }
