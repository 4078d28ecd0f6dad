-- All hosts and the whole near table.
use Rattle.std.proofs.Common.{◌≡◌, ℕ, suc, ◌+◌, ◌-◌, min, ◌<◌, ◌≤◌, Bool, false, List, [], ◌∷◌, ◌++◌, map, length, get_or, take, drop, set, replicate, Some, None, sym, refl, ap, ◌∙◌, subst, inl, inr, add-one, arith, length-append, length-take, length-drop}
use mathlib.Core.Path.{fun_ext}
use native.Mathlib.Decide.{ℕ_discrete, dec_lt}
use lib.ListN.{length-replicate}
use borrow.Rule.Slice.PartMut.{put_mid}
use Rattle.std.proofs.lemmas.List.{get_or-set_same, get_or-set_other, get_or_past, get_or-take, get_or-drop, get_or_append_left, get_or-append_right, get_or-replicate, get_or-map, ext_get_or, length-map, length-take-le}
use Rattle.std.proofs.ByRecursion.{All-get_or}
use Rattle.std.specs.List.{ContainsAt as Has}
use Rattle.std.proofs.lemmas.Bool.{cases_Bool, cases_lt, eq-eqb, ne_eqb}
use Rattle.measure.specs.Kind.{Kind}
use Rattle.measure.proofs.Sums.{some_none}
use Rattle.waterway.specs.Ways.{Water, Sound, Dear}
use Rattle.waterway.specs.Counts.{Counts}
use Rattle.waterway.specs.Hosts.{Host as Nearest, InBall as Inside}
use Rattle.waterway.specs.Near.{none, then, NearTable, blank as blank_row}
use Rattle.waterway.proofs.Counted.{has_cases}
use Rattle.waterway.proofs.Balls as balls_are
use Rattle.waterway.proofs.Hosts as hosts_are
use Rattle.bundling.specs.declared.Host.{Host}
use Rattle.bundling.specs.declared.Near.{Near}
use Rattle.bundling.specs.Marks.{no_host, host_at, is_at, cost_of, pivot_in, host_in, away_in}
use Rattle.relaxing.specs.Search.{Housed, Balled, near_at, ball_in}
use Rattle.relaxing.proofs.Voyage.{counts_moved}
use Rattle.hosts.specs.Local.{pivot_of, pair, row, HostMade, HostRow, HostsMade, RowsBlank}
use Rattle.bundling.proofs.Queue.{true_false}
use Rattle.bundling.proofs.Pivots.{is_true}
use Rattle.bundling.proofs.Written.{either_option, cost_some}
use Rattle.hosts.proofs.Nearing.{hosted_in, made_pivot}

module _ {C : Type 0} {K : Kind C} {W : Water K} {n : ℕ} {pivots : List Bool} (hosts : List (Host C)) (near near' : List (Near C)) (i at : ℕ) (r : Host C) where
  pub hosts_more : i < length hosts → length near' ≡ length near → HostsMade W n pivots hosts near i at → HostMade W n pivots i at near near' r → HostsMade W n pivots (set hosts i r) near' (i + 1) r.end
  hosts_more lt long done now = record {
    each = λ x hi. elim (ℕ_discrete x i) [
      | yes e ↦ rw (e, get_or-set_same hosts i r (no_host K) lt) new
      | no e ↦ rw (get_or-set_other hosts i x r (no_host K) e) (old x (host_at K hosts x) (done.each x (omega arith)))
    ];
    rows = done.rows ++ now.rows;
    balls = rw add-one (then done.balls now.ball);
    many = omega (arith, done.many, now.ends, length-append done.rows now.rows);
    stand = record {
      each = λ j k e in_it room. elim (dec_lt j at) [
        | yes less ↦ ap pair (now.before k (omega arith)) ∙ (done.stand.each j k e (omega (arith, done.many)) (omega (arith, room, long))
            ∙ sym (get_or_append_left done.rows now.rows (0, K.zero) j (omega (arith, done.many))))
        | no past ↦ now.stand.each (j - at) k (omega (arith, e)) (omega (arith, in_it, done.many, length-append done.rows now.rows)) room
            ∙ sym (get_or-append_right done.rows now.rows at j (0, K.zero) done.many (omega arith))
      ];
    };
  }
    where
      new : HostRow W n pivots near' i r.end r
      new = record {
        host = now.host;
        rows = now.rows;
        ball = now.ball;
        ends = omega (arith, now.ends, now.starts);
        fits = omega arith;
        stand = record { each = λ j k e in_it room. now.stand.each j k (omega (arith, e, now.starts)) in_it room };
      }

      old : (x : ℕ) (h : Host C) → HostRow W n pivots near x at h → HostRow W n pivots near' x r.end h
      old x h d = record {
        host = d.host;
        rows = d.rows;
        ball = d.ball;
        ends = d.ends;
        fits = omega (arith, d.fits, now.ends);
        stand = record { each = λ j k e in_it room. ap pair (now.before k (omega (arith, d.ends, d.fits, e, in_it))) ∙ d.stand.each j k e in_it (omega (arith, room, long)) };
      }

  pub hosts_none : HostsMade W n pivots hosts near 0 0
  hosts_none = record { each = λ x lt. absurd (omega arith); rows = []; balls = none; many = refl; stand = record { each = λ j k e lt. absurd (omega arith) } }

-- what is written past all balls changes none of them
module _ {C : Type 0} {K : Kind C} {W : Water K} {n : ℕ} {pivots : List Bool} (hosts : List (Host C)) (near near' : List (Near C)) (i at : ℕ) (long : length near' ≡ length near)
    (same : (j : ℕ) → j < at → near_at K near' j ≡ near_at K near j) where
  pub hosts_kept : HostsMade W n pivots hosts near i at → HostsMade W n pivots hosts near' i at
  hosts_kept done = record {
    each = λ x lt. let d = done.each x lt in record {
      host = d.host;
      rows = d.rows;
      ball = d.ball;
      ends = d.ends;
      fits = d.fits;
      stand = record { each = λ j k e in_it room. ap pair (same k (omega (arith, d.ends, d.fits, e, in_it))) ∙ d.stand.each j k e in_it (omega (arith, room, long)) };
    };
    rows = done.rows;
    balls = done.balls;
    many = done.many;
    stand = record { each = λ j k e in_it room. ap pair (same k (omega (arith, done.many, e, in_it))) ∙ done.stand.each j k e in_it (omega (arith, room, long)) };
  }

  -- the balls, and then blanks
  pub near_table : at ≤ length near' → HostsMade W n pivots hosts near n at → ((j : ℕ) → at ≤ j → j < length near' → pair (near_at K near' j) ≡ blank_row K)
      → NearTable W n (pivot_of pivots) (map pair near')
  near_table room done blank =
      let rest = length near' - at in
      let sizes = length-append done.rows (replicate rest (blank_row K)) in
      let many = length-replicate rest (blank_row K) in
      let all = length-map near' pair in
      record {
        rows = done.rows;
        blanks = rest;
        balls = done.balls;
        is = ext_get_or (0, K.zero) (map pair near') (done.rows ++ replicate rest (blank_row K)) (omega (arith, sizes, many, all, done.many)) (λ j lt.
            get_or-map pair near' j (record { mark = 0; cost = K.zero }) (0, K.zero) (omega (arith, all)) ∙ elim (dec_lt j at) [
              | yes less ↦ ap pair (same j less) ∙ (done.stand.each j j (omega arith) (omega (arith, done.many)) (omega (arith, all, long))
                  ∙ sym (get_or_append_left done.rows (replicate rest (blank_row K)) (0, K.zero) j (omega (arith, done.many))))
              | no past ↦ blank j (omega arith) (omega (arith, all))
                  ∙ sym (get_or-append_right done.rows (replicate rest (blank_row K)) at j (0, K.zero) done.many (omega arith) ∙ get_or-replicate rest (j - at) (blank_row K) (0, K.zero) (omega (arith, all)))
            ]);
      }

-- a member has a row
row_of : {C : Type 0} (rows : List (ℕ × C)) (w : ℕ) (z : ℕ × C) → Has (map (λ r. r.0) rows) w → (k : ℕ) × (k < length rows) × ((get_or rows k z).0 ≡ w)
row_of [] w z h = let lt = h.1 in absurd (omega arith)
row_of (r ∷ rows) w z h = elim (has_cases r.0 w (map (λ r. r.0) rows) h) [
  | inl e ↦ (0, omega arith, e)
  | inr g ↦ (let o = row_of rows w z g in (suc o.0, omega (arith, o.1), o.2))
]

module _ {C : Type 0} {K : Kind C} {W : Water K} {n : ℕ} (S : Sound W n) (dear : Dear W) (pivots : List Bool) (hosts : List (Host C)) (near : List (Near C)) (at : ℕ)
    (long : length hosts ≡ n) (many : length pivots ≡ n) (made : HostsMade W n pivots hosts near n at) (room : at ≤ length near) where
  none_past : (v : ℕ) → n ≤ v → host_at K hosts v ≡ no_host K
  none_past v past = get_or_past hosts v (no_host K) (omega arith)

  known_host : (v : ℕ) → v < n → {p : Near C} → (host_at K hosts v).pivot ≡ Some p → Nearest W n (pivot_of pivots) v p.mark p.cost
  known_host v lt k = rw k at (made.each v lt).host

  unknown_host : (v : ℕ) → v < n → (host_at K hosts v).pivot ≡ None → (u : ℕ) (c : C) → Nearest W n (pivot_of pivots) v u c → ⊥
  unknown_host v lt k = rw k at (made.each v lt).host

  pub same_pivots : (p : ℕ) → pivot_in K hosts p ≡ pivot_of pivots p
  unfolding pivot_in
  same_pivots p = elim (cases_lt p n) [
    | inr past ↦ ap (λ (z : Host C). is_at z.pivot p) (none_past p past) ∙ sym (get_or_past pivots p false (omega arith))
    | inl lt ↦ elim (cases_Bool (pivot_of pivots p)) [
      | inl is ↦ (let own = (made_pivot S dear pivots p lt 0 near is).host in
          elim (either_option (host_at K hosts p).pivot) [
            | inl k ↦ absurd (unknown_host p lt k p K.zero own)
            | inr k ↦ ap (λ o. is_at o p) k.1 ∙ (eq-eqb k.0.mark p (hosts_are.host_unique S (pivot_of pivots) (known_host p lt k.1) own).0 ∙ sym is)
          ])
      | inr is ↦ elim (either_option (host_at K hosts p).pivot) [
        | inl k ↦ ap (λ o. is_at o p) k ∙ sym is
        | inr k ↦ ap (λ o. is_at o p) k.1
            ∙ (ne_eqb k.0.mark p (λ e. let t = (known_host p lt k.1).is_pivot in true_false (is_true _ (rw e at t)) is) ∙ sym is)
      ]
    ]
  ]

  turn : pivot_in K hosts ≡ pivot_of pivots
  turn = fun_ext same_pivots

  away_known : (v : ℕ) (c : C) → away_in K hosts v ≡ Some c → (host_at K hosts v).pivot ≡ Some (row (host_in K hosts v) c)
  unfolding away_in host_in
  away_known v c e = cost_some (host_at K hosts v).pivot v e

  away_unknown : (v : ℕ) → away_in K hosts v ≡ None → (host_at K hosts v).pivot ≡ None
  unfolding away_in
  away_unknown v e = elim (either_option (host_at K hosts v).pivot) [ inl k ↦ k | inr k ↦ some_none (ap cost_of k.1) e ]

  known_in : (v : ℕ) {p : Near C} → (host_at K hosts v).pivot ≡ Some p → v < n
  known_in v k = elim (cases_lt v n) [ inl lt ↦ lt | inr past ↦ some_none k (ap (λ (z : Host C). z.pivot) (none_past v past)) ]

  pub all_housed : Housed W n hosts
  all_housed = record {
    long = long;
    some = λ v c e. let k = away_known v c e in rw turn (known_host v (known_in v k) k);
    none = λ v u c e N. unknown_host v (hosted_in S N) (away_unknown v e) u c (rw turn at N);
  }

  -- the ball of a mark is what was written of it
  ball_long : (v : ℕ) → length (ball_in K hosts near v) ≡ min ((host_at K hosts v).end - (host_at K hosts v).start) (length near - (host_at K hosts v).start)
  ball_long v = length-take ((host_at K hosts v).end - (host_at K hosts v).start) (drop (host_at K hosts v).start near)
      ∙ ap (min ((host_at K hosts v).end - (host_at K hosts v).start)) (length-drop (host_at K hosts v).start near)

  row_in : (v : ℕ) {j : ℕ} → j < length (ball_in K hosts near v) → v < n
  row_in v lt = elim (cases_lt v n) [ inl in_it ↦ in_it | inr past ↦ absurd (omega (arith, lt, ball_long v, ap (λ (z : Host C). z.end) (none_past v past))) ]

  rows_are : (v : ℕ) (v_in : v < n) (j : ℕ) → j < length (made.each v v_in).rows
      → (j < length (ball_in K hosts near v)) × (pair (near_at K (ball_in K hosts near v) j) ≡ get_or (made.each v v_in).rows j (0, K.zero))
  rows_are v v_in j lt =
      let m = made.each v v_in in
      let s = (host_at K hosts v).start in
      let in_it : j < (host_at K hosts v).end - s = omega (arith, m.ends, lt) in
      let z : Near C = record { mark = 0; cost = K.zero } in (
        omega (arith, ball_long v, in_it, m.fits, m.ends),
        ap pair (get_or-take ((host_at K hosts v).end - s) (drop s near) j z in_it ∙ get_or-drop s near j z) ∙ m.stand.each j (s + j) refl lt (omega (arith, m.ends, m.fits, lt)),
      )

  row_stands : (v : ℕ) (v_in : v < n) (w : ℕ) → Has (map (λ r. r.0) (made.each v v_in).rows) w → (j : ℕ) × (j < length (ball_in K hosts near v)) × ((near_at K (ball_in K hosts near v) j).mark ≡ w)
  row_stands v v_in w h =
      let r = row_of (made.each v v_in).rows w (0, K.zero) h in
      let is = rows_are v v_in r.0 r.1 in
      (r.0, is.0, ap (λ (z : ℕ × C). z.0) is.1 ∙ r.2)

  ball_row : (v j : ℕ) → j < length (ball_in K hosts near v) → Inside W n (pivot_of pivots) v (near_at K (ball_in K hosts near v) j).mark (near_at K (ball_in K hosts near v) j).cost
  ball_row v j hi =
      let v_in = row_in v hi in
      let m = made.each v v_in in
      let lt : j < length m.rows = omega (arith, hi, ball_long v, m.ends) in
      let B = All-get_or (λ (z : ℕ × C). Inside W n (pivot_of pivots) v z.0 z.1) m.rows j (0, K.zero) lt m.ball.costs in
      subst (λ (z : ℕ × C). Inside W n (pivot_of pivots) v z.0 z.1) (sym (rows_are v v_in j lt).1) B

  pub all_balled : Balled W n hosts near
  all_balled = record {
    fits = λ v. elim (cases_lt v n) [
      | inl lt ↦ (let m = made.each v lt in (omega (arith, m.ends), omega (arith, m.fits)))
      | inr past ↦ rw (none_past v past) (omega arith, omega arith)
    ];
    inside = λ v j hi. balls_are.ball_marks S (pivot_of pivots) ((near_at K (ball_in K hosts near v) j).cost, ball_row v j hi) (row_in v hi);
    only = λ v j hi. rw turn (ball_row v j hi);
    every = λ v w d B.
        let lt = hosted_in S B.is_host in
        let B' = rw turn at B in
        row_stands v lt w ((made.each v lt).ball.members.every w (balls_are.ball_marks S (pivot_of pivots) (d, B') lt) (d, B'));
  }

pub made_moved : {C : Type 0} {K : Kind C} {W : Water K} {n m : ℕ} {pivots : List Bool} {v first : ℕ} {near near' : List (Near C)} {r : Host C} → HostMade W n pivots v first near near' r → n ≡ m → HostMade W m pivots v first near near' r
made_moved s e = rw e at s

pub all_made : {C : Type 0} {K : Kind C} {W : Water K} {n i m : ℕ} {pivots : List Bool} {hosts : List (Host C)} {near : List (Near C)} {at : ℕ} → HostsMade W n pivots hosts near i at → i ≡ m → HostsMade W n pivots hosts near m at
all_made s e = rw e at s

pub counts_as : {P Q : ℕ → Type 0} {n m c d : ℕ} → Counts P n c → n ≡ m → d ≡ c → ((p : ℕ) → P p → Q p) → ((p : ℕ) → Q p → P p) → Counts Q m d
counts_as k e f to from =
    let l = k.lists in
    counts_moved (record {
      those = k.those;
      lists = record { rising = l.rising; only = λ x h. let o = l.only x h in (o.0, to x o.1); every = λ x lt q. l.every x lt (from x q) };
      many = k.many;
    }) e f

-- rows that are filled from `start` on
module _ {C : Type 0} (K : Kind C) (near rows : List (Near C)) (start from : ℕ) (from_is : from ≡ min start (length near))
    {k : ℕ} (is : rows ≡ replicate k (record { mark = 65535; cost = K.zero })) (k_is : k ≡ length near - from) where
  abbrev no_row : Near C
  no_row = record { mark = 0; cost = K.zero }

  abbrev filled : List (Near C)
  filled = put_mid from (length near - from) near rows

  many : length rows ≡ length near - from
  many = ap length is ∙ (length-replicate k (record { mark = 65535; cost = K.zero }) ∙ k_is)

  before_long : length (take from near) ≡ from
  before_long = length-take-le from near (omega (arith, from_is))

  filled_long : length filled ≡ length near
  filled_long =
      let rest = drop (length near - from) (drop from near) in
      omega (arith, from_is, before_long, many, length-append (take from near) (rows ++ rest), length-append rows rest, length-drop (length near - from) (drop from near), length-drop from near)

  pub rows_blank : RowsBlank K near filled start (length filled)
  rows_blank = record {
    before = λ j lt. elim (dec_lt j from) [
      | yes less ↦ get_or_append_left (take from near) (rows ++ drop (length near - from) (drop from near)) no_row j (omega (arith, before_long)) ∙ get_or-take from near j no_row less
      | no past ↦ get_or_past filled j no_row (omega (arith, filled_long, from_is)) ∙ sym (get_or_past near j no_row (omega (arith, from_is)))
    ];
    blank = λ j lo hi.
        let rest = drop (length near - from) (drop from near) in
        let in_it : j - from < length rows = omega (arith, hi, filled_long, many, from_is) in
        ap pair (get_or-append_right (take from near) (rows ++ rest) from j no_row before_long (omega (arith, from_is, lo))
        ∙ (get_or_append_left rows rest no_row (j - from) in_it ∙ rw is (get_or-replicate k (j - from) (record { mark = 65535; cost = K.zero }) no_row (omega (arith, in_it, many, k_is)))));
  }
