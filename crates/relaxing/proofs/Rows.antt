-- Rows of the near table, and hosts, as they are read.
use Rattle.std.proofs.Common.{◌+◌, ◌≤◌, ◌∷◌, drop, length-drop, ◌≡◌, ℕ, ◌<◌, false, List, length, get_or, Some, sym, refl, ap, ◌∙◌, arith}
use Rattle.std.proofs.lemmas.List.{get_or_read, drop_more}
use Rattle.std.proofs.lemmas.Bool.{eq-eqb}
use Rattle.measure.specs.Kind.{Kind}
use Rattle.waterway.specs.Ways.{Water, Dist, Sound}
use Rattle.waterway.proofs.Metric as metric
use Rattle.bundling.specs.declared.Host.{Host}
use Rattle.bundling.specs.declared.Near.{Near}
use Rattle.bundling.specs.Marks.{is_at, mark_or, cost_of, pivot_in, host_in, away_in}
use Rattle.queue.specs.Held.{Held}
use Rattle.waterway.specs.declared.Label.{Label}
use Rattle.relaxing.specs.Offers.{Matched}
use Rattle.relaxing.specs.Search.{Housed, Mine, near_at}
use Rattle.bundling.proofs.Queue.{true_false}
use Rattle.bundling.proofs.Written.{host_read, pivot_read, mark_read, away_read}

module _ {C : Type 0} (K : Kind C) (rows : List (Near C)) (j : ℕ) (y : Near C) (lt : j < length rows) (e : y ≡ get_or rows j y) where
  pub near_read : near_at K rows j ≡ y
  near_read = sym (get_or_read rows j y lt e (record { mark = 0; cost = K.zero }))

-- one turn of a loop over rows that are numbered
module _ {A : Type 0} (xs : List A) (v : ℕ) where
  pub row_next : {x : A} {rest : List A} → drop v xs ≡ x ∷ rest → (v < length xs) × (((d : A) → x ≡ get_or xs v d) × (drop (v + 1) xs ≡ rest))
  row_next {x} {rest} e =
      let lt : v < length xs = omega (arith, ap length e, length-drop v xs) in (
        lt,
        (λ d. sym (ap (λ l. get_or l 0 d) (sym (drop_more xs v d lt) ∙ e)), ap (drop 1) (sym (drop_more xs v x lt) ∙ e)),
      )

  pub rows_end : {rest : List A} → drop v xs ≡ rest → length rest ≡ 0 → length xs ≤ v
  rows_end e none = omega (arith, ap length e, none, length-drop v xs)

-- the host of a mark that has a label's place, as it is read
module _ {C : Type 0} {K : Kind C} {hosts : List (Host C)} {labels : List (Label C)} {h : Held C} (matched : Matched K hosts labels h) {v : ℕ} (inside : v < length labels)
    {x : Host C} (e : x ≡ get_or hosts v x) where
  in_hosts : v < length hosts
  in_hosts = omega (arith, matched.long)

  pub pivot_is : pivot_in K hosts v ≡ is_at x.pivot v
  pivot_is = pivot_read K hosts v x in_hosts e

  pub mark_is : host_in K hosts v ≡ mark_or x.pivot v
  mark_is = mark_read K hosts v x in_hosts e

  pub away_is : away_in K hosts v ≡ cost_of x.pivot
  away_is = away_read K hosts v x in_hosts e

  module _ {p : Near C} (some : x.pivot ≡ Some p) where
    pub pivot_host : host_in K hosts v ≡ p.mark
    pivot_host = mark_is ∙ ap (λ o. mark_or o v) some

    pub pivot_away : away_in K hosts v ≡ Some p.cost
    pivot_away = away_is ∙ ap cost_of some

    pub pivot_dist : {W : Water K} {n : ℕ} → Sound W n → Housed W n hosts → Dist W p.mark v p.cost
    pivot_dist S housed = metric.dist_turned S (rw pivot_host at (housed.some v p.cost pivot_away).dist)

-- what u hosts
module _ {C : Type 0} {K : Kind C} {hosts : List (Host C)} {u v : ℕ} (mine : Mine K hosts u v) where
  pub mine_away : away_in K hosts v ≡ Some mine.away
  unfolding away_in
  mine_away = rw mine.pivot

module _ {C : Type 0} (K : Kind C) (hosts : List (Host C)) (u v : ℕ) (x : Host C) (lt : v < length hosts) (e : x ≡ get_or hosts v x) where
  pub mine_not : is_at x.pivot u ≡ false → Mine K hosts u v → ⊥
  mine_not k mine = true_false (ap (λ o. is_at o u) (sym (ap (λ (z : Host C). z.pivot) (host_read K hosts v x lt e)) ∙ mine.pivot) ∙ eq-eqb u u refl) k
