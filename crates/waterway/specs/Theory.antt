-- What holds of every waterway whose costs are lawful, with at most 256 marks, and legs that each cost something, and not too much.
use Rattle.std.specs.Prelude.{◌≡◌, ℕ, ◌<◌, Bool, false, T, ◌⊎◌, List, length, Some, ◌≢◌}
use Rattle.std.specs.List.{ContainsAt as Has}
use Rattle.measure.specs.Kind.{Kind, AtMost}
use Rattle.waterway.specs.Ways.{Walk, Way, Water, cost, Dist, Apart, Sound, Dear}
use Rattle.waterway.specs.Hosts.{Host, Hostless, InBall, Ball, Bundle}
use Rattle.waterway.specs.Routes.{Nearer, Route}
use Rattle.waterway.specs.Counts.{Counts}
use Rattle.waterway.specs.Near.{BallRows}

pub record Distances {C : Type 0} {K : Kind C} (W : Water K) (n : ℕ) : Type 0 where
  -- a way has fewer legs than there are marks, and its cost is given
  pub few : (u v : ℕ) (ks ms : List ℕ) → Way W.legs u v ks ms → u < n → length ks < n
  pub given : (u v : ℕ) (ks ms : List ℕ) → Way W.legs u v ks ms → (c : C) × (cost W ks ≡ Some c)
  -- a walk can be cut to a way that costs no more
  pub cut : (u v : ℕ) (ks ms : List ℕ) (c : C) → Walk W.legs u v ks ms → cost W ks ≡ Some c
      → (js : List ℕ) × (ns : List ℕ) × (d : C) × Way W.legs u v js ns × (cost W js ≡ Some d) × AtMost K d c
  -- any two marks have no way or one distance
  pub exists : (u v : ℕ) → Apart W u v ⊎ ((c : C) × Dist W u v c)
  pub unique : (u v : ℕ) (c d : C) → Dist W u v c → Dist W u v d → c ≡ d
  -- a mark is nowhere away from itself, and any two are as far apart either way round
  pub self : (v : ℕ) → Dist W v v K.zero
  pub turned : (u v : ℕ) (c : C) → Dist W u v c → Dist W v u c
  -- no detour is shorter
  pub triangle : (u v w : ℕ) (a b : C) → Dist W u v a → Dist W v w b → (c : C) × (ab : C) × Dist W u w c × (K.sum a b ≡ Some ab) × AtMost K c ab
  -- from a mark a leg leads back to one that is nearer by just its price
  pub nearer : (u v : ℕ) (c : C) → Dist W u v c → (v ≢ u) → (k : ℕ) × (w : ℕ) × Nearer W u v k w
  -- each mark of a least way parts it into two least ways
  pub parts : (u v x : ℕ) (c : C) (D : Dist W u v c) → Has D.ms x → (a : C) × (b : C) × Dist W u x a × Dist W x v b × (K.sum a b ≡ Some c)
  -- so many marks have a way to u
  pub counted : (u : ℕ) → (m : ℕ) × Counts (λ v. (c : C) × Dist W u v c) n m

pub record HostsAndBalls {C : Type 0} {K : Kind C} (W : Water K) (n : ℕ) (pivot : ℕ → Bool) : Type 0 where
  -- a mark with a way to a pivot has one host, and a pivot is its own
  pub exists : (v : ℕ) → Hostless W n pivot v ⊎ ((u : ℕ) × (c : C) × Host W n pivot v u c)
  pub unique : (v u p : ℕ) (c d : C) → Host W n pivot v u c → Host W n pivot v p d → (u ≡ p) × (c ≡ d)
  pub own : (v : ℕ) → v < n → T (pivot v) → Host W n pivot v v K.zero
  -- no mark is in two bundles
  pub bundled : (v u p : ℕ) → Bundle W n pivot u v → Bundle W n pivot p v → u ≡ p
  -- the ball of a mark that has a host and is no pivot holds the mark, and without a host it is empty
  pub centre : (v u : ℕ) (c : C) → pivot v ≡ false → Host W n pivot v u c → InBall W n pivot v v K.zero
  pub empty : (v w : ℕ) → Hostless W n pivot v → Ball W n pivot v w → ⊥
  -- each ball can be written out in one way
  pub listed : (v : ℕ) → (rows : List (ℕ × C)) × BallRows W n pivot v rows
  pub one_list : (v : ℕ) (rows others : List (ℕ × C)) → BallRows W n pivot v rows → BallRows W n pivot v others → rows ≡ others

pub record Routes {C : Type 0} {K : Kind C} (W : Water K) (home : ℕ) : Type 0 where
  -- a mark with a way home has one route, which is a way and costs the distance
  pub exists : (v : ℕ) (c : C) → Dist W home v c → (ks : List ℕ) × Route W home v ks
  pub unique : (v : ℕ) (ks js : List ℕ) → Route W home v ks → Route W home v js → ks ≡ js
  pub way : (v : ℕ) (ks : List ℕ) → Route W home v ks → (ms : List ℕ) × Way W.legs home v ks ms
  pub least : (v : ℕ) (ks : List ℕ) → Route W home v ks → (c : C) × Dist W home v c × (cost W ks ≡ Some c)

-- all that, for one kind of cost

abbrev pub DistancesStand : {C : Type 0} → Kind C → Type 0
DistancesStand K = (W : Water K) (n : ℕ) → Sound W n → Distances W n

abbrev pub HostsAndBallsStand : {C : Type 0} → Kind C → Type 0
HostsAndBallsStand K = (W : Water K) (n : ℕ) → Sound W n → Dear W → (pivot : ℕ → Bool) → HostsAndBalls W n pivot

abbrev pub RoutesStand : {C : Type 0} → Kind C → Type 0
RoutesStand K = (W : Water K) (n : ℕ) → Sound W n → Dear W → (home : ℕ) → Routes W home
