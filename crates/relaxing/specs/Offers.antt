-- What an offer of a cost to a mark does to the labels and to the queue.
use Rattle.std.specs.Prelude.{◌≡◌, ℕ, ◌<◌, ◌≤◌, Bool, true, false, not, ◌&&◌, ◌⊎◌, List, length, is_some, Some, None, Option, ◌≢◌, slice_index_or}
use Rattle.measure.specs.Kind.{Kind}
use Rattle.queue.specs.Held.{Held}
use Rattle.waterway.specs.declared.Label.{Label}
use Rattle.bundling.specs.declared.Host.{Host}
use Rattle.relaxing.specs.declared.offers.Fall.{Fall}
use Rattle.relaxing.specs.declared.offers.Fall.TheVariants.{Not, First, Again}
use Rattle.waterway.specs.Labels.{Within, Lower, Wrote, Clean, unlabelled, label_of}
use Rattle.bundling.specs.Marks.{pivot_in, host_in, away_in}

-- whether the label of y fell to r
abbrev pub Fallen : {C : Type 0} → Kind C → (ℕ → Option C) → (ℕ → Option C) → ℕ → C → Fall → Type 0
Fallen K label label' y r Not = ((v : ℕ) → label' v ≡ label v) × Within K (label y) r
Fallen K label label' y r First = (label y ≡ None) × Wrote label label' y r
Fallen {C} K label label' y r Again = ((l : C) → label y ≡ Some l → K.Below r l) × ((label y ≢ None) × Wrote label label' y r)

-- each key is the label of its mark
abbrev pub Agrees : {C : Type 0} → (ℕ → Option C) → (ℕ → Option C) → Type 0
Agrees {C} label key = (p : ℕ) (k : C) → key p ≡ Some k → label p ≡ Some k

-- a mark with a label and no key
abbrev pub out : {C : Type 0} → (ℕ → Option C) → (ℕ → Option C) → ℕ → Bool
out label key p = is_some (label p) && not (is_some (key p))

-- an offer of r to the mark y, which the queue may hold
pub record Offered {C : Type 0} (K : Kind C) (label label' key key' : ℕ → Option C) (y : ℕ) (r : C) : Type 0 where
  pub lower : Lower K label label'
  pub within : Within K (label' y) r
  pub change : (v : ℕ) → (label' v ≡ label v) ⊎ ((v ≡ y) × (label' v ≡ Some r))
  pub agrees : Agrees label' key'
  pub keys : (v : ℕ) → (v ≢ y) → key' v ≡ key v
  pub same_out : (v : ℕ) → out label' key' v ≡ out label key v

-- the queue holds only pivots, each with its label for the key
pub record Keyed {C : Type 0} (pivot : ℕ → Bool) (label key : ℕ → Option C) : Type 0 where
  pub agrees : Agrees label key
  pub pivots : (p : ℕ) (k : C) → key p ≡ Some k → pivot p ≡ true

-- a pivot with a label that the queue does not hold is drawn
abbrev pub drawn_of : {C : Type 0} → (ℕ → Bool) → (ℕ → Option C) → (ℕ → Option C) → ℕ → Bool
drawn_of pivot label key p = pivot p && out label key p

-- step 3: a mark whose label has changed has offered it to its host
abbrev pub Passed : {C : Type 0} → Kind C → (ℕ → Bool) → (ℕ → ℕ) → (ℕ → Option C) → (ℕ → Option C) → (ℕ → Option C) → Type 0
Passed {C} K pivot host away label label' =
    (v : ℕ) → pivot v ≡ false
    → (label' v ≡ label v) ⊎ ((c h r : C) → label' v ≡ Some c → away v ≡ Some h → K.sum c h ≡ Some r → Within K (label' (host v)) r)

-- what every run of relaxations keeps
pub record Kept {C : Type 0} (K : Kind C) (pivot : ℕ → Bool) (host : ℕ → ℕ) (away : ℕ → Option C) (label label' key key' : ℕ → Option C) : Type 0 where
  pub lower : Lower K label label'
  pub keyed : Keyed pivot label' key'
  pub same_drawn : (p : ℕ) → drawn_of pivot label' key' p ≡ drawn_of pivot label key p
  pub passed : Passed K pivot host away label label'

-- the cost c comes to v by an offer of r to y: to y itself, or from there to its host
abbrev pub Comes : {C : Type 0} → Kind C → (ℕ → Bool) → (ℕ → ℕ) → (ℕ → Option C) → ℕ → C → ℕ → C → Type 0
Comes {C} K pivot host away y r v c =
    ((v ≡ y) × (c ≡ r)) ⊎ ((v ≡ host y) × ((h : C) × (away y ≡ Some h) × (K.sum r h ≡ Some c)))

-- the queue spans as many marks as before, and has counted no draw
pub record Steady {C : Type 0} (h h' : Held C) : Type 0 where
  pub span : h'.span ≡ h.span
  pub draws : h'.draws ≡ h.draws

-- each label is blank
pub record Blank {C : Type 0} (K : Kind C) (labels : List (Label C)) : Type 0 where
  pub each : (v : ℕ) → slice_index_or labels v (unlabelled K) ≡ unlabelled K

-- a search that begins: home alone has a label, which is zero, and no mark is drawn
pub record Begun {C : Type 0} (K : Kind C) (home : ℕ) (labels : List (Label C)) (h h' : Held C) : Type 0 where
  pub first : label_of K labels home ≡ Some K.zero
  pub alone : (v : ℕ) (c : C) → label_of K labels v ≡ Some c → v ≡ home
  pub agrees : Agrees (label_of K labels) h'.key
  pub keys : (v : ℕ) (k : C) → h'.key v ≡ Some k → v ≡ home
  pub undrawn : (v : ℕ) → out (label_of K labels) h'.key v ≡ false
  pub clean : Clean K labels
  pub span : h'.span ≡ h.span
  pub draws : h'.draws ≡ 0

-- labels, hosts and a queue that fit together
pub record Matched {C : Type 0} (K : Kind C) (hosts : List (Host C)) (labels : List (Label C)) (h : Held C) : Type 0 where
  pub long : length hosts ≡ length labels
  pub span : length labels ≤ h.span
  pub clean : Clean K labels
  pub keyed : Keyed (pivot_in K hosts) (label_of K labels) h.key
  pub hosted : (v : ℕ) (c : C) → away_in K hosts v ≡ Some c
      → (host_in K hosts v < length labels) × (pivot_in K hosts (host_in K hosts v) ≡ true)

abbrev pub Keeps : {C : Type 0} → Kind C → List (Host C) → List (Label C) → Held C → List (Label C) → Held C → Type 0
Keeps K hosts a h b h' = Kept K (pivot_in K hosts) (host_in K hosts) (away_in K hosts) (label_of K a) (label_of K b) h.key h'.key

-- each new label comes by the offer of r to y
abbrev pub Changed : {C : Type 0} → Kind C → List (Host C) → List (Label C) → List (Label C) → ℕ → C → Type 0
Changed {C} K hosts a b y r =
    (v : ℕ) (c : C) → label_of K b v ≡ Some c
    → (label_of K a v ≡ Some c) ⊎ Comes K (pivot_in K hosts) (host_in K hosts) (away_in K hosts) y r v c

-- a relaxation
pub record Relaxed {C : Type 0} (K : Kind C) (hosts : List (Host C)) (a : List (Label C)) (h : Held C) (b : List (Label C)) (h' : Held C) (y : ℕ) (r : C) : Type 0 where
  pub matched : Matched K hosts b h'
  pub keeps : Keeps K hosts a h b h'
  pub steady : Steady h h'
  pub within : Within K (label_of K b y) r
  pub change : Changed K hosts a b y r

-- a relaxation by a cost that may be absent
pub record Tried {C : Type 0} (K : Kind C) (hosts : List (Host C)) (a : List (Label C)) (h : Held C) (b : List (Label C)) (h' : Held C) (y : ℕ) (o : Option C) : Type 0 where
  pub matched : Matched K hosts b h'
  pub keeps : Keeps K hosts a h b h'
  pub steady : Steady h h'
  pub within : (r : C) → o ≡ Some r → Within K (label_of K b y) r
  pub change : (v : ℕ) (c : C) → label_of K b v ≡ Some c
      → (label_of K a v ≡ Some c) ⊎ ((r : C) × (o ≡ Some r) × Comes K (pivot_in K hosts) (host_in K hosts) (away_in K hosts) y r v c)

-- the sum of a cost that may be absent and another
abbrev pub then_sum : {C : Type 0} → Kind C → Option C → C → Option C
then_sum K None b = None
then_sum K (Some a) b = K.sum a b
