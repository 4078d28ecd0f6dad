-- Which frame may come after which.
use Rattle.std.specs.Prelude.{◌≡◌, ℕ, ◌<◌, ◌⊎◌, List, [], ◌∷◌, Some, None, Option}
use Rattle.chartfile.specs.declared.frame.Frame.{Frame}
use Rattle.chartfile.specs.declared.frame.Frame.TheVariants.{Head, Entry, Pivot, Home, Last}

-- the kinds in the order in which they stand in a file
abbrev pub rank : Frame → ℕ
rank (Head marks) = 0
rank (Entry leg) = 1
rank (Pivot mark) = 2
rank (Home mark) = 3
rank (Last count) = 4

-- the kinds that may repeat: legs, and pivots that rise
abbrev pub Repeats : Frame → Frame → Type 0
Repeats (Entry before) (Entry leg) = Unit {0}
Repeats (Pivot before) (Pivot mark) = before < mark
Repeats (Head before) frame = ⊥
Repeats (Home before) frame = ⊥
Repeats (Last before) frame = ⊥
Repeats (Entry before) (Head marks) = ⊥
Repeats (Entry before) (Pivot mark) = ⊥
Repeats (Entry before) (Home mark) = ⊥
Repeats (Entry before) (Last count) = ⊥
Repeats (Pivot before) (Head marks) = ⊥
Repeats (Pivot before) (Entry leg) = ⊥
Repeats (Pivot before) (Home mark) = ⊥
Repeats (Pivot before) (Last count) = ⊥

-- the last frame counts those before it
abbrev pub Counts : ℕ → Frame → Type 0
Counts n (Last count) = count ≡ n
Counts n (Head marks) = Unit {0}
Counts n (Entry leg) = Unit {0}
Counts n (Pivot mark) = Unit {0}
Counts n (Home mark) = Unit {0}

-- a frame may stand after n others, the latest of which is given
abbrev pub Follows : ℕ → Option Frame → Frame → Type 0
Follows n None frame = rank frame ≡ 0
Follows n (Some latest) frame = ((rank latest < rank frame) ⊎ Repeats latest frame) × Counts n frame

-- the latest of some frames, after another
abbrev pub latest_of : Option Frame → List Frame → Option Frame
latest_of latest [] = latest
latest_of latest (frame ∷ frames) = latest_of (Some frame) frames

-- the last frame stood
abbrev pub Complete : Option Frame → Type 0
Complete None = ⊥
Complete (Some frame) = rank frame ≡ 4
