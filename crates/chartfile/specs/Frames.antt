-- The frames of a chart file, each written as one line.
use Rattle.std.specs.Prelude.{ℕ, ◌-◌, ◌/◌, ◌%◌, Bool, true, false, List, [], ◌∷◌, ◌++◌, sum}
use Rattle.waterway.specs.declared.Leg.{Leg}
use Rattle.chartfile.specs.declared.frame.Frame.{Frame}
use Rattle.chartfile.specs.declared.frame.Frame.TheVariants.{Head, Entry, Pivot, Home, Last}
use Rattle.chartfile.specs.Hex.{hex}

-- the two bytes of a number
abbrev pub high : ℕ → ℕ
high n = n / 256

abbrev pub low : ℕ → ℕ
low n = n % 256

-- an open leg is of another kind than a closed one
abbrev pub leg_kind : Bool → ℕ
leg_kind true = 2
leg_kind false = 3

-- a leg's marks, length and locks
abbrev pub fields : Leg → List ℕ
fields leg = high leg.from ∷ low leg.from ∷ high leg.to ∷ low leg.to ∷ high leg.length ∷ low leg.length ∷ leg.locks ∷ []

-- a frame's kind and fields
abbrev pub body : Frame → List ℕ
body (Head marks) = 1 ∷ 1 ∷ high marks ∷ low marks ∷ []
body (Entry leg) = leg_kind leg.«open» ∷ fields leg
body (Pivot mark) = 4 ∷ high mark ∷ low mark ∷ []
body (Home mark) = 5 ∷ high mark ∷ low mark ∷ []
body (Last count) = 127 ∷ high count ∷ low count ∷ []

-- the last byte makes all add up to a multiple of 256
abbrev pub check : List ℕ → ℕ
check bytes = (256 - sum bytes % 256) % 256

abbrev pub checked : List ℕ → List ℕ
checked bytes = bytes ++ check bytes ∷ []

-- a frame's line, ended by byte 0A
abbrev pub line : Frame → List ℕ
line frame = hex (checked (body frame)) ++ 10 ∷ []

abbrev pub lines : List Frame → List ℕ
lines [] = []
lines (frame ∷ frames) = line frame ++ lines frames
