-- The kinds of frames, and the byte that each begins with.
use Rattle.std.specs.Prelude.{◌≡◌, ℕ, ◌≢◌, Bool, true, false, Result, MatchResult}
use Rattle.chartfile.specs.declared.frame.Frame.{Frame}
use Rattle.chartfile.specs.declared.frame.Frame.TheVariants as frame
use Rattle.chartfile.specs.declared.kind.Kind.{Kind}
use Rattle.chartfile.specs.declared.kind.Kind.TheVariants.{Head, OpenLeg, ClosedLeg, Pivot, Home, Last}
use Rattle.chartfile.specs.declared.kind.UnknownKind.{UnknownKind}

abbrev pub byte_of : Kind → ℕ
byte_of Head = 1
byte_of OpenLeg = 2
byte_of ClosedLeg = 3
byte_of Pivot = 4
byte_of Home = 5
byte_of Last = 127

abbrev pub leg_kind_of : Bool → Kind
leg_kind_of true = OpenLeg
leg_kind_of false = ClosedLeg

abbrev pub kind_of : Frame → Kind
kind_of (frame.Head marks) = Head
kind_of (frame.Entry leg) = leg_kind_of leg.«open»
kind_of (frame.Pivot mark) = Pivot
kind_of (frame.Home mark) = Home
kind_of (frame.Last count) = Last

-- the kind that a byte begins, or an error where it begins none
abbrev pub Decodes : ℕ → Result Kind UnknownKind → Type 0
Decodes byte r = MatchResult r (λ kind. byte_of kind ≡ byte) (λ _. (kind : Kind) → byte_of kind ≢ byte)

abbrev pub Encodes : Kind → ℕ → Type 0
Encodes kind byte = byte ≡ byte_of kind
