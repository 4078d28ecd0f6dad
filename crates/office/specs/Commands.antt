-- What the words of a line say.
use Rattle.std.specs.Prelude.{◌≡◌, ℕ, true, false, min, List, [], ◌∷◌, Option, MatchOption, codes}
use Rattle.calls.specs.declared.call.Call as calls
use Rattle.calls.specs.declared.call.Call.TheVariants.{AddMark, EnterLeg, Close, Reopen, SetHome, SetPivot}
use Rattle.office.specs.declared.command.Unit.TheVariants.{Length, Locks}
use Rattle.office.specs.declared.command.Command.{Command}
use Rattle.office.specs.declared.command.Command.TheVariants.{Measure, Call}
use Rattle.office.specs.Numbers.{most, IsWritten, Miles}

-- the word is miles that write so many tenths
abbrev pub AreMiles : List ℕ → ℕ → Type 0
AreMiles word n = (tenths : ℕ) × Miles word tenths × (n ≡ min tenths (most 16))

-- these words, after the first, say the call that enters a leg
abbrev pub SaysLeg : List ℕ → List ℕ → List ℕ → List ℕ → calls.Call → Type 0
SaysLeg u v w x (EnterLeg a b tenths locks) = IsWritten 16 u a × IsWritten 16 v b × AreMiles w tenths × IsWritten 8 x locks
SaysLeg u v w x _ = ⊥

-- the words say the command
abbrev pub Says : List (List ℕ) → Command → Type 0
Says words (Measure Length) = words ≡ codes "measure" ∷ codes "length" ∷ []
Says words (Measure Locks) = words ≡ codes "measure" ∷ codes "locks" ∷ []
Says words (Call AddMark) = words ≡ codes "mark" ∷ []
Says words (Call (EnterLeg a b tenths locks)) =
    (u : List ℕ) × (v : List ℕ) × (w : List ℕ) × (x : List ℕ) × (words ≡ codes "leg" ∷ u ∷ v ∷ w ∷ x ∷ []) × SaysLeg u v w x (EnterLeg a b tenths locks)
Says words (Call (Close leg)) = (w : List ℕ) × (words ≡ codes "close" ∷ w ∷ []) × IsWritten 16 w leg
Says words (Call (Reopen leg)) = (w : List ℕ) × (words ≡ codes "open" ∷ w ∷ []) × IsWritten 16 w leg
Says words (Call (SetHome mark)) = (w : List ℕ) × (words ≡ codes "home" ∷ w ∷ []) × IsWritten 16 w mark
Says words (Call (SetPivot mark true)) = (w : List ℕ) × (words ≡ codes "pivot" ∷ w ∷ codes "yes" ∷ []) × IsWritten 16 w mark
Says words (Call (SetPivot mark false)) = (w : List ℕ) × (words ≡ codes "pivot" ∷ w ∷ codes "no" ∷ []) × IsWritten 16 w mark

-- o is the command that the words say, and none where they say none
abbrev pub Reads : List (List ℕ) → Option Command → Type 0
Reads words o = MatchOption o ((command : Command) → Says words command → ⊥) (Says words)

-- the same of the four words of a leg
abbrev pub ReadsLeg : List ℕ → List ℕ → List ℕ → List ℕ → Option calls.Call → Type 0
ReadsLeg u v w x o = MatchOption o ((call : calls.Call) → SaysLeg u v w x call → ⊥) (SaysLeg u v w x)
