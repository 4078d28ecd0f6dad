-- The words that tell an accepted call.
use Rattle.std.specs.Prelude.{ℕ, true, false, List, ◌++◌, codes}
use Rattle.std.specs.Fmt.{decimal}
use Rattle.calls.specs.declared.call.Answer.{Answer}
use Rattle.calls.specs.declared.call.Answer.TheVariants.{Mark, Leg, Closed, Reopened, Home, Pivot}

abbrev pub words_of : Answer → List ℕ
words_of (Mark mark) = codes "mark " ++ decimal mark
words_of (Leg leg) = codes "leg " ++ decimal leg
words_of (Closed leg) = codes "closed " ++ decimal leg
words_of (Reopened leg) = codes "opened " ++ decimal leg
words_of (Home mark) = codes "home " ++ decimal mark
words_of (Pivot mark true) = codes "pivot " ++ decimal mark ++ codes " yes"
words_of (Pivot mark false) = codes "pivot " ++ decimal mark ++ codes " no"
