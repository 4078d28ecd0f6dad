use Rattle.std.proofs.Common.{◌≡◌, suc, List, [], ◌∷◌, length, Result, refl, ap}
use Rattle.chart.specs.declared.refusal.Refusal.{Refusal}
use Rattle.chart.specs.State.{State, blank}
use Rattle.calls.specs.declared.call.Call.{Call}
use Rattle.calls.specs.declared.call.Answer.{Answer}
use Rattle.calls.specs.Law.{Told}
use Rattle.office.proofs.script.answered.Goals as goal

told_length : (s : State) (calls : List Call) (answers : List (Result Answer Refusal)) → Told s calls answers → length answers ≡ length calls
told_length s [] [] told = refl
told_length s [] (r ∷ answers) told = absurd told
told_length s (call ∷ calls) [] told = absurd told
told_length s (call ∷ calls) (r ∷ answers) told = ap suc (told_length _ calls answers told.1)

pub replies-requires : goal.replies-requires
replies-requires c =
    let lines = c.as_slice.ensures.value in
    let answers = c.as_slice-2.ensures.value in
    let told = told_length blank c.in_ok-script.script.calls.items c.in_ok-answers.answers.items c.in_ok-answers.ensures in
    rw (lines, answers, told) c.in_ok-script.script.placed
