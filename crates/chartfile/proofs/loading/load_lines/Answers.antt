use Rattle.std.proofs.Common.{◌≡◌, Ok, refl, ◌∙◌, arith, rules}
use Rattle.std.proofs.lemmas.Bool.Decides.{not_from_Decides}
use Rattle.std.proofs.lemmas.Result.{MatchResult-at_ok}
use Rattle.chartfile.proofs.Loaded.{loaded_more, missing_last, short}
use Rattle.chartfile.proofs.loading.load_lines.Goals as goal

pub overflow_add-line : goal.overflow_add-line
overflow_add-line g c = let few = short c.loop-rest.invariant.brings in search rules

pub loop-rest-preserved : goal.loop-rest-preserved
loop-rest-preserved g c =
    let to = c.loop-rest.invariant in
    let done : c.load_line.result ≡ Ok (c.in_ok-frame.frame, c.in_ok-frame.after) = grind arith in
    let line = MatchResult-at_ok _ _ _ done c.load_line.ensures.brings in
    record {
      brings = loaded_more to.brings c.in_ok-frame.frame line.0 line.1 line.2 refl refl;
      measure = c.load_line.ensures.measure ∙ to.measure;
    }

pub overflow_add-result : goal.overflow_add-result
overflow_add-result g c = let few = short c.loop-rest.invariant.brings in search rules

pub returns-then-not-is_complete : goal.returns-then-not-is_complete
returns-then-not-is_complete g c =
    let to = c.loop-rest.invariant in
    let open_end = not_from_Decides _ c.is_complete.ensures c.if-not-is_complete.true in
    record { brings = missing_last to.brings _ (search rules) open_end refl refl; measure = to.measure }
