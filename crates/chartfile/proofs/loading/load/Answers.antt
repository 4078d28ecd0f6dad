use Rattle.std.proofs.Common.{◌≡◌, ℕ, true, false, List, Ok, Err, Result, MatchResult, is_err, refl, ◌∙◌, arith, rules}
use Rattle.chart.specs.State.{State, marks, blank}
use Rattle.chartfile.specs.declared.fault.Fault.{Fault}
use Rattle.chartfile.specs.Faults.{Faulty}
use Rattle.chartfile.specs.Loading.{Loaded, Loads}
use Rattle.chartfile.proofs.Canonical.{loaded_file}
use Rattle.chartfile.proofs.Unread.{not_faulty, comes_back}
use Rattle.chartfile.proofs.loading.load.Goals as goal

-- what loading brings, once the chart is made blank where there was a fault
brought : {text : List ℕ} {s loaded new : State} (r : Result (Unit {0}) Fault) → marks s ≡ 0 → MatchResult r (λ _. Loaded text loaded) (Faulty text)
    → (is_err r ≡ true → new ≡ blank) → (is_err r ≡ false → new ≡ loaded) → Loads text s r new
brought (Ok u) none done cleared kept = record {
  refused = λ some. absurd (omega arith);
  loaded = λ _. rw (kept refl) (loaded_file done);
  accepted = λ _ t p is. (refl, rw (kept refl) (comes_back t p is done));
}
brought (Err fault) none faulty cleared kept = record {
  refused = λ some. absurd (omega arith);
  loaded = λ _. (faulty, cleared refl);
  accepted = λ _ t p is. absurd (not_faulty t _ _ p is faulty);
}

pub returns-then-is_err : goal.returns-then-is_err
returns-then-is_err g c =
    let told = c.load_lines-loaded.ensures in
    record {
      brings = brought c.load_lines-loaded.result (omega arith) told.brings (λ is. c.clear.ensures.brings) (λ not. search rules);
      measure = c.clear.ensures.measure ∙ told.measure;
    }

pub returns-else-is_err : goal.returns-else-is_err
returns-else-is_err g c =
    let told = c.load_lines-loaded.ensures in
    record {
      brings = brought c.load_lines-loaded.result (omega arith) told.brings (λ is. search rules) (λ not. refl);
      measure = told.measure;
    }
