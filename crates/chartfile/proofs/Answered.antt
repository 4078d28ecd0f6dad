-- What a call's answer says of its checks.
use Rattle.std.proofs.Common.{◌≡◌, ℕ, List, [], ◌∷◌, Ok, Err, inl, inr, arith}
use Rattle.chart.specs.declared.refusal.Refusal.{Refusal}
use Rattle.checks.specs.Checks.{Check, Answers}
use Rattle.chart.specs.State.{State}
use Rattle.chart.specs.Calls.{Brings}
use Rattle.chartfile.specs.Entries.{Passed, RefusedBy}

module _ {V : Type 0} where
  passing : (v w : V) (checks : List (Check Refusal)) → Answers Err (λ a. a ≡ Ok v) checks (Ok w) → Passed checks
  passing v w [] right = tt
  passing v w (check ∷ checks) (inl h) = let e = h.1 in let z : ◌≡◌ {A = ℕ} 0 1 = cc in absurd (omega arith)
  passing v w (check ∷ checks) (inr h) = (h.0, passing v w checks h.1)

  refusing : (v : V) (refusal : Refusal) (checks : List (Check Refusal)) → Answers Err (λ a. a ≡ Ok v) checks (Err refusal) → RefusedBy checks refusal
  refusing v refusal [] right = let z : ◌≡◌ {A = ℕ} 0 1 = cc in absurd (omega arith)
  refusing v refusal (check ∷ checks) (inl h) = let e = h.1 in inl (h.0, cc)
  refusing v refusal (check ∷ checks) (inr h) = inr (h.0, refusing v refusal checks h.1)

  told : (v w : V) (checks : List (Check Refusal)) → Answers Err (λ a. a ≡ Ok v) checks (Ok w) → w ≡ v
  told v w [] right = cc
  told v w (check ∷ checks) (inl h) = let e = h.1 in let z : ◌≡◌ {A = ℕ} 0 1 = cc in absurd (omega arith)
  told v w (check ∷ checks) (inr h) = told v w checks h.1

  module _ {checks : List (Check Refusal)} {v : V} {before next after : State} where
    pub passed_of : {w : V} → Brings checks v before next (Ok w) after → Passed checks
    passed_of {w} b = passing v w checks b.answer

    pub refused_of : {refusal : Refusal} → Brings checks v before next (Err refusal) after → RefusedBy checks refusal
    refused_of {refusal} b = refusing v refusal checks b.answer

    pub value_of : {w : V} → Brings checks v before next (Ok w) after → w ≡ v
    value_of {w} b = told v w checks b.answer
