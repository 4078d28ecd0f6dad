use Rattle.std.proofs.Common.{◌≡◌, List, ℕ, [], ◌∷◌, Bor, length, get_or, map, codes, refl, arith, rules}
use Rattle.calls.specs.declared.call.Call as calls
use Rattle.calls.specs.declared.call.Call.TheVariants.{AddMark, EnterLeg, Close, Reopen, SetHome, SetPivot}
use Rattle.office.specs.declared.command.Command.{Command}
use Rattle.office.specs.declared.command.Command.TheVariants.{Measure, Call}
use Rattle.office.specs.Commands.{Says, SaysLeg}
use Rattle.office.proofs.command.command_of.Goals as goal

-- words that begin as those of a leg say no other command
module _ (a b miles locks : List ℕ) (none : (call : calls.Call) → SaysLeg a b miles locks call → ⊥) where
  no_leg : (words : List (List ℕ)) → words ≡ codes "leg" ∷ a ∷ b ∷ miles ∷ locks ∷ [] → (command : Command) → Says words command → ⊥
  no_leg words leg (Call (EnterLeg x y tenths many)) says =
      let said = says.4 in
      let u : says.0 ≡ a = cc in
      let v : says.1 ≡ b = cc in
      let w : says.2 ≡ miles = cc in
      let k : says.3 ≡ locks = cc in
      none (EnterLeg x y tenths many) (rw (u, v, w, k) at says.5)
  no_leg words leg (Measure unit) says = search rules
  no_leg words leg (Call AddMark) says = search rules
  no_leg words leg (Call (Close x)) says = search rules
  no_leg words leg (Call (Reopen x)) says = search rules
  no_leg words leg (Call (SetHome x)) says = search rules
  no_leg words leg (Call (SetPivot x pivot)) says = search rules

five : {W : Type 0} (f : W → List ℕ) (none : W) (words : List W) → length words ≡ 5 → map f words ≡ f (get_or words 0 none) ∷ f (get_or words 1 none) ∷ f (get_or words 2 none) ∷ f (get_or words 3 none) ∷ f (get_or words 4 none) ∷ []
five f none (u ∷ v ∷ w ∷ x ∷ y ∷ []) long = refl
five f none [] long = absurd (omega arith)
five f none (u ∷ []) long = absurd (omega arith)
five f none (u ∷ v ∷ []) long = absurd (omega arith)
five f none (u ∷ v ∷ w ∷ []) long = absurd (omega arith)
five f none (u ∷ v ∷ w ∷ x ∷ []) long = absurd (omega arith)
five f none (u ∷ v ∷ w ∷ x ∷ y ∷ z ∷ rest) long = absurd (omega arith)

pub returns-in_err-leg_of-in-leg : goal.returns-in_err-leg_of-in-leg
returns-in_err-leg_of-in-leg c =
    let none = c.in_err-leg_of-in-leg.ensures in
    let words = five (λ (word : Bor (List ℕ)). word.now) (record { ref_ptr = (0, 0); now = [] }) c.args.words.now (omega arith) in
    rw c.from_residual-in_err-leg_of-in-leg.ensures (no_leg _ _ _ _ none _ (rw c.in-leg.is-leg at words))
