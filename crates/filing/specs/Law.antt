-- The law over lists of errands.
use Rattle.std.specs.Prelude.{◌≡◌, List, [], ◌∷◌, vec_items, Result}
use Rattle.chart.specs.State.{State}
use Rattle.filing.specs.declared.errand.Errand.{Errand}
use Rattle.filing.specs.declared.errand.Errand.TheVariants.{Call, Load, Write}
use Rattle.filing.specs.declared.errand.Done.{Done}
use Rattle.filing.specs.declared.errand.Refused.{Refused}
use Rattle.filing.specs.Calling.{Calls}
use Rattle.filing.specs.Filing.{Loading, Writing}

-- on a chart in the state s an errand is answered by r; then the chart is in the state s', and the errand holds what e' says
abbrev pub Goes : State → Errand → Errand → Result Done Refused → State → Type 0
Goes s (Call call) e' r s' = Calls s call r s' × (e' ≡ Call call)
Goes s (Load text) e' r s' = Loading (vec_items text) s r s' × (e' ≡ Load text)
Goes s (Write old) (Write new) r s' = Writing s (vec_items old) r (vec_items new) × (s' ≡ s)
Goes s (Write old) (Load text) r s' = ⊥
Goes s (Write old) (Call call) r s' = ⊥

-- each errand has one answer, and goes on from the chart that those before it leave, the first from s
abbrev pub Told : State → List Errand → List Errand → List (Result Done Refused) → Type 0
Told s [] [] [] = Unit {0}
Told s (e ∷ es) (e' ∷ es') (r ∷ rs) = (s' : State) × Goes s e e' r s' × Told s' es es' rs
Told s [] [] (r ∷ rs) = ⊥
Told s [] (e' ∷ es') rs = ⊥
Told s (e ∷ es) [] rs = ⊥
Told s (e ∷ es) (e' ∷ es') [] = ⊥
