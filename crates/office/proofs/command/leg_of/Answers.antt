use Rattle.calls.specs.declared.call.Call.TheVariants.{EnterLeg}
use Rattle.office.specs.Commands.{SaysLeg}
use Rattle.office.proofs.command.leg_of.Goals as goal

pub returns-in_err-tenths : goal.returns-in_err-tenths
returns-in_err-tenths c =
    rw c.from_residual-in_err-tenths.ensures
    (λ call. elim call as (λ any. SaysLeg c.args.a.now c.args.b.now c.args.miles.now c.args.locks.now any → ⊥) [
      | EnterLeg a b tenths locks ↦ λ says. c.in_err-tenths.ensures says.2.0 says.2.1
      | _ ↦ λ says. says
    ])
