use Rattle.waterway.proofs.WorkedOut.{worked_by_length, worked_by_locks, worked_closed}
use Rattle.waterway.proofs.worked.worked_legs.Goals as goal

pub returns-clause-by_length : goal.returns-clause-by_length
returns-clause-by_length c = worked_by_length

pub returns-clause-by_locks : goal.returns-clause-by_locks
returns-clause-by_locks c = worked_by_locks

pub returns-clause-closed : goal.returns-clause-closed
returns-clause-closed c = worked_closed
