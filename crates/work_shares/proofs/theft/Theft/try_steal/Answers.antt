use Rattle.work_shares.proofs.Takings.{takes_work}
use Rattle.work_shares.proofs.theft.Theft.try_steal.Goals as goal

pub returns-in-Some-Work-clause-gives : goal.returns-in-Some-Work-clause-gives
returns-in-Some-Work-clause-gives c = takes_work _ _ c.in-Some-Work.field-0 _ c.in-Some-Work.field-0-is c.in-Some-Work.ensures.some
