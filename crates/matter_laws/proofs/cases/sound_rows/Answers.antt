use Rattle.matter_laws.proofs.SoundExamples.{sound-every, balance-every, sound-closed, balance-closed}
use Rattle.matter_laws.proofs.cases.sound_rows.Goals as goal

pub returns-clause-every_state : goal.returns-clause-every_state
returns-clause-every_state c = sound-every

pub returns-clause-balances : goal.returns-clause-balances
returns-clause-balances c = balance-every

pub returns-clause-closed : goal.returns-clause-closed
returns-clause-closed c = sound-closed

pub returns-clause-closed_balances : goal.returns-clause-closed_balances
returns-clause-closed_balances c = balance-closed
