-- The state of a job between records, besides its counts: the running join and the retaken sheets.
use Rattle.running.specs.Running.{running_none}
use Rattle.running.specs.declared.Running.{Running}
use Rattle.sheets.specs.Sheets.{Sheets, no_sheets}
use Rattle.sheets.specs.Store.{sheets_of}
use Rattle.job_state.specs.declared.JobState.{JobState}

pub record State : Type 0 where
  pub running : Running
  pub sheets : Sheets

-- the state before the first record
abbrev pub state_none : State
state_none = record { running = running_none; sheets = no_sheets }

-- the state that a `JobState` represents: its store is bytes, which `sheets_of` reads; any bytes are a store
abbrev pub state_of : JobState → State
state_of m = record { running = m.running; sheets = sheets_of m.store }
