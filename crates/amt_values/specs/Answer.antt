-- What a reader answers, whose faults are the causes of a reading and out of memory.
use Rattle.std.specs.Prelude.{◌≡◌, Option, Some, None, Result, Ok, Err}

-- a fault tells the reading's cause, or it is out of memory, of which something else holds
abbrev pub TellsCause : {A Cause : Type 0} → Option Cause → Result A Cause → Type 0 → Type 0
TellsCause (Some cause) reading memory = reading ≡ Err cause
TellsCause None reading memory = memory

-- what was answered is the reading, or out of memory; the function gives the cause in a fault, and
-- none of out of memory
abbrev pub Gives : {A Cause Fault : Type 0} → (Fault → Option Cause) → (Result A Cause → Type 0) → Result A Fault → Result A Cause → Type 0
Gives cause_in OutOfMemory (Ok value) reading = reading ≡ Ok value
Gives cause_in OutOfMemory (Err fault) reading = TellsCause (cause_in fault) reading (OutOfMemory reading)

-- the fault's cause is the first one; out of memory tells none
abbrev pub Tells : {Cause : Type 0} → Option Cause → Option Cause → Type 0
Tells first (Some cause) = first ≡ Some cause
Tells first None = Unit {0}
