-- What may be answered of the octets in an Update.
use Rattle.std.specs.Prelude.{List, Option, Some, None, Result}
use Rattle.amt_values.specs.Answer.{Gives as GivesBy}
use Rattle.source_filter.specs.declared.record.Record.{Record}
use Rattle.relay_machine.specs.declared.{outcome.Unlawful.{Unlawful as Fault}, report.Unread.{Unread, TheVariants.{Unlawful, Memory}}}

-- the fault of the octets in an answer, none where memory ran out
abbrev pub cause_in : Unread → Option Fault
cause_in (Unlawful fault) = Some fault
cause_in Memory = None

-- what was answered is this reading of the octets, or memory ran out
abbrev pub Gives : Result (List Record) Unread → Result (List Record) Fault → Type 0
Gives answer reading = GivesBy cause_in (λ other. Unit {0}) answer reading
