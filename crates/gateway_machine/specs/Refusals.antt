-- Why a gateway refuses a socket call.
use Rattle.std.specs.Prelude.{Option, Some, None}
use Rattle.socket_merge.specs.declared.fault.SocketFault.{SocketFault, TheVariants.{Taken, NoSocket, SourcesFull, ReportFull, Memory}}
use Rattle.gateway_machine.specs.declared.outcome.SocketRefusal.{SocketRefusal, TheVariants.{Taken as IsTaken, NoSocket as LacksSocket, SourcesFull as HasFullSources, ReportFull as HasFullReport}}

-- the refusal in a fault. Out of memory is none; refusal_of never gives it, so that by the cause of a call
-- None says that the call is accepted
abbrev pub refusal_in : SocketFault → Option SocketRefusal
refusal_in Taken = Some IsTaken
refusal_in NoSocket = Some LacksSocket
refusal_in (SourcesFull sources) = Some (HasFullSources sources)
refusal_in (ReportFull octets) = Some (HasFullReport octets)
refusal_in Memory = None

-- the refusal by the cause that the sockets tell, if there is one
abbrev pub refusal_by : Option SocketFault → Option SocketRefusal
refusal_by None = None
refusal_by (Some fault) = refusal_in fault
