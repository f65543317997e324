-- The commands, by cases: what each reads, it reads in one way at most, and with one fault at most.
use Rattle.std.proofs.Common.{◌≡◌, ℕ, List, [], ◌∷◌, Option, Some, None, inl, inr, refl, sym, subst, arith}
use Rattle.script_lines.{specs.{Kind.{IsLawfulKind, Kind}, Script.{IsErrorOf, RulesOutScripts, Spells}, declared.fault.ScriptError.{ScriptError}}, proofs.Verdicts.{one_fault, one_script}}
use Rattle.script_lines.specs.declared.fault.ScriptError.TheVariants as errors
use Rattle.amt_dual_script.{proofs.Lawful.{dual_kind_lawful}, specs.Script.{dual_kind}}
use Rattle.amt_dump.{proofs.Lawful.{dump_kind_lawful, one_dump}, specs.Lines.{dump_kind}}
use Rattle.amt_pcap.proofs.Unique.{IsCapture-unique}
use Rattle.amt_script.{proofs.Lawful.{relay_kind_lawful}, specs.Script.{relay_kind}}
use Rattle.amt_vectors.{proofs.{Lawful.{vector_kind_lawful}, Reports.{report_unique}}, specs.Kind.{vector_kind}}
use Rattle.gateway_script.{proofs.Lawful.{gateway_kind_lawful}, specs.Script.{gateway_kind}}
use Rattle.pair_script.{proofs.Lawful.{pair_kind_lawful}, specs.Script.{pair_kind}}
use Rattle.amt_words.specs.{declared.command.{Command.{Command, TheVariants.{Dns, Dump, Load, Pcap, Replay, Vectors, Gateway as GatewayServing, Relay as RelayServing}}, Replayable.TheVariants.{Dual, Gateway, Pair, Relay, Upstream}}, Line.{IsAccepted, IsCommandLine}, Usage.{dns_usage, dump_usage, gateway_usage, load_usage, pcap_usage, relay_usage, replay_usage, vectors_usage}}
use Rattle.amt_ports.specs.declared.files.Files.{Ghosts as FilesTell}
use Rattle.serving_commands.specs.Lives.{Tells}
use Rattle.amt_command.proofs.{Captures.{one_capture_cause, one_captured, one_relay_cause}, Lookups.{one_cause, one_lookup}}
use Rattle.amt_command.specs.{Command.{work_of}, Running.{IsGatewayLine, IsRelayLine, ServesFor}, Serving.{untouched}, Task.{HasOneFaultFor, HasOneValue, IsErrorBy, Task, TellsError, TellsLine}, declared.task.TaskFault.{TaskFault}}

pub one_value_of : (command : Command) → HasOneValue (work_of command)
one_value_of (Replay Relay) = one_script relay_kind relay_kind_lawful
one_value_of (Replay Gateway) = one_script gateway_kind gateway_kind_lawful
one_value_of (Replay Pair) = one_script pair_kind pair_kind_lawful
one_value_of (Replay Dual) = one_script dual_kind dual_kind_lawful
one_value_of (Replay Upstream) = one_script relay_kind relay_kind_lawful
one_value_of Dump = one_dump
one_value_of Vectors = report_unique
one_value_of (Dns source) = one_lookup source
one_value_of (Pcap None) = IsCapture-unique
one_value_of (Pcap (Some relay)) = one_captured relay
one_value_of (Load seed count) = tt
one_value_of (RelayServing file turns workers) = tt
one_value_of (GatewayServing file turns) = tt

-- the texts of a kind's faults are those of one line and one reason
one_line : {S W : Type 0} (kind : Kind S W) → IsLawfulKind kind → (bytes text text' : List ℕ) → TellsLine kind text bytes → TellsLine kind text' bytes → text ≡ text'
one_line kind lawful bytes text text' h k =
    let same = one_fault kind lawful bytes h.line k.line h.reason k.reason h.fault k.fault in
    cc (same.0, same.1, h.text_is, k.text_is)

pub one_fault_of : (command : Command) → HasOneFaultFor (work_of command)
one_fault_of (Replay Relay) = one_line relay_kind relay_kind_lawful
one_fault_of (Replay Gateway) = one_line gateway_kind gateway_kind_lawful
one_fault_of (Replay Pair) = one_line pair_kind pair_kind_lawful
one_fault_of (Replay Dual) = one_line dual_kind dual_kind_lawful
one_fault_of (Replay Upstream) = one_line relay_kind relay_kind_lawful
one_fault_of Dump = one_line dump_kind dump_kind_lawful
one_fault_of Vectors = one_line vector_kind vector_kind_lawful
one_fault_of (Dns source) = one_cause source
one_fault_of (Pcap None) = one_capture_cause
one_fault_of (Pcap (Some relay)) = one_relay_cause relay
one_fault_of (Load seed count) = tt
one_fault_of (RelayServing file turns workers) = tt
one_fault_of (GatewayServing file turns) = tt

-- the line of a command is taken by its written definition
pub accepted : (command : Command) (line : List (List ℕ)) → IsCommandLine command line → IsAccepted line
accepted command [] is = absurd is
accepted (Replay kind) (name ∷ words) is = (0, replay_usage, omega arith, refl, (is.0, is.1))
accepted Dump (name ∷ words) is = (1, dump_usage, omega arith, refl, (is.0, is.1))
accepted Vectors (name ∷ words) is = (2, vectors_usage, omega arith, refl, (is.0, is.1))
accepted (Load seed count) (name ∷ words) is = (3, load_usage, omega arith, refl, (is.0, is.1))
accepted (RelayServing file turns workers) (name ∷ words) is = (4, relay_usage, omega arith, refl, (is.0, is.1))
accepted (GatewayServing file turns) (name ∷ words) is = (5, gateway_usage, omega arith, refl, (is.0, is.1))
accepted (Dns source) (name ∷ words) is = (6, dns_usage, omega arith, refl, (is.0, is.1))
accepted (Pcap relay) (name ∷ words) is = (7, pcap_usage, omega arith, refl, (is.0, is.1))

-- what a reader of lines says of its error in two clauses, as the fault of a task whose values are by what the lines
-- spell
module _ {X S W : Type 0} (kind : Kind S W) (Reads : X → List ℕ → Type 0) (text : X → List ℕ) (difference : X → Option (List ℕ)) (bytes : List ℕ) where
  abbrev lines_task : Task X
  lines_task = record { Reads = Reads; HasFault = TellsLine kind; text = text; difference = difference }

  pub fault_by : ((value : X) → Reads value bytes → (script : W) × Spells kind script bytes) → (error : ScriptError) (fault : TaskFault)
      → TellsError error fault → IsErrorOf kind bytes error → RulesOutScripts kind bytes error → IsErrorBy lines_task bytes fault
  fault_by spelled (errors.Fault line reason) fault (inl is) at none =
      subst (IsErrorBy lines_task bytes) (sym is) (
        λ value reads. let script = spelled value reads in none script.0 script.1,
        record { line = line; reason = reason; fault = at; text_is = refl },
      )
  fault_by spelled (errors.Fault line reason) fault (inr is) at none = subst (IsErrorBy lines_task bytes) (sym is) tt
  fault_by spelled errors.Memory fault is at none = subst (IsErrorBy lines_task bytes) (sym is) tt

-- where memory runs out for the arguments, and nothing is touched, no more is said of a command
pub starved : {F V R G A : Type 0} (kept : FilesTell F) (told : Tells V R G) (files : F) (live : V) (written : A → Option (List ℕ)) (out : A) (line : List ℕ)
    (command : Command) → ServesFor kept told files files live live command written out out 7 line
starved kept told files live written out line (RelayServing file turns workers) = untouched refl refl refl refl
starved kept told files live written out line (GatewayServing file turns) = untouched refl refl refl refl
starved kept told files live written out line command = (refl, refl)

-- a command that isn't `relay` or `gateway` touches no files and devices
pub unserved : {F V R G A : Type 0} (kept : FilesTell F) (told : Tells V R G) (files files' : F) (live live' : V) (written : A → Option (List ℕ)) (out out' : A)
    (status : ℕ) (line : List ℕ) (words : List (List ℕ)) (command : Command) → IsCommandLine command words
    → ServesFor kept told files files' live live' command written out out' status line → (IsRelayLine words → ⊥) → (IsGatewayLine words → ⊥)
    → (files' ≡ files) × (live' ≡ live)
unserved kept told files files' live live' written out out' status line words (RelayServing file turns workers) is serves no_relay no_gateway =
    absurd (no_relay (file, turns, workers, is))
unserved kept told files files' live live' written out out' status line words (GatewayServing file turns) is serves no_relay no_gateway =
    absurd (no_gateway (file, turns, is))
unserved kept told files files' live live' written out out' status line words command is serves no_relay no_gateway = serves
