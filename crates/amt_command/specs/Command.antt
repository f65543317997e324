-- The commands, by what each does, and the statuses of `amt`.
use Rattle.std.specs.{Prelude.{ℕ, ◌==◌, List, [], ◌∷◌, ◌++◌, None, Some, IsTrue, codes, if◌then◌else◌}, List.{list_any}}
use Rattle.amt_dns.specs.Texts.{dns_text}
use Rattle.amt_dual_script.specs.{Script.{dual_kind}, Texts.{dual_script_text}, declared.script.DualScript.{DualScript}}
use Rattle.amt_dump.specs.{Dump.{IsDump}, Lines.{dump_kind}}
use Rattle.amt_pcap.specs.{declared.capture.Capture.{Capture}, Capture.{IsCapture}, Texts.{capture_lines_text, capture_script_text}}
use Rattle.amt_ports.specs.Causes.{Rose}
use Rattle.amt_script.specs.{Script.{relay_kind}, Texts.{relay_script_text}, declared.script.RelayScript.{RelayScript}}
use Rattle.amt_vectors.specs.{Kind.{vector_kind}, Report.{IsVectorsReport}, Texts.{difference_of, suite_text}, declared.report.SuiteReport.{SuiteReport}}
use Rattle.amt_words.specs.declared.command.{Command.{Command, TheVariants.{Dns, Dump, Load, Pcap, Replay, Vectors, Gateway as GatewayServing, Relay as RelayServing}}, Replayable.TheVariants.{Dual, Gateway, Pair, Relay, Upstream}}
use Rattle.gateway_script.specs.{Script.{gateway_kind}, Texts.{gateway_script_text}, declared.script.GatewayScript.{GatewayScript}}
use Rattle.pair_script.specs.{Script.{pair_kind}, Texts.{pair_script_text}, declared.script.PairScript.{PairScript}}
use Rattle.relay_load.specs.{Counts.{summary_of}, Script.{load_script_of}, Texts.{load_text}}
use Rattle.upstream_script.specs.Texts.{upstream_script_text}
use Rattle.amt_command.specs.{declared.{dns.Lookup.{Lookup}, pcap.CapturedRelay.{CapturedRelay}}, Dns.{IsLookup, TellsLookup}, Pcap.{IsCaptureCause, IsCapturedRelay, IsRelayCause, TellsCapture}, Task.{TellsLine, Task, Work, making, reading, replay_task, serving}}

-- scripts of a relay, of a gateway, and of both ends with gateways of one family or of both, each with the text of its
-- run, and relay scripts with what the relay's own network has to hear besides
abbrev pub relay_task : Task RelayScript
relay_task = replay_task relay_kind relay_script_text

abbrev pub gateway_task : Task GatewayScript
gateway_task = replay_task gateway_kind gateway_script_text

abbrev pub pair_task : Task PairScript
pair_task = replay_task pair_kind pair_script_text

abbrev pub dual_task : Task DualScript
dual_task = replay_task dual_kind dual_script_text

abbrev pub upstream_task : Task RelayScript
upstream_task = replay_task relay_kind upstream_script_text

-- lines of hexadecimal digits, with the text of their messages
abbrev pub dump_task : Task (List ℕ)
dump_task = record { Reads = IsDump; HasFault = TellsLine dump_kind; text = λ text. text; difference = λ text. None }

-- vector rows, with the number of those that passed, or the first that differs
abbrev pub vectors_task : Task SuiteReport
vectors_task = record { Reads = IsVectorsReport; HasFault = TellsLine vector_kind; text = suite_text; difference = difference_of }

-- an answer about the source that the word names, with the query and what the answer tells
abbrev pub dns_task : List ℕ → Task Lookup
dns_task word = record {
  Reads = IsLookup word;
  HasFault = TellsLookup word;
  text = λ lookup. dns_text lookup.source lookup.answer;
  difference = λ lookup. None;
}

-- a capture, with the lines of the tunnel's datagrams in it
abbrev pub capture_lines_task : Task Capture
capture_lines_task = record {
  Reads = λ capture bytes. IsCapture bytes capture;
  HasFault = λ text bytes. TellsCapture (IsCaptureCause bytes) text;
  text = capture_lines_text;
  difference = λ capture. None;
}

-- a capture, with the script of the relay that the word names
abbrev pub capture_script_task : List ℕ → Task CapturedRelay
capture_script_task word = record {
  Reads = IsCapturedRelay word;
  HasFault = λ text bytes. TellsCapture (IsRelayCause word bytes) text;
  text = λ captured. capture_script_text captured.relay captured.capture;
  difference = λ captured. None;
}

-- what a command does
abbrev pub work_of : Command → Work
work_of (Replay Relay) = reading RelayScript relay_task
work_of (Replay Gateway) = reading GatewayScript gateway_task
work_of (Replay Pair) = reading PairScript pair_task
work_of (Replay Dual) = reading DualScript dual_task
work_of (Replay Upstream) = reading RelayScript upstream_task
work_of Dump = reading (List ℕ) dump_task
work_of Vectors = reading SuiteReport vectors_task
work_of (Dns source) = reading Lookup (dns_task source)
work_of (Pcap None) = reading Capture capture_lines_task
work_of (Pcap (Some relay)) = reading CapturedRelay (capture_script_task relay)
work_of (Load seed count) = making (load_text (summary_of (load_script_of seed count)))
work_of (RelayServing file turns workers) = serving
work_of (GatewayServing file turns) = serving

-- done; usage; script or settings; read; write; link; memory; too long; difference; random source
abbrev pub IsStatus : ℕ → Type 0
IsStatus status = IsTrue (list_any (λ known. known == status) (0 ∷ 2 ∷ 3 ∷ 4 ∷ 5 ∷ 6 ∷ 7 ∷ 8 ∷ 9 ∷ 10 ∷ []))

-- those of a run that reads its input: done; script; read; write; memory; too long; difference
abbrev pub IsReadingStatus : ℕ → Type 0
IsReadingStatus status = IsTrue (list_any (λ known. known == status) (0 ∷ 3 ∷ 4 ∷ 5 ∷ 7 ∷ 8 ∷ 9 ∷ []))

-- the statuses under which nothing is written: usage; script or settings; read; link; too long; difference;
-- random source
abbrev pub IsQuiet : ℕ → Type 0
IsQuiet status = IsTrue (list_any (λ known. known == status) (2 ∷ 3 ∷ 4 ∷ 6 ∷ 8 ∷ 9 ∷ 10 ∷ []))

-- what is written to standard error under the other statuses than those of a fault and of a difference;
-- nothing for status 0
abbrev pub status_line : ℕ → List ℕ
status_line status =
    if status == 2 then codes "amt: usage: replay relay|gateway|pair, dump, vectors, load SEED N, relay FILE, gateway FILE" ++ (10 ∷ [])
    else (if status == 4 then codes "amt: read fault" ++ (10 ∷ [])
    else (if status == 5 then codes "amt: write fault" ++ (10 ∷ [])
    else (if status == 6 then codes "amt: link fault" ++ (10 ∷ [])
    else (if status == 7 then codes "amt: out of memory" ++ (10 ∷ [])
    else (if status == 8 then codes "amt: input too long" ++ (10 ∷ [])
    else (if status == 10 then codes "amt: random source fault" ++ (10 ∷ []) else []))))))

-- neither the input nor the output failed, by their counts before and after
pub record IsUndisturbed (reads reads' writes writes' : ℕ) : Type 0 where
  pub reading : Rose reads reads' → ⊥
  pub writing : Rose writes writes' → ⊥
