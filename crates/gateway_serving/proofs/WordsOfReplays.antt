-- What a replay prints of an outcome begins with the word by which it is counted.
use Rattle.std.proofs.Common.{◌++◌, codes, decimal, inl, inr, refl}
use Rattle.amt_values.specs.Text.{ip_text, peer_text}
use Rattle.control_lines.specs.Tally.{BeginsWithWord}
use Rattle.script_lines.specs.{FaultTexts.{head_text, inner_text, refusal_text, report_text}, Texts.{nonce_text}}
use Rattle.gateway_machine.specs.declared.outcome.GatewayOutcome.{GatewayOutcome, TheVariants.{Quiet, Drawn, Discovering, Requesting, Active, Idle, Changed, Kept, Delivered, SocketRefused, Ignored as IgnoredAs}}
use Rattle.gateway_machine.specs.declared.outcome.{Ignored.{Ignored, TheVariants.{Undecoded, Kind, State, Sender, Nonce, Inner, Family, Body, NotGeneral, Head, Scope, NotWanted}}, SocketRefusal.{SocketRefusal, TheVariants.{Taken, NoSocket, SourcesFull, ReportFull}}}
use Rattle.gateway_script.specs.Texts.{ignored_text, outcome_text, socket_refusal_text}
use Rattle.gateway_serving.specs.OutcomeWords.{cause_word, refusal_word, word_of}

refusal_begins : (refusal : SocketRefusal) → BeginsWithWord (codes "refused " ++ socket_refusal_text refusal) (refusal_word refusal)
refusal_begins Taken = inl refl
refusal_begins NoSocket = inl refl
refusal_begins (SourcesFull sources) = inr (decimal sources, refl)
refusal_begins (ReportFull octets) = inr (decimal octets, refl)

cause_begins : (cause : Ignored) → BeginsWithWord (codes "ignored " ++ ignored_text cause) (cause_word cause)
cause_begins (Undecoded refusal) = inr (refusal_text refusal, refl)
cause_begins (Kind kind) = inr (decimal kind, refl)
cause_begins (State kind) = inr (decimal kind, refl)
cause_begins (Sender relay from) = inr (peer_text relay ++ (codes " " ++ peer_text from), refl)
cause_begins (Nonce want have) = inr (nonce_text want ++ (codes " " ++ nonce_text have), refl)
cause_begins (Inner fault) = inr (inner_text fault, refl)
cause_begins Family = inl refl
cause_begins (Body fault) = inr (report_text fault, refl)
cause_begins (NotGeneral group) = inr (ip_text group, refl)
cause_begins (Head fault) = inr (head_text fault, refl)
cause_begins (Scope group) = inr (ip_text group, refl)
cause_begins (NotWanted group source) = inr (ip_text group ++ (codes " " ++ ip_text source), refl)

pub outcome_begins : (outcome : GatewayOutcome) → BeginsWithWord (outcome_text outcome) (word_of outcome)
outcome_begins Quiet = inl refl
outcome_begins Drawn = inl refl
outcome_begins (Discovering tries) = inr (decimal tries, refl)
outcome_begins (Requesting tries) = inr (decimal tries, refl)
outcome_begins Active = inl refl
outcome_begins Idle = inl refl
outcome_begins Changed = inl refl
outcome_begins Kept = inl refl
outcome_begins Delivered = inl refl
outcome_begins (SocketRefused refusal) = refusal_begins refusal
outcome_begins (IgnoredAs cause) = cause_begins cause
