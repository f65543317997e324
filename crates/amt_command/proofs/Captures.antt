-- An input is one capture at most, or has one fault.
use Rattle.std.proofs.Common.{◌≡◌, ◌≢◌, ◌⊎◌, ℕ, List, ◌++◌, Some, codes, inl, inr, refl, sym, subst, ap, ◌∙◌}
use Rattle.amt_values.{specs.{declared.address.Ip.{Ip}, Text.{IsIpText}}, proofs.Unique.{IsIpText-unique}}
use Rattle.amt_pcap.{specs.{declared.capture.{Capture.{Capture}, CaptureFault.{CaptureFault}}, Capture.{first_fault}}, proofs.Unique.{IsCapture-unique, no_fault_of_capture}}
use Rattle.amt_command.proofs.Faults.{told_by}
use Rattle.amt_command.specs.{declared.{pcap.CapturedRelay.{CapturedRelay}, task.TaskFault.{TaskFault}}, Command.{capture_lines_task, capture_script_task}, Pcap.{IsCaptureCause, IsCapturedRelay, IsRelayCause, TellsCapture, capture, fault, fault_word, relay}, Task.{IsErrorBy}}
use Rattle.amt_command.specs.declared.task.TaskFault.TheVariants as faults
use Rattle.amt_pcap.specs.declared.capture.CaptureFault.TheVariants as causes

abbrev of : Ip → Capture → CapturedRelay
of ip captured = record { relay = ip; capture = captured }

pub one_captured : (word bytes : List ℕ) (one other : CapturedRelay) → IsCapturedRelay word one bytes → IsCapturedRelay word other bytes → one ≡ other
one_captured word bytes one other h k =
    ap (λ (ip : Ip). of ip one.capture) (IsIpText-unique one.relay other.relay word h.relay k.relay)
    ∙ ap (of other.relay) (IsCapture-unique bytes one.capture other.capture h.capture k.capture)

same_fault : (bytes cause other : List ℕ) → IsCaptureCause bytes cause → IsCaptureCause bytes other → cause ≡ other
same_fault bytes cause other (fault one is) (fault two is') =
    let same : Some one ≡ Some two = sym is ∙ is' in
    ap fault_word (cc same)

same_cause : (word bytes cause other : List ℕ) → IsRelayCause word bytes cause → IsRelayCause word bytes other → cause ≡ other
same_cause word bytes cause other (relay none) (relay none') = refl
same_cause word bytes cause other (relay none) (capture ip _ names at) = absurd (none ip names)
same_cause word bytes cause other (capture ip _ names at) (relay none) = absurd (none ip names)
same_cause word bytes cause other (capture ip _ names at) (capture ip' _ names' at') = same_fault bytes cause other at at'

-- the text of a cause is one where the cause is
one_told : (Cause : List ℕ → Type 0) (text text' : List ℕ) → ((cause other : List ℕ) → Cause cause → Cause other → cause ≡ other)
    → TellsCapture Cause text → TellsCapture Cause text' → text ≡ text'
one_told Cause text text' one h k = h.2 ∙ (ap (λ (cause : List ℕ). codes "capture: " ++ cause) (one h.0 k.0 h.1 k.1) ∙ sym k.2)

pub one_capture_cause : (bytes text text' : List ℕ) → TellsCapture (IsCaptureCause bytes) text → TellsCapture (IsCaptureCause bytes) text' → text ≡ text'
one_capture_cause bytes text text' = one_told (IsCaptureCause bytes) text text' (same_fault bytes)

pub one_relay_cause : (word bytes text text' : List ℕ) → TellsCapture (IsRelayCause word bytes) text → TellsCapture (IsRelayCause word bytes) text' → text ≡ text'
one_relay_cause word bytes text text' = one_told (IsRelayCause word bytes) text text' (same_cause word bytes)

-- the fault of a head
pub capture_told : (bytes : List ℕ) (cause : CaptureFault) (error : TaskFault)
    → ((cause ≢ causes.Memory) × (error ≡ faults.Fault (codes "capture: " ++ fault_word cause))) ⊎ (error ≡ faults.Memory)
    → (cause ≢ causes.Memory → first_fault bytes ≡ Some cause) → IsErrorBy capture_lines_task bytes error
capture_told bytes cause error (inl told) first =
    told_by capture_lines_task bytes (codes "capture: " ++ fault_word cause) error (inl told.1)
    (λ captured is. no_fault_of_capture bytes captured cause is (first told.0)) (fault_word cause, fault cause (first told.0), refl)
capture_told bytes cause error (inr is) first = subst (IsErrorBy capture_lines_task bytes) (sym is) tt

-- of a word that names no relay
pub no_relay_told : (word bytes : List ℕ) (error : TaskFault) → (error ≡ faults.Fault (codes "capture: " ++ codes "relay")) ⊎ (error ≡ faults.Memory)
    → ((ip : Ip) → IsIpText ip word → ⊥) → IsErrorBy (capture_script_task word) bytes error
no_relay_told word bytes error told none =
    told_by (capture_script_task word) bytes (codes "capture: " ++ codes "relay") error told
    (λ captured is. none captured.relay is.relay) (codes "relay", relay none, refl)

-- where it names one, the fault of a head
pub relay_told : (word bytes : List ℕ) (ip : Ip) (error : TaskFault) → IsIpText ip word → IsErrorBy capture_lines_task bytes error
    → IsErrorBy (capture_script_task word) bytes error
relay_told word bytes ip (faults.Fault text) names told =
    (λ captured is. told.0 captured.capture is.capture, (told.1.0, capture ip told.1.0 names told.1.1, told.1.2))
relay_told word bytes ip faults.Memory names told = tt
