-- What `pcap` makes of its input: the lines of a capture's datagrams, or the script of the relay that the word names.
use Rattle.std.specs.Prelude.{◌≡◌, ℕ, List, [], ◌++◌, Some, codes}
use Rattle.amt_values.specs.{declared.address.Ip.{Ip}, Text.{IsIpText}}
use Rattle.amt_pcap.specs.{declared.capture.CaptureFault.{CaptureFault, TheVariants.{LinkType, Magic, Memory, Short, Version}}, Capture.{IsCapture, first_fault}}
use Rattle.amt_command.specs.declared.pcap.CapturedRelay.{CapturedRelay}

-- the word for what is wrong with a head; out of memory has none
abbrev pub fault_word : CaptureFault → List ℕ
fault_word (Short needed found) = codes "short"
fault_word (Magic magic) = codes "magic"
fault_word (Version major minor) = codes "version"
fault_word (LinkType link) = codes "linktype"
fault_word Memory = []

-- the octets are no capture, by the first fault of their head
pub data IsCaptureCause (bytes : List ℕ) : List ℕ → Type 0 where
  fault : (fault : CaptureFault) → first_fault bytes ≡ Some fault → IsCaptureCause bytes (fault_word fault)

-- the word names the relay, and the octets are the capture
pub record IsCapturedRelay (word : List ℕ) (captured : CapturedRelay) (bytes : List ℕ) : Type 0 where
  pub relay : IsIpText captured.relay word
  pub capture : IsCapture bytes captured.capture

-- the word names no address; or it does, and the octets are no capture
pub data IsRelayCause (word bytes : List ℕ) : List ℕ → Type 0 where
  relay : ((ip : Ip) → IsIpText ip word → ⊥) → IsRelayCause word bytes (codes "relay")
  capture : (ip : Ip) (cause : List ℕ) → IsIpText ip word → IsCaptureCause bytes cause → IsRelayCause word bytes cause

-- `capture: ` and the cause
abbrev pub TellsCapture : (List ℕ → Type 0) → List ℕ → Type 0
TellsCapture Cause text = (cause : List ℕ) × Cause cause × (text ≡ codes "capture: " ++ cause)
