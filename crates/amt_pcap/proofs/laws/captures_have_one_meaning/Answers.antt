use Rattle.std.proofs.Common.{◌≡◌, None, Option, Some, refl}
use Rattle.amt_pcap.specs.{declared.capture.{CaptureFault.{CaptureFault}}, Capture.{first_fault}}
use Rattle.amt_pcap.proofs.Unique.{IsCapture-unique, no_fault_of_capture}
use Rattle.amt_pcap.proofs.laws.captures_have_one_meaning.Goals as goal

none : (found : Option CaptureFault) → ((fault : CaptureFault) → found ≡ Some fault → ⊥) → found ≡ None
none None never = refl
none (Some fault) never = absurd (never fault refl)

pub returns-clause-one : goal.returns-clause-one
returns-clause-one c = λ bytes one other first second. IsCapture-unique bytes one other first second

pub returns-clause-faultless : goal.returns-clause-faultless
returns-clause-faultless c = λ bytes capture is. none (first_fault bytes) (λ fault wrong. no_fault_of_capture bytes capture fault is wrong)
