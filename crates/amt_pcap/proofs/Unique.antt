-- Octets are one capture at most, and none where their head has a fault: the records are followed from the head on,
-- and a whole one stands at a place or doesn't.
use Rattle.std.proofs.Common.{◌≡◌, ℕ, ◌<◌, ◌≤◌, List, [], ◌∷◌, ◌++◌, length, sym, ap, subst, Some, refl, arith, append_assoc, append-nil}
use Rattle.std.proofs.lemmas.Grind.{common_steps}
use Rattle.amt_pcap.specs.declared.{capture.{Capture.{Capture}, CaptureFault.{CaptureFault}, Item.{Item}}, format.Format.{Format}}
use Rattle.amt_pcap.specs.Capture.{AreRecords, IsCapture, first_fault, format_of, item_at, magic_of, record_end}

-- the records from a place on, up to where no whole one follows
data AreFrom (format : Format) (bytes : List ℕ) : ℕ → List Item → ℕ → Type 0 where
  none : (at : ℕ) → length bytes < record_end format bytes at → AreFrom format bytes at [] at
  more : (at end : ℕ) (items : List Item) → record_end format bytes at ≤ length bytes
      → AreFrom format bytes (record_end format bytes at) items end → AreFrom format bytes at (item_at format bytes at ∷ items) end

from_head : (format : Format) (bytes : List ℕ) (items rest : List Item) (at end : ℕ) → AreRecords format bytes items at
    → AreFrom format bytes at rest end → AreFrom format bytes 24 (items ++ rest) end
from_head format bytes items rest at end AreRecords.none then = then
from_head format bytes items rest at end (AreRecords.more before place records whole) then =
    rw append_assoc (from_head format bytes before (item_at format bytes place ∷ rest) place end records (AreFrom.more place end rest whole then))

from_same : (format : Format) (bytes : List ℕ) (at end last : ℕ) (one other : List Item) → AreFrom format bytes at one end
    → AreFrom format bytes at other last → (one ≡ other) × (end ≡ last)
from_same format bytes at end last one other (AreFrom.none _ _) (AreFrom.none _ _) = (refl, refl)
from_same format bytes at end last one other (AreFrom.none _ cut) (AreFrom.more _ _ _ whole _) = absurd (omega arith)
from_same format bytes at end last one other (AreFrom.more _ _ _ whole _) (AreFrom.none _ cut) = absurd (omega arith)
from_same format bytes at end last one other (AreFrom.more _ _ items _ first) (AreFrom.more _ _ others _ second) =
    let same = from_same format bytes (record_end format bytes at) end last items others first second in
    (ap (λ (rest : List Item). item_at format bytes at ∷ rest) same.0, same.1)

all_records : (bytes : List ℕ) (capture : Capture) (is : IsCapture bytes capture) → AreFrom is.format bytes 24 capture.items is.end
all_records bytes capture is =
    rw (sym (append-nil capture.items)) (from_head is.format bytes capture.items [] is.end is.end is.records (AreFrom.none is.end is.last))

one_format : (magic : ℕ) (one other : Format) → format_of magic ≡ Some one → format_of magic ≡ Some other → one ≡ other
one_format magic one other first second = cc

pub IsCapture-unique : (bytes : List ℕ) (one other : Capture) → IsCapture bytes one → IsCapture bytes other → one ≡ other
IsCapture-unique bytes one other first second =
    let format = one_format (magic_of bytes) second.format first.format second.head.magic first.head.magic in
    let there = subst (λ (format : Format). AreFrom format bytes 24 other.items second.end) format (all_records bytes other second) in
    let same = from_same first.format bytes 24 first.end second.end one.items other.items (all_records bytes one first) there in
    let tail : one.tail ≡ other.tail = omega (arith, same.1, first.whole, second.whole) in
    λ i. record { items = same.0 i; tail = tail i }

pub no_fault_of_capture : (bytes : List ℕ) (capture : Capture) (fault : CaptureFault) → IsCapture bytes capture → first_fault bytes ≡ Some fault → ⊥
no_fault_of_capture bytes capture fault is wrong = grind (arith, common_steps, is.head.magic)
