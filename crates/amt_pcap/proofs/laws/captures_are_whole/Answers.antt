-- Records up to a place are the octets after the head up to there.
use Rattle.std.proofs.{Common.{◌≡◌, ℕ, ◌+◌, ◌≤◌, List, [], ◌∷◌, ◌++◌, All, length, take, drop, refl, sym, ap, ◌∙◌, append_assoc, append-nil, length-append, length-drop, arith}, Math.Seq.{take-add}, lemmas.List.{drop-drop, drop-take, length-take-le, take-append-drop, Elements.{All-nil, All-push}, Folds.{concat-append}}}
use Rattle.std.specs.List.{concat}
use Rattle.byteorder.specs.Numbers.{big_from-take, little_from-take}
use Rattle.amt_pcap.specs.{declared.{capture.{Capture.{Capture}, Item.{Item}}, format.{FieldOrder.{FieldOrder, TheVariants.{Big, Little}}, Format.{Format}}}, Capture.{AreRecords, HasParts, IsCapture, IsCounted, format_of, magic_of, number_at, order_in}}
use Rattle.amt_pcap.proofs.laws.captures_are_whole.Goals as goal

-- a record's own octets have its count
same_fields : (n at : ℕ) (bytes : List ℕ) → drop 8 (take (16 + n) (drop at bytes)) ≡ take (8 + n) (drop (at + 8) bytes)
same_fields n at bytes =
    let split : 16 + n ≡ 8 + (8 + n) = omega arith in
    rw (split, drop-take 8 (8 + n) (drop at bytes), drop-drop 8 at bytes) refl

own_count : (order : FieldOrder) (n at : ℕ) (bytes : List ℕ) → number_at order 4 (take (16 + n) (drop at bytes)) 8 ≡ number_at order 4 bytes (at + 8)
own_count Big n at bytes = rw (same_fields n at bytes) (big_from-take 0 4 (8 + n) (drop (at + 8) bytes) (omega arith))
own_count Little n at bytes = rw (same_fields n at bytes) (little_from-take 0 4 (8 + n) (drop (at + 8) bytes) (omega arith))

counted : (order : FieldOrder) (n at : ℕ) (bytes : List ℕ) → n ≡ number_at order 4 bytes (at + 8) → at + 16 + n ≤ length bytes
    → IsCounted order (take (16 + n) (drop at bytes))
counted order n at bytes is whole =
    length-take-le (16 + n) (drop at bytes) (omega (arith, length-drop at bytes)) ∙ ap (λ (k : ℕ). 16 + k) (is ∙ sym (own_count order n at bytes))

-- a record more
push : (n at : ℕ) (bytes : List ℕ) (records : List (List ℕ)) → take at bytes ≡ take 24 bytes ++ concat records
    → take (at + 16 + n) bytes ≡ take 24 bytes ++ concat (records ++ take (16 + n) (drop at bytes) ∷ [])
push n at bytes records before =
    let one = take (16 + n) (drop at bytes) in
    let last : concat (records ++ one ∷ []) ≡ concat records ++ one = concat-append records (one ∷ []) ∙ ap (λ (xs : List ℕ). concat records ++ xs) (append-nil one) in
    let sum : at + 16 + n ≡ at + (16 + n) = omega arith in
    rw (sum, take-add at (16 + n) bytes, before, last) (append_assoc (take 24 bytes) (concat records) one)

record Front (order : FieldOrder) (bytes : List ℕ) (items : List Item) (at : ℕ) : Type 0 where
  records : List (List ℕ)
  parts : take at bytes ≡ take 24 bytes ++ concat records
  lengths : All (IsCounted order) records
  one_each : length records ≡ length items

front : (format : Format) (bytes : List ℕ) (items : List Item) (at : ℕ) → AreRecords format bytes items at → Front format.order bytes items at
front format bytes items at AreRecords.none =
    record { records = []; parts = sym (append-nil (take 24 bytes)); lengths = All-nil (IsCounted format.order); one_each = refl }
front format bytes items at (AreRecords.more before place records whole) =
    let earlier = front format bytes before place records in
    let n = number_at format.order 4 bytes (place + 8) in
    record {
      records = earlier.records ++ take (16 + n) (drop place bytes) ∷ [];
      parts = push n place bytes earlier.records earlier.parts;
      lengths = All-push (IsCounted format.order) earlier.records (take (16 + n) (drop place bytes)) earlier.lengths (counted format.order n place bytes refl whole);
      one_each = length-append earlier.records _ ∙ (ap (λ (k : ℕ). k + 1) earlier.one_each ∙ sym (length-append before _));
    }

whole_parts : (bytes : List ℕ) (capture : Capture) → IsCapture bytes capture → HasParts bytes capture
whole_parts bytes capture is =
    let all = front is.format bytes capture.items is.end is.records in
    let order : order_in (format_of (magic_of bytes)) ≡ is.format.order = ap order_in is.head.magic in
    record {
      head = take 24 bytes;
      records = all.records;
      tail = drop is.end bytes;
      parts = sym (take-append-drop is.end bytes) ∙ ap (λ (xs : List ℕ). xs ++ drop is.end bytes) all.parts;
      head_length = length-take-le 24 bytes is.head.whole;
      record_lengths = rw order all.lengths;
      one_each = all.one_each;
      tail_length = omega (arith, length-drop is.end bytes, is.whole);
    }

pub returns : goal.returns
returns c = λ bytes capture is. whole_parts bytes capture is
