-- The pieces of a text, and the datagrams of an answer.
use Rattle.std.{proofs.{Common.{◌≡◌, ◌≤◌, ◌<◌, ◌^◌, ℕ, ◌+◌, ◌==◌, true, List, [], ◌∷◌, ◌++◌, length, take, drop, decimal, All, refl, sym, ap, subst, ◌∙◌, append_assoc, length-append, arith}, lemmas.{Bool.{cond_both, eqb-false}, Fmt.{length-decimal-le_wide}, List.{append-nil, drop_at, length-drop, length-take, take_at, take-append-drop}, List.Elements.{All-cons, All-nil, All-same}}}, specs.List.{concat}}
use Rattle.amt_values.specs.declared.peer.Peer.{Peer}
use Rattle.amt_ports.specs.Devices.{LinkSeen}
use Rattle.script_lines.specs.{Texts.{closing_text, reason_word}, declared.reason.Reason.{Reason}}
use Rattle.script_lines.specs.declared.reason.Reason.TheVariants as reasons
use Rattle.control_lines.{specs.Answer.{AreCut, HasReplied, HasSentTo, IsAnswer, bad_text, closed, is_answer, lines_length, piece_length}, proofs.Cutting.{piece_small}}

-- a text is cut in one way
pub AreCut-unique : (text : List ℕ) (pieces others : List (List ℕ)) → AreCut text pieces → AreCut text others → pieces ≡ others
AreCut-unique text pieces others (AreCut.whole _ short) (AreCut.whole _ _) = refl
AreCut-unique text pieces others (AreCut.whole _ short) (AreCut.cut _ _ long _) = absurd (omega (arith, short, long))
AreCut-unique text pieces others (AreCut.cut _ _ long _) (AreCut.whole _ short) = absurd (omega (arith, short, long))
AreCut-unique text pieces others (AreCut.cut _ later _ one) (AreCut.cut _ more _ other) =
    ap (λ (rest : List (List ℕ)). take (piece_length (take 1376 text)) text ∷ rest) (AreCut-unique _ later more one other)

-- there is a piece after another one
closed-cons : (piece text line : List ℕ) (pieces : List (List ℕ)) → AreCut text pieces → closed (piece ∷ pieces) line ≡ piece ∷ closed pieces line
closed-cons piece text line pieces (AreCut.whole _ _) = refl
closed-cons piece text line pieces (AreCut.cut _ _ _ _) = refl

-- the datagrams carry the text and then the line
pub concat-closed : (text line : List ℕ) (pieces : List (List ℕ)) → AreCut text pieces → concat (closed pieces line) ≡ text ++ line
concat-closed text line pieces (AreCut.whole _ _) = append-nil (text ++ line)
concat-closed text line pieces (AreCut.cut _ later _ are) =
    let size = piece_length (take 1376 text) in
    ap concat (closed-cons (take size text) (drop size text) line later are)
    ∙ ap (λ (rest : List ℕ). take size text ++ rest) (concat-closed (drop size text) line later are)
    ∙ sym (append_assoc (take size text) (drop size text) line)
    ∙ ap (λ (whole : List ℕ). whole ++ line) (take-append-drop size text)

pub length-closed : (pieces : List (List ℕ)) (line : List ℕ) → length (closed pieces line) ≡ length pieces
length-closed [] line = refl
length-closed (last ∷ []) line = refl
length-closed (piece ∷ next ∷ more) line = omega (arith, length-closed (next ∷ more) line)

-- a piece of some octets has some
piece_some : (start : List ℕ) → 0 < length start → 0 < piece_length start
piece_some start some =
    cond_both (lines_length start == 0) (length start) (lines_length start) (λ (size : ℕ). 0 < size) (λ _. some)
    (λ lines. let apart = eqb-false (lines_length start) 0 lines in omega (arith, apart))

piece_begins : (text : List ℕ) → 1376 < length text → 0 < piece_length (take 1376 text)
piece_begins text long = piece_some (take 1376 text) (omega (arith, long, length-take 1376 text))

-- there are no more pieces than octets, and one
pub few_pieces : (text : List ℕ) (pieces : List (List ℕ)) → AreCut text pieces → length pieces ≤ length text + 1
few_pieces text pieces (AreCut.whole _ _) = omega arith
few_pieces text pieces (AreCut.cut _ later long are) =
    let size = piece_length (take 1376 text) in
    omega (arith, long, few_pieces (drop size text) later are, length-drop size text, piece_begins text long)

closing_small : (count : ℕ) → count < 10 ^ 20 → length (closing_text count) ≤ 24
unfolding closing_text
closing_small count small =
    omega (arith, length-decimal-le_wide 20 count (omega arith) small (omega (arith, small)), length-append (decimal count) (10 ∷ []))

abbrev IsKnown : List ℕ → Type 0
IsKnown datagram = is_answer datagram ≡ true

abbrev IsSmall : List ℕ → Type 0
IsSmall datagram = length datagram ≤ 1400

closed_small : (text line : List ℕ) (pieces : List (List ℕ)) → length line ≤ 24 → AreCut text pieces → All IsSmall (closed pieces line)
closed_small text line pieces small (AreCut.whole _ short) =
    All-cons IsSmall (text ++ line) [] (omega (arith, small, short, length-append text line)) (All-nil IsSmall)
closed_small text line pieces small (AreCut.cut _ later long are) =
    let size = piece_length (take 1376 text) in
    All-same IsSmall (closed (take size text ∷ later) line) (take size text ∷ closed later line) (closed-cons (take size text) (drop size text) line later are)
    (All-cons IsSmall (take size text) (closed later line) (omega (arith, piece_small text, length-take size text)) (closed_small (drop size text) line later small are))

-- each datagram of an answer is small
pub IsAnswer-small : (text : List ℕ) (datagrams : List (List ℕ)) → length text < 2 ^ 64 → IsAnswer text datagrams → All (λ datagram. length datagram ≤ 1400) datagrams
IsAnswer-small text datagrams bound answer =
    let count = length answer.0 in
    All-same IsSmall datagrams (closed answer.0 (closing_text count)) answer.2
    (closed_small text (closing_text count) answer.0 (closing_small count (omega (arith, bound, few_pieces text answer.0 answer.1))) answer.1)

-- the datagrams of an answer put together
pub IsAnswer-whole : (text : List ℕ) (datagrams : List (List ℕ)) → IsAnswer text datagrams → concat datagrams ≡ text ++ closing_text (length datagrams)
IsAnswer-whole text datagrams answer =
    let count = length answer.0 in
    let many : length datagrams ≡ count = ap length answer.2 ∙ length-closed answer.0 (closing_text count) in
    ap concat answer.2 ∙ concat-closed text (closing_text count) answer.0 answer.1 ∙ ap (λ (number : ℕ). text ++ closing_text number) (sym many)

pub IsAnswer-unique : (text : List ℕ) (datagrams others : List (List ℕ)) → IsAnswer text datagrams → IsAnswer text others → datagrams ≡ others
IsAnswer-unique text datagrams others one other =
    one.2 ∙ ap (λ (pieces : List (List ℕ)). closed pieces (closing_text (length pieces))) (AreCut-unique text one.0 other.0 one.1 other.1) ∙ sym other.2

-- each datagram of a short answer is known, if the one datagram is
pub IsAnswer-known : (text : List ℕ) (datagrams : List (List ℕ)) → length text ≤ 1376 → is_answer (text ++ closing_text 1) ≡ true → IsAnswer text datagrams
    → All (λ datagram. is_answer datagram ≡ true) datagrams
IsAnswer-known text datagrams short known (_, AreCut.whole _ _, are) =
    All-same IsKnown datagrams ((text ++ closing_text 1) ∷ []) are (All-cons IsKnown (text ++ closing_text 1) [] known (All-nil IsKnown))
IsAnswer-known text datagrams short known (_, AreCut.cut _ _ long _, are) = absurd (omega (arith, short, long))

word_short : (reason : Reason) → length (reason_word reason) ≤ 7
word_short reasons.Long = omega arith
word_short reasons.Word = omega arith
word_short reasons.Late = omega arith
word_short reasons.Twice = omega arith
word_short reasons.Count = omega arith
word_short reasons.Number = omega arith
word_short reasons.Hex = omega arith
word_short reasons.Address = omega arith
word_short reasons.Peer = omega arith
word_short reasons.Name = omega arith
word_short reasons.Mode = omega arith
word_short reasons.Group = omega arith
word_short reasons.Range = omega arith
word_short reasons.Missing = omega arith

pub bad_short : (reason : Reason) → length (bad_text reason) ≤ 1376
bad_short reason = omega (arith, word_short reason, length-append (reason_word reason) (10 ∷ []))

-- the line that closes an answer is known alone
pub closing_known : is_answer ([] ++ closing_text 1) ≡ true
unfolding closing_text
closing_known = refl

-- the pieces that were counted are those that were sent
pub replied : (to : Peer) (text octets : List ℕ) (size count : ℕ) (before after : LinkSeen) → octets ≡ text ++ closing_text count → size ≡ length text
    → (pieces : List (List ℕ)) × AreCut text pieces × (count ≡ length pieces)
    → (pieces : List (List ℕ)) × AreCut (take size octets) pieces × HasSentTo to (closed pieces (drop size octets)) before after
    → HasReplied to text before after
replied to text octets size count before after is long counted sent =
    let first : take size octets ≡ text = ap (take size) is ∙ take_at text (closing_text count) size (sym long) in
    let line : drop size octets ≡ closing_text count = ap (drop size) is ∙ drop_at text (closing_text count) size (sym long) in
    let are : AreCut text sent.0 = subst (λ (octets : List ℕ). AreCut octets sent.0) first sent.1 in
    let many : count ≡ length sent.0 = counted.2 ∙ ap length (AreCut-unique text counted.0 sent.0 counted.1 are) in record {
      datagrams = closed sent.0 (drop size octets);
      answer = (sent.0, are, ap (closed sent.0) (line ∙ ap closing_text many));
      tried = sent.2;
    }
