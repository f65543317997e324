-- The lines of a capture's datagrams say them.
use Rattle.std.{proofs.{Common.{◌≡◌, ℕ, ◌+◌, ◌/◌, ◌<◌, ◌≤◌, ◌==◌, false, List, [], ◌∷◌, ◌++◌, length, get_or, take, slice_index, All, flat_map, Option, None, Some, refl, sym, ap, subst, ◌∙◌, ne_eqb, length-drop, length-take, arith, rules}, lemmas.{Bool.{cond_both}, List.{Concat.{flat_map-cons}, Elements.{All-cons, All-from_recursion, All-get_or, All-nil, recursion_from_All}}}}, specs.{List.{AllByRecursion}, Option.{IfSome}}}
use Rattle.hex.specs.Hex.{encode_with, lower_digits}
use Rattle.amt_values.specs.Octets.{AreOctets}
use Rattle.script_lines.{specs.{Lines.{says_nothing}, Script.{Spells}, Texts.{hex_text}}, proofs.{Pieces.{GoesOn, end_goes_on, goes_on_whole, line_goes_on, piece_of_line}, Words.{fields-word-last, hex_length, hex_word, plain_glyphs}}}
use Rattle.amt_dump.specs.Lines.{dump_kind}
use Rattle.amt_pcap.specs.{declared.capture.{Capture.{Capture}, Item.{Item}}, Texts.{HasDumpLine, capture_lines_text, is_of_tunnel, payload_line, tunnel_payloads, tunnel_payloads_if, tunnel_payloads_in}, Udp.{Datagram, datagram_if, datagram_of, has_udp, udp_place}}
use Rattle.amt_pcap.proofs.Loops.{flat_map-next}

short_payload : (packet : List ℕ) (place : Option ℕ) → length packet ≤ 65535 → IfSome (datagram_if packet place) (λ one. length one.payload ≤ 65535)
short_payload packet None short = tt
short_payload packet (Some place) short =
    cond_both (has_udp packet place) _ None (λ found. IfSome found (λ one. length one.payload ≤ 65535))
    (λ _. omega (arith, length-take {A = ℕ}, length-drop {A = ℕ})) (λ _. tt)

-- a datagram is no longer than its packet
pub payload_short : (packet : List ℕ) (datagram : Datagram) → datagram_of packet ≡ Some datagram → length packet ≤ 65535 → length datagram.payload ≤ 65535
payload_short packet datagram found short =
    subst (λ (one : Option Datagram). IfSome one (λ d. length d.payload ≤ 65535)) found (short_payload packet (udp_place packet) short)

pub datagram_said : (datagram : Datagram) → HasDumpLine datagram.payload → All HasDumpLine (tunnel_payloads_if (Some datagram))
datagram_said datagram said =
    cond_both (is_of_tunnel datagram.ends) (datagram.payload ∷ []) [] (All HasDumpLine) (λ _. All-cons HasDumpLine datagram.payload [] said (All-nil HasDumpLine))
    (λ _. All-nil HasDumpLine)

digit_above : (d : ℕ) → d < 16 → 36 ≤ slice_index lower_digits d
digit_above d small = All-get_or (λ digit. 36 ≤ digit) lower_digits d 0 small (All-from_recursion (λ digit. 36 ≤ digit) lower_digits (search rules))

no_comment : (payload : List ℕ) → AreOctets payload → (slice_index (hex_text payload) 0 == 35) ≡ false
unfolding encode_with
no_comment [] octets = refl
no_comment (octet ∷ rest) octets =
    let small : octet < 256 = octets 0 in
    let above = digit_above (octet / 16) (omega (arith, small)) in
    ne_eqb (slice_index lower_digits (octet / 16)) 35 (λ same. omega (arith, above, same))

payloads_go_on : (payloads past : List (List ℕ)) → AllByRecursion HasDumpLine payloads → GoesOn dump_kind past payloads (flat_map payload_line payloads)
payloads_go_on [] past each = end_goes_on dump_kind past
payloads_go_on (payload ∷ more) past each =
    let text = hex_text payload in
    let word = hex_word payload each.0.octets each.0.short in
    let alone = fields-word-last text word.some word.glyphs in
    let plain = plain_glyphs text word.glyphs in
    let piece = piece_of_line text plain (omega (arith, hex_length payload each.0.short)) in
    subst (GoesOn dump_kind past (payload ∷ more)) (sym (flat_map-cons payload_line payload more))
    (line_goes_on dump_kind past payload more (payload_line payload) text (flat_map payload_line more) piece
    (ap says_nothing alone ∙ no_comment payload each.0.octets) plain (record { text = text; parts = alone; names = word.names })
    (payloads_go_on more (past ++ payload ∷ []) each.1))

pub lines_spelled : (capture : Capture) → All HasDumpLine (tunnel_payloads capture) → Spells dump_kind (tunnel_payloads capture) (capture_lines_text capture)
unfolding capture_lines_text
lines_spelled capture each =
    let all = payloads_go_on (tunnel_payloads capture) [] (recursion_from_All HasDumpLine (tunnel_payloads capture) each) in
    record { said = tunnel_payloads capture; all_lines = goes_on_whole dump_kind (tunnel_payloads capture) _ all; made = refl }

-- the datagrams so far, and that of the next item
pub tunnelled-next : (all : List Item) (i : ℕ) (item : Item) → i < length all → item ≡ get_or all i item
    → flat_map (λ one. tunnel_payloads_in one.packet) (take (i + 1) all) ≡ flat_map (λ one. tunnel_payloads_in one.packet) (take i all) ++ tunnel_payloads_in item.packet
tunnelled-next all i item inside is =
    let found : Item → List (List ℕ) = λ one. tunnel_payloads_in one.packet in
    flat_map-next found all i item inside ∙ ap (λ (one : Item). flat_map found (take i all) ++ found one) (sym is)
