-- Answers to control lines: a text in pieces, a datagram each, and a line after the last one.
use Rattle.std.specs.{Prelude.{◌≡◌, ◌≤◌, ◌<◌, ℕ, ◌-◌, ◌==◌, ◌||◌, Bool, true, false, not, nat_eq, List, [], ◌∷◌, ◌++◌, length, take, drop, map, codes, if◌then◌else◌}, List.{starts_with, suffix_len}}
use Rattle.amt_values.specs.declared.peer.Peer.{Peer}
use Rattle.amt_ports.specs.{Devices.{LinkSeen}, Tried.{HasTried}}
use Rattle.script_lines.specs.{Texts.{closing_text, reason_word}, declared.reason.Reason.{Reason}}

-- `bad REASON`, of a line that asks for nothing
abbrev pub bad_text : Reason → List ℕ
bad_text reason = codes "bad " ++ (reason_word reason ++ (10 ∷ []))

-- the octets begin as what answers a line that asks for nothing, or one of which nothing is said
abbrev pub is_answer : List ℕ → Bool
is_answer octets = starts_with nat_eq octets (codes "bad ") || starts_with nat_eq octets (codes ". ")

-- how many octets there are up to the last line feed, with it
abbrev pub lines_length : List ℕ → ℕ
lines_length octets = length octets - suffix_len (λ octet. not (octet == 10)) octets

-- how many of a text's first octets are its next piece: those up to the last line feed, or else all of them
abbrev pub piece_length : List ℕ → ℕ
piece_length start = if lines_length start == 0 then length start else lines_length start

-- a text is cut into these pieces, each within the first 1,376 octets of what is left
pub data AreCut : List ℕ → List (List ℕ) → Type 0 where
  whole : (text : List ℕ) → length text ≤ 1376 → AreCut text (text ∷ [])
  cut : (text : List ℕ) (pieces : List (List ℕ)) → 1376 < length text
      → AreCut (drop (piece_length (take 1376 text)) text) pieces
      → AreCut text (take (piece_length (take 1376 text)) text ∷ pieces)

-- the line follows the last piece
abbrev pub closed : List (List ℕ) → List ℕ → List (List ℕ)
closed [] line = []
closed (last ∷ []) line = (last ++ line) ∷ []
closed (piece ∷ next ∷ more) line = piece ∷ closed (next ∷ more) line

-- the datagrams carry the text, and after it `. N`, their number
abbrev pub IsAnswer : List ℕ → List (List ℕ) → Type 0
IsAnswer text datagrams =
    (pieces : List (List ℕ)) × AreCut text pieces × (datagrams ≡ closed pieces (closing_text (length pieces)))

-- a datagram to a peer
abbrev pub sent_to : Peer → List ℕ → Peer × List ℕ
sent_to to octets = (to, octets)

-- exactly these datagrams were tried to the peer, in order; some were sent, and the link didn't take the others
pub record HasSentTo (to : Peer) (datagrams : List (List ℕ)) (before after : LinkSeen) : Type 0 where
  pub sent : ℕ
  pub unsent : ℕ
  pub tried : HasTried before.tried after.tried before.send_faults after.send_faults (map (sent_to to) datagrams) sent unsent

-- nothing was tried
pub record IsUntried (before after : LinkSeen) : Type 0 where
  pub same_tried : after.tried ≡ before.tried
  pub same_faults : after.send_faults ≡ before.send_faults

-- the answer was tried to the peer, and nothing else was tried
pub record HasReplied (to : Peer) (text : List ℕ) (before after : LinkSeen) : Type 0 where
  pub datagrams : List (List ℕ)
  pub answer : IsAnswer text datagrams
  pub tried : HasSentTo to datagrams before after

-- Exactly this text was tried to whoever asked, or nothing where memory refused it. A line that is itself an answer is
-- answered by nothing, so that two controls never answer one another for ever.
abbrev pub HasAnswer : (itself starved : Bool) → Peer → List ℕ → LinkSeen → LinkSeen → Type 0
HasAnswer true starved from text before after = (starved ≡ false) × IsUntried before after
HasAnswer false true from text before after = IsUntried before after
HasAnswer false false from text before after = HasReplied from text before after
