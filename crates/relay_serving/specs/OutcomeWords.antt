-- The words by which outcomes are counted: of each, the first that a replay prints of it.
use Rattle.std.specs.Prelude.{◌≡◌, ℕ, List, [], ◌∷◌, codes, map, Result, Ok, Err}
use Rattle.control_lines.specs.Tally.{HasCounted, numbers_of}
use Rattle.inner_datagrams.specs.declared.head.Head.{Head}
use Rattle.response_mac.specs.declared.secret.Secret.{Secret}
use Rattle.relay_machine.specs.{Courses.{outcomes_of}, declared.{event.Event.{Event}, settings.Settings.{Settings}}}
use Rattle.relay_machine.specs.declared.outcome.Outcome.{Outcome, TheVariants.{Moved, Rotated, Resized, BadSource, Undecoded, WrongKind, Advertised, Queried, BadMac, Unlawful, Over, Updated, TornDown, NoTunnel, Copied, TooBig, NotForwarded}}
use Rattle.relay_serving.specs.declared.outcomes.Outcomes.{Outcomes}

-- in the order in which they are reported
abbrev pub outcome_words : List (List ℕ)
outcome_words = codes "moved" ∷ codes "rotated" ∷ codes "resized" ∷ codes "badsource" ∷ codes "refused" ∷ codes "wrongkind" ∷ codes "advertised" ∷ codes "queried" ∷ codes "badmac"
    ∷ codes "unlawful" ∷ codes "limit" ∷ codes "updated" ∷ codes "torndown" ∷ codes "notunnel" ∷ codes "copied" ∷ codes "toobig" ∷ codes "notforwarded" ∷ []

-- the word of an outcome, whatever more is known of it
abbrev pub word_of : Outcome → List ℕ
word_of (Moved moment) = codes "moved"
word_of Rotated = codes "rotated"
word_of Resized = codes "resized"
word_of BadSource = codes "badsource"
word_of (Undecoded refusal) = codes "refused"
word_of (WrongKind kind) = codes "wrongkind"
word_of Advertised = codes "advertised"
word_of (Queried v6 limited) = codes "queried"
word_of BadMac = codes "badmac"
word_of (Unlawful fault) = codes "unlawful"
word_of (Over fault) = codes "limit"
word_of Updated = codes "updated"
word_of TornDown = codes "torndown"
word_of NoTunnel = codes "notunnel"
word_of (Copied number) = codes "copied"
word_of (TooBig octets) = codes "toobig"
word_of (NotForwarded cause) = codes "notforwarded"

-- the word of a packet's outcome, by the head that it is copied by, or by why it isn't copied
abbrev pub packet_word : Result Head Outcome → List ℕ
packet_word (Ok head) = codes "copied"
packet_word (Err outcome) = word_of outcome

-- one word more is counted
pub record CountsWord (word : List ℕ) (before after : Outcomes) : Type 0 where
  pub numbers : HasCounted outcome_words word before.tally after.tally
  pub same_limit : after.limit ≡ before.limit

-- the words of what these events came to are counted, each in its place
pub record IsTallied (settings : Settings) (first : Secret) (events : List Event) (outcomes : Outcomes) : Type 0 where
  pub numbers_are : outcomes.tally ≡ numbers_of outcome_words (map word_of (outcomes_of settings first events))
  pub limit_is : outcomes.limit ≡ settings.packet_limit
