-- What is wrong with a line of a script of dual gateways. What is said of it here is what differs from a pair's script.
use Rattle.std.specs.Prelude.{◌≡◌, ◌≢◌, ℕ, ◌⊎◌, true, false, List, [], ◌∷◌, length}
use Rattle.amt_values.specs.{Text.{IsPeerText}, declared.peer.Peer.{Peer}}
use Rattle.amt_script.specs.{SetLine.{FailsToSet}, declared.setting.Setting.{Setting}}
use Rattle.group_records.specs.declared.family.Family.{Family}
use Rattle.script_lines.specs.{Form.{Fails, IsFamilyText, a_family, an_address4, an_address6}, declared.reason.Reason.{Reason}}
use Rattle.script_lines.specs.declared.reason.Reason.TheVariants as reasons
use Rattle.pair_script.specs.{Fault.{FailsAfterOpening as PairFails, FailsToCall, HasNoName, HasNoPeer}, Opening.{IsFree, opening_word}, declared.opening.Opening.{Opening}}
use Rattle.pair_script.specs.declared.opening.Opening.TheVariants as openings
use Rattle.amt_dual_script.specs.{Gateways.{is_name_given, is_peer_given}, declared.script.{DualGateway.{DualGateway}, DualItem.{DualItem}}}

-- the first field is the text of a peer that a gateway has
abbrev pub RepeatsPeer : List DualGateway → List (List ℕ) → Type 0
RepeatsPeer gateways [] = ⊥
RepeatsPeer gateways (text ∷ rest) = (peer : Peer) × IsPeerText peer text × (is_peer_given gateways peer ≡ true)

-- the name or the peer is a gateway's, whatever follows
abbrev pub IsGivenTwice : List DualGateway → List (List ℕ) → Type 0
IsGivenTwice gateways [] = ⊥
IsGivenTwice gateways (name ∷ rest) = (is_name_given gateways name ≡ true) ⊎ RepeatsPeer gateways rest

-- no IPv4 address has the text of the first source, or no IPv6 address that of the second
abbrev pub HasNoSources : List (List ℕ) → Type 0
HasNoSources (name ∷ peer ∷ source4 ∷ source6 ∷ rest) = Fails an_address4 source4 reasons.Address ⊎ Fails an_address6 source6 reasons.Address
HasNoSources values = ⊥

-- what is wrong with the fields after `gateway`, whatever stands above
abbrev pub FailsAsGateway : List (List ℕ) → Reason → Type 0
FailsAsGateway values reasons.Count = length values ≢ 4
FailsAsGateway values reasons.Address = HasNoSources values
FailsAsGateway values reasons.Peer = HasNoPeer values
FailsAsGateway values reasons.Name = HasNoName values
FailsAsGateway values reason = ⊥

-- and after these gateways and items
abbrev pub FailsToAdd : List DualGateway → List DualItem → List (List ℕ) → Reason → Type 0
FailsToAdd gateways items values reasons.Late = items ≢ []
FailsToAdd gateways items values reasons.Twice = IsGivenTwice gateways values
FailsToAdd gateways items values reason = FailsAsGateway values reason

-- the first field after a gateway's name is a family, and what is wrong with those after it is this
abbrev pub FailsInFamily : List ℕ → List (List ℕ) → Reason → Type 0
FailsInFamily text values reason = (family : Family) × IsFamilyText family text × FailsToCall family values reason

-- what is wrong with the fields after a gateway's name: there is none, the first is no family, or those after it say no
-- socket call of the family
abbrev pub FailsToCallMachine : List (List ℕ) → Reason → Type 0
FailsToCallMachine [] reasons.Count = Unit {0}
FailsToCallMachine [] reason = ⊥
FailsToCallMachine (text ∷ values) reasons.Word = Fails a_family text reasons.Word ⊎ FailsInFamily text values reasons.Word
FailsToCallMachine (text ∷ values) reason = FailsInFamily text values reason

-- what is wrong with the fields after such a first word, after these settings, gateways and items
abbrev pub FailsAfterOpening : List Setting → List DualGateway → List DualItem → Opening → List (List ℕ) → Reason → Type 0
FailsAfterOpening given gateways items openings.Set values reason = FailsToSet given items values reason
FailsAfterOpening given gateways items openings.Gateway values reason = FailsToAdd gateways items values reason
FailsAfterOpening given gateways items opening values reason = PairFails [] [] [] opening values reason

-- What is wrong with a line of these fields, after these settings, gateways and items, by its first word: it is one of those
-- that begin lines of a pair's script, or a gateway's name, or neither.
pub data FailsAfter (given : List Setting) (gateways : List DualGateway) (items : List DualItem) (line : List (List ℕ)) (reason : Reason) : Type 0 where
  of_opening : (opening : Opening) (values : List (List ℕ)) → line ≡ opening_word opening ∷ values
      → FailsAfterOpening given gateways items opening values reason → FailsAfter given gateways items line reason
  of_call : (name : List ℕ) (values : List (List ℕ)) → line ≡ name ∷ values → IsFree name
      → is_name_given gateways name ≡ true → FailsToCallMachine values reason → FailsAfter given gateways items line reason
  of_none : (word : List ℕ) (values : List (List ℕ)) → line ≡ word ∷ values → IsFree word
      → is_name_given gateways word ≡ false → reason ≡ reasons.Word → FailsAfter given gateways items line reason
