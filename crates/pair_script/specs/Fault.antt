-- What is wrong with a line of a pair's script.
use Rattle.std.specs.Prelude.{◌≡◌, ◌≢◌, ℕ, ◌⊎◌, true, List, [], ◌∷◌, length, IsSome, None, Some}
use Rattle.amt_values.specs.{Text.{IsPeerText}, declared.peer.Peer.{Peer}}
use Rattle.amt_script.specs.{Fault.{FailsAs as RelayFails}, SetLine.{FailsToSet}, declared.setting.Setting.{Setting}}
use Rattle.amt_script.specs.declared.kind.Kind.TheVariants as kinds
use Rattle.gateway_script.specs.SocketLine.{FailsAsCall}
use Rattle.group_records.specs.declared.family.Family.{Family}
use Rattle.script_lines.specs.{Form.{Fails, IsFamilyText, a_family, a_moment, a_peer, an_address_of}, Shape.{FailsIn}, declared.reason.Reason.{Reason}}
use Rattle.script_lines.specs.declared.reason.Reason.TheVariants as reasons
use Rattle.pair_script.specs.{Gateways.{family_of, gateway_named, is_peer_given}, Opening.{IsFree, IsGatewayName, opening_word}, declared.{opening.Opening.{Opening}, script.{PairGateway.{PairGateway}, PairItem.{PairItem}}}}
use Rattle.pair_script.specs.declared.opening.Opening.TheVariants as openings

-- the reasons for which the fields after a line's first word fail
abbrev pub order_of_values : List Reason
order_of_values =
    reasons.Count ∷ reasons.Number ∷ reasons.Hex ∷ reasons.Address ∷ reasons.Peer ∷ reasons.Name ∷ reasons.Mode ∷ reasons.Group ∷ reasons.Range ∷ []

-- the reasons in a line that is short and plain
abbrev pub order_of_reasons : List Reason
order_of_reasons = reasons.Word ∷ reasons.Late ∷ reasons.Twice ∷ order_of_values

-- the third field is there, and is no family
abbrev pub HasNoFamily : List (List ℕ) → Type 0
HasNoFamily (name ∷ peer ∷ family ∷ rest) = Fails a_family family reasons.Word
HasNoFamily values = ⊥

-- the first field is the text of a peer that a gateway has
abbrev pub RepeatsPeer : List PairGateway → List (List ℕ) → Type 0
RepeatsPeer gateways [] = ⊥
RepeatsPeer gateways (text ∷ rest) = (peer : Peer) × IsPeerText peer text × (is_peer_given gateways peer ≡ true)

-- the name or the peer is a gateway's, whatever follows
abbrev pub IsGivenTwice : List PairGateway → List (List ℕ) → Type 0
IsGivenTwice gateways [] = ⊥
IsGivenTwice gateways (name ∷ rest) = IsSome (gateway_named gateways name) ⊎ RepeatsPeer gateways rest

-- no address of the family has the text of the source
abbrev pub HasNoSource : List (List ℕ) → Type 0
HasNoSource (name ∷ peer ∷ family ∷ source ∷ rest) =
    (its_family : Family) → IsFamilyText its_family family → Fails (an_address_of (Some its_family)) source reasons.Address
HasNoSource values = ⊥

-- no peer has the text of the second field
abbrev pub HasNoPeer : List (List ℕ) → Type 0
HasNoPeer (name ∷ peer ∷ rest) = Fails a_peer peer reasons.Peer
HasNoPeer values = ⊥

-- the first field is no name for a gateway
abbrev pub HasNoName : List (List ℕ) → Type 0
HasNoName (name ∷ rest) = IsGatewayName name → ⊥
HasNoName values = ⊥

-- what is wrong with the fields after `gateway`, whatever stands above
abbrev pub FailsAsGateway : List (List ℕ) → Reason → Type 0
FailsAsGateway values reasons.Word = HasNoFamily values
FailsAsGateway values reasons.Count = length values ≢ 4
FailsAsGateway values reasons.Address = HasNoSource values
FailsAsGateway values reasons.Peer = HasNoPeer values
FailsAsGateway values reasons.Name = HasNoName values
FailsAsGateway values reason = ⊥

-- and after these gateways and items
abbrev pub FailsToAdd : List PairGateway → List PairItem → List (List ℕ) → Reason → Type 0
FailsToAdd gateways items values reasons.Late = items ≢ []
FailsToAdd gateways items values reasons.Twice = IsGivenTwice gateways values
FailsToAdd gateways items values reason = FailsAsGateway values reason

-- what is wrong with the fields after a gateway's name: there is none, or they say no socket call
abbrev pub FailsToCall : Family → List (List ℕ) → Reason → Type 0
FailsToCall family [] reasons.Count = Unit {0}
FailsToCall family [] reason = ⊥
FailsToCall family (word ∷ more) reason = FailsAsCall family (word ∷ more) reason

-- the fields are not one number below 2^62
abbrev pub FailsAsNumber : List (List ℕ) → Reason → Type 0
FailsAsNumber values reason = FailsIn (record { forms = a_moment ∷ []; repeated = None }) values reason

-- what is wrong with the fields after such a first word, after these settings, gateways and items
abbrev pub FailsAfterOpening : List Setting → List PairGateway → List PairItem → Opening → List (List ℕ) → Reason → Type 0
FailsAfterOpening given gateways items openings.Set values reason = FailsToSet given items values reason
FailsAfterOpening given gateways items openings.Gateway values reason = FailsToAdd gateways items values reason
FailsAfterOpening given gateways items openings.Moment values reason = RelayFails kinds.Moment values reason
FailsAfterOpening given gateways items openings.Secret values reason = RelayFails kinds.Secret values reason
FailsAfterOpening given gateways items openings.Packet values reason = RelayFails kinds.Packet values reason
FailsAfterOpening given gateways items openings.Show values reason = RelayFails kinds.Show values reason
FailsAfterOpening given gateways items openings.Up values reason = FailsAsNumber values reason
FailsAfterOpening given gateways items openings.Down values reason = FailsAsNumber values reason

-- What is wrong with a line of these fields, after these settings, gateways and items, by its first word: it
-- is one of those that begin lines, or a gateway's name, or neither.
pub data FailsAfter (given : List Setting) (gateways : List PairGateway) (items : List PairItem) (line : List (List ℕ)) (reason : Reason) : Type 0 where
  of_opening : (opening : Opening) (values : List (List ℕ)) → line ≡ opening_word opening ∷ values
      → FailsAfterOpening given gateways items opening values reason → FailsAfter given gateways items line reason
  of_call : (name : List ℕ) (gateway : PairGateway) (values : List (List ℕ)) → line ≡ name ∷ values → IsFree name
      → gateway_named gateways name ≡ Some gateway → FailsToCall (family_of gateway) values reason → FailsAfter given gateways items line reason
  of_none : (word : List ℕ) (values : List (List ℕ)) → line ≡ word ∷ values → IsFree word
      → gateway_named gateways word ≡ None → reason ≡ reasons.Word → FailsAfter given gateways items line reason
