-- The joins of a gateway's file: the sockets that it opens first.
use Rattle.std.specs.Prelude.{◌≡◌, ◌⊎◌, ℕ, List, [], ◌∷◌, codes, Option, Some, None}
use Rattle.amt_values.specs.declared.address.Ip.{Ip}
use Rattle.group_records.specs.declared.family.Family.{Family}
use Rattle.script_lines.specs.Form.{IsGroupText, IsModeText, IsNameText, a_group, a_mode, a_name, an_address_of}
use Rattle.socket_merge.specs.{History.{AcceptedCall, Open, SocketCall, with_call}, Refusal.{refusal_of}}
use Rattle.source_filter.specs.Filter.{ascending_sources}
use Rattle.gateway_script.specs.Says.{AreAddressTexts}
use Rattle.toml.specs.Data.{Members}
use Rattle.amt_config.specs.{declared.{config.Join.{Join}, fault.ConfigFault.{ConfigFault}}, Arrays.{as_texts}, Key.{HasText, Key, a_text, read_at, required, some_texts}, Table.{AreKnown, IsFirstFault, key_words}}
use Rattle.amt_config.specs.declared.fault.ConfigFault.TheVariants as faults

-- the keys of a join, for a gateway of the family
abbrev pub join_keys : Option Family → List Key
join_keys family =
    required (codes "name") (a_text a_name)
    ∷ required (codes "group") (a_text (a_group family))
    ∷ required (codes "mode") (a_text a_mode)
    ∷ required (codes "sources") (some_texts (an_address_of family))
    ∷ []

-- the sources of a join, as they are listed
pub record AreListed (family : Option Family) (table : Members) (listed : List Ip) : Type 0 where
  pub texts : List (List ℕ)
  pub there : read_at as_texts (codes "sources") table ≡ Some texts
  pub addresses : AreAddressTexts family listed texts

-- the sources of a join are these addresses, which stand in any order and with repeats
pub record HasSources (family : Option Family) (table : Members) (sources : List Ip) : Type 0 where
  pub listed : List Ip
  pub are : AreListed family table listed
  pub ascend : sources ≡ ascending_sources listed

-- the table is this join
pub record JoinOf (family : Option Family) (table : Members) (join : Join) : Type 0 where
  pub known : AreKnown (key_words (join_keys family)) table
  pub name : HasText (codes "name") table (IsNameText join.name)
  pub group : HasText (codes "group") table (IsGroupText family join.group)
  pub mode : HasText (codes "mode") table (IsModeText join.filter.mode)
  pub sources : HasSources family table join.filter.sources

-- the call that opens its socket
abbrev pub call_of : Join → SocketCall
call_of join = Open join.name join.group join.filter

-- the calls with that of the join
abbrev pub with_join : Join → List AcceptedCall → List AcceptedCall
with_join join history = with_call 0 (call_of join) history

-- the socket may be opened after these calls
abbrev pub MayOpen : List AcceptedCall → Join → Type 0
MayOpen history join = refusal_of 0 (call_of join) history ≡ None

-- the tables are these joins, each of which may be opened after those before it
abbrev pub AreJoins : Option Family → List AcceptedCall → List Members → List Join → Type 0
AreJoins family history [] joins = joins ≡ []
AreJoins family history (table ∷ tables) joins =
    (join : Join) × (rest : List Join) × (joins ≡ join ∷ rest) × JoinOf family table join × MayOpen history join
    × AreJoins family (with_join join history) tables rest

-- a fault in a join carries the key under which all of them stand
abbrev pub in_join : ConfigFault → ConfigFault
in_join (faults.Unknown key) = faults.Unknown (codes "join")
in_join (faults.Missing key) = faults.Missing (codes "join")
in_join (faults.Kind key) = faults.Kind (codes "join")
in_join (faults.Address key) = faults.Address (codes "join")
in_join (faults.Range key) = faults.Range (codes "join")
in_join (faults.Loopback key) = faults.Loopback (codes "join")
in_join fault = fault

-- the first fault of a join's own table
pub record IsJoinFault (family : Option Family) (table : Members) (fault : ConfigFault) : Type 0 where
  pub inner : ConfigFault
  pub first : IsFirstFault (join_keys family) (λ table fault. ⊥) table inner
  pub is : fault ≡ in_join inner

-- after these calls, the first fault of the first join that has one, or that may not be opened
abbrev pub FailsInJoins : Option Family → List AcceptedCall → List Members → ConfigFault → Type 0
FailsInJoins family history [] fault = ⊥
FailsInJoins family history (table ∷ tables) fault =
    IsJoinFault family table fault
    ⊎ ((join : Join) × JoinOf family table join
    × (((MayOpen history join → ⊥) × (fault ≡ faults.Range (codes "join")))
    ⊎ (MayOpen history join × FailsInJoins family (with_join join history) tables fault)))
