-- A line is of one kind.
use Rattle.std.proofs.Common.{◌≡◌, ℕ, List, [], ◌∷◌, ◌++◌, Some, refl}
use Rattle.script_lines.proofs.WordTables.{first_kind, one_kind, one_rest}
use Rattle.gateway_script.specs.{declared.kind.{Key.TheVariants.{Family, Discovery, Source, Relay, Port, Nonce, LinuxRelay}, LineKind.{LineKind}}, Row.{words_of}}
use Rattle.gateway_script.specs.declared.kind.LineKind.TheVariants as kinds

abbrev all_kinds : List LineKind
all_kinds =
    kinds.Set Family ∷ kinds.Set Discovery ∷ kinds.Set Source ∷ kinds.Set Relay ∷ kinds.Set Port ∷ kinds.Set Nonce ∷ kinds.Set LinuxRelay
    ∷ kinds.Moment ∷ kinds.Nonce ∷ kinds.Datagram ∷ kinds.Open ∷ kinds.Change ∷ kinds.Close ∷ kinds.Leave ∷ []

first : (kind : LineKind) (values : List (List ℕ)) → first_kind words_of all_kinds (words_of kind ++ values) ≡ Some kind
first (kinds.Set Family) values = refl
first (kinds.Set key) values = refl
first kind values = refl

pub same_kind : (one other : LineKind) (values others : List (List ℕ)) → words_of one ++ values ≡ words_of other ++ others → one ≡ other
same_kind = one_kind words_of all_kinds first

pub same_values : (one other : LineKind) (values others : List (List ℕ)) → words_of one ++ values ≡ words_of other ++ others → values ≡ others
same_values = one_rest words_of all_kinds first
