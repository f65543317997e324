-- A line is of one kind.
use Rattle.std.{proofs.{Common.{◌≡◌, ◌<◌, ◌^◌, ℕ, List, ◌∷◌, ◌++◌, map, Some, refl, rules, arith}, lemmas.List.Elements.{All-from_recursion}}, specs.List.{AllByRecursion}}
use Rattle.relay_machine.{specs.{declared.number_key.{NumberKey.{NumberKey, TheVariants.{Robustness}}, TheConstants.{NUMBER_KEYS}}, Settings.{number_row}}, proofs.Numbers.{All-keys}}
use Rattle.script_lines.proofs.WordTables.{first_kind, one_kind, one_rest}
use Rattle.amt_script.specs.{declared.kind.{Key.{TheVariants.{Relay, Query4, Query6, Number, Secret, LinuxGateways}}, Kind.{Kind}}, Row.{words_of}}
use Rattle.amt_script.specs.declared.kind.Kind.TheVariants as kinds

pub most_small : (key : NumberKey) → (number_row key).most < 2 ^ 32
most_small =
    let P : NumberKey → Type 0 = λ key. (number_row key).most < 2 ^ 32 in
    let each : AllByRecursion P NUMBER_KEYS = search (rules, arith) in All-keys P (All-from_recursion P NUMBER_KEYS each)

abbrev all_kinds : List Kind
all_kinds =
    kinds.Moment ∷ kinds.Secret ∷ kinds.Limits ∷ kinds.Datagram ∷ kinds.Packet ∷ kinds.Show ∷ kinds.Set Relay ∷ kinds.Set Query4 ∷ kinds.Set Query6 ∷ kinds.Set Secret ∷ kinds.Set LinuxGateways
    ∷ map (λ key. kinds.Set (Number key)) NUMBER_KEYS

first : (kind : Kind) (values : List (List ℕ)) → first_kind words_of all_kinds (words_of kind ++ values) ≡ Some kind
first (kinds.Set (Number Robustness)) values = refl
first (kinds.Set (Number key)) values = refl
first (kinds.Set key) values = refl
first kind values = refl

pub same_kind : (one other : Kind) (values others : List (List ℕ)) → words_of one ++ values ≡ words_of other ++ others → one ≡ other
same_kind = one_kind words_of all_kinds first

pub same_values : (one other : Kind) (values others : List (List ℕ)) → words_of one ++ values ≡ words_of other ++ others → values ≡ others
same_values = one_rest words_of all_kinds first
