-- The keys of each kind of table.
use Rattle.std.specs.Prelude.{ℕ, false, List, None}
use Rattle.amt_config.specs.{declared.table.TableKind.{TableKind, TheVariants.{Relay, Gateway, Join}}, Gateway.{gateway_keys}, Join.{join_keys}, Relay.{relay_keys}, Table.{key_words}}

abbrev pub words_in : TableKind → List (List ℕ)
words_in Relay = key_words (relay_keys false)
words_in Gateway = key_words (gateway_keys None)
words_in Join = key_words (join_keys None)
