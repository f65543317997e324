-- What each command takes after its name, as written definitions of `clap`.
use Rattle.std.specs.Prelude.{◌≡◌, ℕ, List, [], ◌∷◌, Some, true, pos, codes}
use Rattle.clap.specs.{Words.{App, Rule, Text, fault_of, new_app, new_rule, with_rule, with_subcommand}, Simple.{new_shape, on_top}, declared.builder.action.ArgAction.TheVariants.{Set}}
use Rattle.clap.specs.declared.builder.value_parser.ValueParser.TheVariants as parsers
use Rattle.amt_words.specs.declared.command.Replayable.{Replayable, TheVariants.{Relay, Gateway, Pair, Dual, Upstream}}

-- a name with nothing after it: no argument, and no flag that asks for help or the version
abbrev pub bare_usage : Text → App
bare_usage name = on_top (λ s. record s {
  no_binary_name = true;
  disable_help_flag = true;
  disable_version_flag = true;
}) (new_app name)

-- a required argument without a name, a number from least to most
abbrev pub number_rule : Text → ℕ → ℕ → Rule
number_rule id least most = record (new_rule id) {
  action = Some Set;
  required = true;
  parser = Some (parsers.Signed (pos least) (pos most));
}

-- a required argument without a name, any word
abbrev pub word_rule : Text → Rule
word_rule id = record (new_rule id) { action = Some Set; required = true }

-- an argument without a name, any word, which may be left out
abbrev pub optional_word_rule : Text → Rule
optional_word_rule id = record (new_rule id) { action = Some Set }

-- `--id NUMBER`, which may be left out: a number from least to most
abbrev pub option_rule : Text → ℕ → ℕ → Rule
option_rule id least most = record (new_rule id) {
  long = Some id;
  action = Some Set;
  parser = Some (parsers.Signed (pos least) (pos most));
}

-- replay relay|gateway|pair|dual|upstream
abbrev pub replayable_name : Replayable → Text
replayable_name Relay = codes "relay"
replayable_name Gateway = codes "gateway"
replayable_name Pair = codes "pair"
replayable_name Dual = codes "dual"
replayable_name Upstream = codes "upstream"

-- `replay` alone: one of its subcommands has to follow, and there is none for help
abbrev pub replay_head : App
replay_head = on_top (λ s. record s {
  disable_help_subcommand = true;
  subcommand_required = true;
}) (bare_usage (codes "replay"))

abbrev pub with_replayable : App → Replayable → App
with_replayable usage kind = with_subcommand usage (new_shape (replayable_name kind))

abbrev pub replay_usage : App
replay_usage =
    with_replayable (with_replayable (with_replayable (with_replayable (with_replayable replay_head Relay) Gateway) Pair) Dual) Upstream

-- dump
abbrev pub dump_usage : App
dump_usage = bare_usage (codes "dump")

-- vectors
abbrev pub vectors_usage : App
vectors_usage = bare_usage (codes "vectors")

-- load SEED N
abbrev pub load_usage : App
load_usage = with_rule (with_rule (bare_usage (codes "load"))
    (number_rule (codes "SEED") 0 4294967295)) (number_rule (codes "N") 1 65536)

-- NAME FILE [--turns T]
abbrev pub serving_usage : Text → App
serving_usage name = with_rule (with_rule (bare_usage name) (word_rule (codes "FILE")))
    (option_rule (codes "turns") 1 1099511627776)

-- relay FILE [--turns T] [--workers W]
abbrev pub relay_usage : App
relay_usage = with_rule (serving_usage (codes "relay")) (option_rule (codes "workers") 0 64)

-- gateway FILE [--turns T]
abbrev pub gateway_usage : App
gateway_usage = serving_usage (codes "gateway")

-- dns SOURCE
abbrev pub dns_usage : App
dns_usage = with_rule (bare_usage (codes "dns")) (word_rule (codes "SOURCE"))

-- pcap [RELAY]
abbrev pub pcap_usage : App
pcap_usage = with_rule (bare_usage (codes "pcap")) (optional_word_rule (codes "RELAY"))

-- the written definitions, one a command
abbrev pub usages : List App
usages = replay_usage ∷ dump_usage ∷ vectors_usage ∷ load_usage ∷ relay_usage ∷ gateway_usage ∷ dns_usage
    ∷ pcap_usage ∷ []

-- the words after a command's name are among those that its written definition takes
abbrev pub Takes : App → List Text → Type 0
Takes usage words = fault_of usage words ≡ []
