-- Which command the arguments name, and what they give it.
use Rattle.std.specs.{Prelude.{◌≡◌, ◌≤◌, ◌⊎◌, ⊤, ℕ, List, [], ◌∷◌, ◌++◌, Option, Some, None, codes, IfSome, option_map, unwrap_or}, List.{Any}, Str.Parse.{IsNumeral, digits_value, without_leading_plus}}
use Rattle.clap.specs.{Lexer.{strip_byte}, Words.{App, Text, first_of, matches_of, one_of, subcommand_of}}
use Rattle.amt_words.specs.{declared.command.{Command.{Command, TheVariants.{Replay, Dump, Vectors, Load, Relay, Gateway, Dns, Pcap}}, Replayable.{Replayable}}, Usage.{Takes, dns_usage, dump_usage, gateway_usage, load_usage, pcap_usage, relay_usage, replay_usage, replayable_name, usages, vectors_usage}}

-- the written definition of a command
abbrev pub usage_of : Command → App
usage_of (Replay kind) = replay_usage
usage_of Dump = dump_usage
usage_of Vectors = vectors_usage
usage_of (Load seed count) = load_usage
usage_of (Relay file turns workers) = relay_usage
usage_of (Gateway file turns) = gateway_usage
usage_of (Dns source) = dns_usage
usage_of (Pcap relay) = pcap_usage

-- the number that an unsigned type reads from a text: decimal digits, where a plus may stand first
abbrev pub number_of : Text → ℕ
number_of text = digits_value 10 (without_leading_plus text)

-- the number that the words give for an argument of a command, if any
abbrev pub number_in : App → Text → List Text → Option ℕ
number_in usage id words = option_map number_of (one_of id (matches_of usage words))

-- the word that the words give for an argument of a command, if any
abbrev pub word_in : App → Text → List Text → Option Text
word_in usage id words = first_of id (matches_of usage words)

-- the subcommand of `replay` that the words name
abbrev pub replayed_name : List Text → Option Text
replayed_name words = option_map (λ found. found.0) (subcommand_of replay_usage words)

-- the turns of a run for which no number is given: as many as may be given
abbrev pub turns_or_most : Option ℕ → ℕ
turns_or_most given = unwrap_or given 1099511627776

-- the words after `load` give this seed and this count
abbrev pub GivesLoad : ℕ → ℕ → List Text → Type 0
GivesLoad seed count words = (number_in load_usage (codes "SEED") words ≡ Some seed)
    × (number_in load_usage (codes "N") words ≡ Some count)

-- the words after the name of a command that serves give this file and these turns
pub record GivesRun (usage : App) (file : Text) (turns : ℕ) (words : List Text) : Type 0 where
  pub file_is : word_in usage (codes "FILE") words ≡ Some file
  pub turns_are : turns_or_most (number_in usage (codes "turns") words) ≡ turns

-- the words after `relay` give this file, these turns and this number of workers, if any
abbrev pub GivesRelay : Text → ℕ → Option ℕ → List Text → Type 0
GivesRelay file turns workers words = GivesRun relay_usage file turns words
    × (number_in relay_usage (codes "workers") words ≡ workers)

-- the words after the name give what the command holds
abbrev pub Gives : Command → List Text → Type 0
Gives (Replay kind) words = replayed_name words ≡ Some (replayable_name kind)
Gives Dump words = ⊤
Gives Vectors words = ⊤
Gives (Load seed count) words = GivesLoad seed count words
Gives (Relay file turns workers) words = GivesRelay file turns workers words
Gives (Gateway file turns) words = GivesRun gateway_usage file turns words
Gives (Dns source) words = word_in dns_usage (codes "SOURCE") words ≡ Some source
Gives (Pcap relay) words = word_in pcap_usage (codes "RELAY") words ≡ relay

-- the arguments are the command's name, words that its written definition takes, and those give
-- what it holds
abbrev pub IsCommandLine : Command → List Text → Type 0
IsCommandLine command [] = ⊥
IsCommandLine command (name ∷ words) =
    (name ≡ (usage_of command).top.name) × Takes (usage_of command) words × Gives command words

-- some command's written definition takes the words after its name
abbrev pub IsAccepted : List Text → Type 0
IsAccepted [] = ⊥
IsAccepted (name ∷ words) = Any (λ usage. (name ≡ usage.top.name) × Takes usage words) usages

-- the name is that of one of these written definitions, and it takes the words
abbrev pub IsTakenBy : List App → Text → List Text → Type 0
IsTakenBy [] name words = ⊥
IsTakenBy (usage ∷ others) name words =
    ((name ≡ usage.top.name) × Takes usage words) ⊎ IsTakenBy others name words

-- the count of a load is from 1 to 65,536
abbrev pub IsLoadCount : ℕ → Type 0
IsLoadCount count = (1 ≤ count) × (count ≤ 65536)

-- the turns of a run are from 1 to 1,099,511,627,776
abbrev pub IsTurns : ℕ → Type 0
IsTurns turns = (1 ≤ turns) × (turns ≤ 1099511627776)

-- a number of workers that is given is 64 at most
abbrev pub AreWorkers : Option ℕ → Type 0
AreWorkers workers = IfSome workers (λ number. number ≤ 64)

-- the numbers that a command holds are in their ranges
abbrev pub IsWithinLimits : Command → Type 0
IsWithinLimits (Replay kind) = ⊤
IsWithinLimits Dump = ⊤
IsWithinLimits Vectors = ⊤
IsWithinLimits (Load seed count) = IsLoadCount count
IsWithinLimits (Relay file turns workers) = IsTurns turns × AreWorkers workers
IsWithinLimits (Gateway file turns) = IsTurns turns
IsWithinLimits (Dns source) = ⊤
IsWithinLimits (Pcap relay) = ⊤

-- decimal digits of a number from least to most
abbrev pub IsNumberIn : ℕ → ℕ → Text → Type 0
IsNumberIn least most text = IsNumeral 10 text × (least ≤ digits_value 10 text)
    × (digits_value 10 text ≤ most)

-- an option with its number, if one is given
abbrev pub option_words : Text → Option Text → List Text
option_words name None = []
option_words name (Some number) = name ∷ number ∷ []

-- a word, if one is given
abbrev pub given_word : Option Text → List Text
given_word None = []
given_word (Some word) = word ∷ []

-- the word doesn't begin with a hyphen
abbrev pub IsPlainWord : Text → Type 0
IsPlainWord word = strip_byte 45 word ≡ None

-- the plain line of each command is one of its lines: numbers are decimal digits, and a file, a source or a
-- relay doesn't begin with a hyphen
pub record TakesPlainLines : Type 0 where
  pub replay : (kind : Replayable)
      → IsCommandLine (Replay kind) (codes "replay" ∷ replayable_name kind ∷ [])
  pub dump : IsCommandLine Dump (codes "dump" ∷ [])
  pub vectors : IsCommandLine Vectors (codes "vectors" ∷ [])
  pub load : (seed count : Text) → IsNumberIn 0 4294967295 seed → IsNumberIn 1 65536 count
      → IsCommandLine (Load (digits_value 10 seed) (digits_value 10 count))
      (codes "load" ∷ seed ∷ count ∷ [])
  pub relay : (file : Text) → (turns workers : Option Text) → IsPlainWord file
      → IfSome turns (IsNumberIn 1 1099511627776) → IfSome workers (IsNumberIn 0 64)
      → IsCommandLine (Relay file (turns_or_most (option_map (digits_value 10) turns))
      (option_map (digits_value 10) workers))
      (codes "relay" ∷ file ∷ option_words (codes "--turns") turns
      ++ option_words (codes "--workers") workers)
  pub gateway : (file : Text) → (turns : Option Text) → IsPlainWord file
      → IfSome turns (IsNumberIn 1 1099511627776)
      → IsCommandLine (Gateway file (turns_or_most (option_map (digits_value 10) turns)))
      (codes "gateway" ∷ file ∷ option_words (codes "--turns") turns)
  pub dns : (source : Text) → IsPlainWord source → IsCommandLine (Dns source) (codes "dns" ∷ source ∷ [])
  pub pcap : (relay : Option Text) → IfSome relay IsPlainWord
      → IsCommandLine (Pcap relay) (codes "pcap" ∷ given_word relay)
