use Rattle.std.proofs.Common.{◌∙◌, codes, sym, ap, map, string_bytes}
use Rattle.clap.specs.Words.{App, fault_of, found_of}
use Rattle.amt_words.proofs.Reading.{given_word}
use Rattle.amt_words.proofs.pcap.read_pcap.Goals as goal

pub returns-in-Ok-parse-clause-taken : goal.returns-in-Ok-parse-clause-taken
returns-in-Ok-parse-clause-taken c =
    let words = map string_bytes c.args.words.now in
    ap (λ (a : App). fault_of a words) (sym c.in-Ok.ensures.usage) ∙ c.in-Ok-parse.ensures.taken

pub returns-in-Ok-parse-clause-given : goal.returns-in-Ok-parse-clause-given
returns-in-Ok-parse-clause-given c =
    given_word (found_of c.in-Ok-parse.found) _ _ (map string_bytes c.args.words.now) c.in-Ok-parse.ensures.rows c.in-Ok.ensures.usage (codes "RELAY") _
    c.relay.ensures.word
