use Rattle.std.proofs.Common.{◌∙◌, codes, sym, ap, map, string_bytes}
use Rattle.clap.specs.Words.{App, fault_of, found_of}
use Rattle.amt_words.proofs.Reading.{given_number, given_run}
use Rattle.amt_words.proofs.relay.read_relay.Goals as goal

pub turns-requires : goal.turns-requires
turns-requires c =
    let given = c.in-Ok.ensures.given c.in-Ok-parse.found c.in-Ok-parse.ensures.parsed in
    record { given = given.1 }

pub workers-requires : goal.workers-requires
workers-requires c =
    let given = c.in-Ok.ensures.given c.in-Ok-parse.found c.in-Ok-parse.ensures.parsed in
    record { given = given.2 }

pub returns-in-Ok-parse-clause-taken : goal.returns-in-Ok-parse-clause-taken
returns-in-Ok-parse-clause-taken c =
    let words = map string_bytes c.args.words.now in
    ap (λ (a : App). fault_of a words) (sym c.in-Ok.ensures.usage) ∙ c.in-Ok-parse.ensures.taken

pub returns-in-Ok-parse-clause-given : goal.returns-in-Ok-parse-clause-given
returns-in-Ok-parse-clause-given c =
    let found = found_of c.in-Ok-parse.found in
    let words = map string_bytes c.args.words.now in
    let rows = c.in-Ok-parse.ensures.rows in
    let is = c.in-Ok.ensures.usage in
    (given_run found _ _ words rows is _ _ c.file.ensures.word c.turns.ensures.value, given_number found _ _ words rows is (codes "workers") _ c.workers.ensures.value)
