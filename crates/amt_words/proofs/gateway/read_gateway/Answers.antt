use Rattle.std.proofs.Common.{◌∙◌, sym, ap, map, string_bytes}
use Rattle.clap.specs.Words.{App, fault_of, found_of}
use Rattle.amt_words.proofs.Reading.{given_run}
use Rattle.amt_words.proofs.gateway.read_gateway.Goals as goal

pub turns-requires : goal.turns-requires
turns-requires c =
    let given = c.in-Ok.ensures.given c.in-Ok-parse.found c.in-Ok-parse.ensures.parsed in
    record { given = given.1 }

pub returns-in-Ok-parse-clause-taken : goal.returns-in-Ok-parse-clause-taken
returns-in-Ok-parse-clause-taken c =
    let words = map string_bytes c.args.words.now in
    ap (λ (a : App). fault_of a words) (sym c.in-Ok.ensures.usage) ∙ c.in-Ok-parse.ensures.taken

pub returns-in-Ok-parse-clause-given : goal.returns-in-Ok-parse-clause-given
returns-in-Ok-parse-clause-given c =
    given_run (found_of c.in-Ok-parse.found) _ _ (map string_bytes c.args.words.now) c.in-Ok-parse.ensures.rows c.in-Ok.ensures.usage _ _
    c.file.ensures.word c.turns.ensures.value
