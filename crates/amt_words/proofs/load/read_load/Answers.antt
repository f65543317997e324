use Rattle.std.proofs.Common.{◌∙◌, arith, codes, sym, ap, map, string_bytes}
use Rattle.clap.specs.Words.{App, fault_of, found_of}
use Rattle.amt_words.proofs.Reading.{given_number}
use Rattle.amt_words.proofs.load.read_load.Goals as goal

pub number-seed-requires : goal.number-seed-requires
number-seed-requires c =
    let numbers = c.in-Ok.ensures.numbers c.in-Ok-parse.found c.in-Ok-parse.ensures.parsed in
    record { given = (0, 4294967295, omega arith, numbers.0) }

pub number-count-requires : goal.number-count-requires
number-count-requires c =
    let numbers = c.in-Ok.ensures.numbers c.in-Ok-parse.found c.in-Ok-parse.ensures.parsed in
    record { given = (1, 65536, omega arith, numbers.1) }

pub returns-in-Ok-parse-clause-taken : goal.returns-in-Ok-parse-clause-taken
returns-in-Ok-parse-clause-taken c =
    let words = map string_bytes c.args.words.now in
    ap (λ (a : App). fault_of a words) (sym c.in-Ok.ensures.usage) ∙ c.in-Ok-parse.ensures.taken

pub returns-in-Ok-parse-clause-numbers : goal.returns-in-Ok-parse-clause-numbers
returns-in-Ok-parse-clause-numbers c =
    let words = map string_bytes c.args.words.now in
    let rows = c.in-Ok-parse.ensures.rows in (
      given_number (found_of c.in-Ok-parse.found) _ _ words rows c.in-Ok.ensures.usage (codes "SEED") _ c.number-seed.ensures.value,
      given_number (found_of c.in-Ok-parse.found) _ _ words rows c.in-Ok.ensures.usage (codes "N") _ c.number-count.ensures.value,
    )

pub returns-in-Ok-parse-clause-range : goal.returns-in-Ok-parse-clause-range
returns-in-Ok-parse-clause-range c =
    let numbers = c.in-Ok.ensures.numbers c.in-Ok-parse.found c.in-Ok-parse.ensures.parsed in
    c.number-count.ensures.within 1 65536 (omega arith) numbers.1
