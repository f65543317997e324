use Rattle.std.{proofs.Common.{◌∙◌, sym, ap, map, string_bytes}, specs.Prelude.{option_map}}
use Rattle.amt_words.proofs.Naming.{entered_name, known_name}
use Rattle.amt_words.proofs.replay.read_replay.Goals as goal

pub returns-in-Some-clause-usage : goal.returns-in-Some-clause-usage
returns-in-Some-clause-usage c usage taken =
    let words = map string_bytes c.args.words.now in
    let named = sym c.subcommand_name.ensures ∙ ap (option_map (λ s. s.now)) c.in-Some.is in
    let name = entered_name c.in-Ok-parse.found _ words _ c.in-Ok.ensures c.in-Ok-parse.ensures.subcommand named in
    let known = known_name words _ name in
    c.in-None-replayable_of.ensures.none known.0 known.1
