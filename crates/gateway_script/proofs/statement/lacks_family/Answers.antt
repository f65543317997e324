use Rattle.script_lines.specs.Lines.{fields}
use Rattle.gateway_script.proofs.Judging.{setting_word}
use Rattle.gateway_script.proofs.statement.lacks_family.Goals as goal

pub returns-in-Discovery : goal.returns-in-Discovery
returns-in-Discovery c = λ family. (λ t. cc t, λ fails. absurd (setting_word c.args.key (fields c.args.values.now) c.in-Discovery.is fails))
