-- What is written of a relay's run.
use Rattle.std.specs.Prelude.{ℕ, List, ◌++◌, codes}
use Rattle.control_lines.specs.Tally.{number_line}
use Rattle.relay_serving.specs.{Replies.{numbers_text}, Reports.{numbers_in}, declared.plan.ServeReport.{ServeReport}}
use Rattle.serving_commands.specs.Texts.{end_text}

-- `end turns` or `end closed`; the numbers that a running relay tells, from `turns N` to `published N`; and `apart N`
unfoldable pub report_text : ServeReport → List ℕ
report_text report = end_text report.end ++ (numbers_text (numbers_in report) ++ number_line (codes "apart") report.apart)
