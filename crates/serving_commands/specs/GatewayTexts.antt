-- What is written of a gateway's run.
use Rattle.std.specs.Prelude.{ℕ, List, ◌++◌}
use Rattle.gateway_serving.specs.{Replies.{numbers_text}, Reports.{numbers_in}, declared.served.GatewayServed.{GatewayServed}}
use Rattle.serving_commands.specs.Texts.{end_text}

-- `end turns` or `end closed`, and the numbers that a running gateway tells, from `turns N` to `starved N`
unfoldable pub report_text : GatewayServed → List ℕ
report_text report = end_text report.end ++ numbers_text (numbers_in report)
