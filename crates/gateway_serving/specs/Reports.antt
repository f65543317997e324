-- What is reported of a run.
use Rattle.std.specs.Prelude.{ℕ}
use Rattle.amt_ports.specs.declared.end.End.{End}
use Rattle.gateway_serving.specs.declared.{counts.Counts.{Counts}, numbers.Numbers.{Numbers}, served.GatewayServed.{GatewayServed}}

abbrev pub report_of : End → ℕ → Counts → GatewayServed
report_of end turns counts = record {
  end = end;
  turns = turns;
  datagrams = counts.datagrams;
  controls = counts.controls;
  bad_controls = counts.bad_controls;
  delivered = counts.delivered;
  unsent = counts.unsent;
  starved = counts.starved;
}

-- its numbers, which a running gateway tells too
abbrev pub numbers_in : GatewayServed → Numbers
numbers_in report = record {
  turns = report.turns;
  datagrams = report.datagrams;
  controls = report.controls;
  bad_controls = report.bad_controls;
  delivered = report.delivered;
  unsent = report.unsent;
  starved = report.starved;
}
