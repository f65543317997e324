-- What a report says of what a running relay left.
use Rattle.std.specs.Prelude.{ℕ, ◌+◌}
use Rattle.amt_ports.specs.declared.end.End.{End}
use Rattle.relay_serving.specs.declared.{numbers.Numbers.{Numbers}, plan.ServeReport.{ServeReport}, server.ending.Ending.{Ending}}

-- of a run that had no turn
abbrev pub unused_report : End → ServeReport
unused_report end = record {
  end = end;
  turns = 0;
  datagrams = 0;
  packets = 0;
  updated = 0;
  torn = 0;
  sent = 0;
  unsent = 0;
  inline = 0;
  starved = 0;
  late = 0;
  owed = 0;
  published = 0;
  apart = 0;
}

-- of a run of so many whole turns
abbrev pub report_of : {O : Type 0} → End → ℕ → Ending O → ServeReport
report_of end turns ending = record {
  end = end;
  turns = turns;
  datagrams = ending.counts.datagrams;
  packets = ending.counts.packets;
  updated = ending.counts.updated;
  torn = ending.counts.torn;
  sent = ending.counts.sent + ending.outs_sent;
  unsent = ending.counts.unsent + ending.outs_unsent;
  inline = ending.inline;
  starved = ending.counts.starved;
  late = ending.counts.late;
  owed = ending.owed;
  published = ending.published;
  apart = ending.apart;
}

-- its numbers that a running relay tells too
abbrev pub numbers_in : ServeReport → Numbers
numbers_in report = record {
  turns = report.turns;
  datagrams = report.datagrams;
  packets = report.packets;
  updated = report.updated;
  torn = report.torn;
  sent = report.sent;
  unsent = report.unsent;
  inline = report.inline;
  starved = report.starved;
  late = report.late;
  owed = report.owed;
  published = report.published;
}
