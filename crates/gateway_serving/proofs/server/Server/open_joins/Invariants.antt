-- The joins so far were opened.
use Rattle.std.proofs.Common.{◌≡◌, ◌≤◌, ◌+◌, map, take}
use Rattle.amt_ports.specs.Devices.{link_at, out_at}
use Rattle.gateway_serving.specs.{Servers.{settings_in, tally_in}, Settings.{opening_of}, Traces.{WorkDoes, at_work, taking}}
use Rattle.gateway_serving.proofs.server.Server.open_joins.Given as goal

abbrev pub invariant-loop-join : goal.invariant-loop-join
invariant-loop-join g l = record {
  opened : WorkDoes (taking (map opening_of (take l.join-index l.joins)))
      (at_work l.initial.self (link_at g.L.Link l.initial.link) (g.L.Link.longest_wait l.initial.link) (out_at g.O.OutLink l.initial.out))
      (at_work l.self (link_at g.L.Link l.link) (g.L.Link.longest_wait l.link) (out_at g.O.OutLink l.out));
  same_settings : settings_in l.self ≡ settings_in l.initial.self;
  few : tally_in l.self ≤ tally_in l.initial.self + l.join-index;
}
