-- What is tried of the sends and of the packets of events, and counted.
use Rattle.std.specs.Prelude.{◌≡◌, ℕ, ◌+◌, List}
use Rattle.amt_values.specs.declared.peer.Peer.{Peer}
use Rattle.amt_ports.specs.{Devices.{LinkSeen, OutSeen}, Tried.{HasTried}}
use Rattle.gateway_serving.specs.declared.counts.Counts.{Counts}

-- exactly these datagrams were tried by a link, and exactly these packets by an out, which are counted as handed on; so
-- many of both weren't taken
pub record HasSent (link link' : LinkSeen) (out out' : OutSeen) (counts counts' : Counts) (sends packets : List (Peer × List ℕ)) : Type 0 where
  pub link_sent : ℕ
  pub link_unsent : ℕ
  pub sent : HasTried link.tried link'.tried link.send_faults link'.send_faults sends link_sent link_unsent
  pub out_sent : ℕ
  pub out_unsent : ℕ
  pub handed : HasTried out.tried out'.tried out.faults out'.faults packets out_sent out_unsent
  pub delivered_are : counts'.delivered ≡ counts.delivered + (out_sent + out_unsent)
  pub unsent_are : counts'.unsent ≡ counts.unsent + (link_unsent + out_unsent)
