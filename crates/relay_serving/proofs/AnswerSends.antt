-- One answer more that a link tried.
use Rattle.std.{proofs.{Common.{◌≡◌, ℕ, ◌+◌, ◌<◌, List, [], ◌∷◌, ◌++◌, length, get_or, map, take, sym, ap, subst, ◌∙◌, arith}, lemmas.List.{length_push, take_more, map-append}}, specs.Prelude.{IsSome, OnOk, Result, Ok, Err, is_ok}}
use Rattle.amt_ports.{specs.{Causes.{HasCause}, Sends.{tried_send}, Told.{Appends}, declared.fault.Failed.{Failed}, Devices.{LinkSeen}}, proofs.Trying.{HasTried-failed, HasTried-sent}}
use Rattle.amt_values.specs.{Endpoint.{peer_of}, declared.peer.Peer.{Peer}}
use Rattle.relay_machine.specs.declared.sends.OneSend.{OneSend}
use Rattle.replication_workers.specs.Replication.{to_peer}
use Rattle.relay_serving.specs.{Counting.{HasAnswered}, declared.counts.Counts.{Counts}}

pub answers_more : (sends : List OneSend) (place : ℕ) (send : OneSend) (peer : Peer) (bytes : List ℕ) → place < length sends → send ≡ get_or sends place send → peer ≡ peer_of send.to → bytes ≡ send.bytes
    → map to_peer (take place sends) ++ (peer, bytes) ∷ [] ≡ map to_peer (take (place + 1) sends)
answers_more sends place send peer bytes within is value same =
    (λ i. map to_peer (take place sends) ++ (value i, same i) ∷ [])
    ∙ sym (map-append to_peer (take place sends) (send ∷ []))
    ∙ ap (map to_peer) (ap (λ (one : OneSend). take place sends ++ one ∷ []) is ∙ sym (take_more sends place send within))

-- the link took it
pub answered-sent : (link now after : LinkSeen) (counts before counts' : Counts) (wanted : List (Peer × List ℕ)) (to : Peer) (bytes : List ℕ) (result : Result (Unit {0}) Failed) (unit : Unit {0})
    → result ≡ Ok unit → HasAnswered link now counts before wanted → Appends now.tried after.tried (tried_send to bytes result) → OnOk result (IsSome now.tried → IsSome after.tried)
    → HasCause now.send_faults after.send_faults result → counts'.sent ≡ before.sent + 1 → counts'.unsent ≡ before.unsent → HasAnswered link after counts counts' (wanted ++ (to, bytes) ∷ [])
answered-sent link now after counts before counts' wanted to bytes result unit fine answered more tells cause sent unsent =
    let pushed = length_push wanted (to, bytes) in
    let count = answered.sent_are in
    let missed = answered.unsent_are in
    let all = answered.as_many in record {
      more = answered.more + 1;
      missed = answered.missed;
      sent_are = omega (arith, sent, count);
      unsent_are = omega (arith, unsent, missed);
      as_many = omega (arith, pushed, all);
      tried = HasTried-sent link.tried now.tried after.tried link.send_faults now.send_faults after.send_faults wanted answered.more answered.missed to bytes result (ap is_ok fine) answered.tried more
          (subst (λ (one : Result (Unit {0}) Failed). OnOk one (IsSome now.tried → IsSome after.tried)) fine tells)
          ((subst (λ (one : Result (Unit {0}) Failed). HasCause now.send_faults after.send_faults one) fine cause).quiet);
    }

-- the link didn't take it
pub answered-failed : (link now after : LinkSeen) (counts before counts' : Counts) (wanted : List (Peer × List ℕ)) (to : Peer) (bytes : List ℕ) (result : Result (Unit {0}) Failed) (fault : Failed)
    → result ≡ Err fault → HasAnswered link now counts before wanted → Appends now.tried after.tried (tried_send to bytes result)
    → HasCause now.send_faults after.send_faults result → counts'.sent ≡ before.sent → counts'.unsent ≡ before.unsent + 1 → HasAnswered link after counts counts' (wanted ++ (to, bytes) ∷ [])
answered-failed link now after counts before counts' wanted to bytes result fault failed answered more cause sent unsent =
    let pushed = length_push wanted (to, bytes) in
    let count = answered.sent_are in
    let missed = answered.unsent_are in
    let all = answered.as_many in record {
      more = answered.more;
      missed = answered.missed + 1;
      sent_are = omega (arith, sent, count);
      unsent_are = omega (arith, unsent, missed);
      as_many = omega (arith, pushed, all);
      tried = HasTried-failed link.tried now.tried after.tried link.send_faults now.send_faults after.send_faults wanted answered.more answered.missed to bytes result (ap is_ok failed) answered.tried more
          ((subst (λ (one : Result (Unit {0}) Failed). HasCause now.send_faults after.send_faults one) failed cause).failed) cause.later;
    }
