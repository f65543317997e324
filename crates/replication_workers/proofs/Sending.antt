-- One message to many endpoints: one more of them.
use Rattle.std.{proofs.{Common.{◌≡◌, ℕ, ◌+◌, ◌<◌, List, [], ◌∷◌, ◌++◌, length, get_or, map, take, sym, ap, subst, ◌∙◌}, lemmas.List.{take_more, map-append}}, specs.Prelude.{IsSome, OnOk, Option, Result, Ok, Err, is_ok}}
use Rattle.amt_ports.{specs.{Causes.{HasCause}, declared.fault.Failed.{Failed}, Tried.{HasTried}, Sends.{TriedSend, tried_send}, Told.{Appends}}, proofs.Trying.{HasTried-failed, HasTried-sent}}
use Rattle.amt_values.specs.{Endpoint.{peer_of}, EndpointValue.{EndpointValue}, declared.peer.Peer.{Peer}}
use Rattle.replication_workers.specs.Replication.{with_message}

one_more : (message : List ℕ) (targets : List EndpointValue) (place : ℕ) (to : EndpointValue) (peer : Peer) → place < length targets → to ≡ get_or targets place to → peer ≡ peer_of to
    → map (with_message message) (take place targets) ++ (peer, message) ∷ [] ≡ map (with_message message) (take (place + 1) targets)
one_more message targets place to peer within is value =
    ap (λ (one : Peer). map (with_message message) (take place targets) ++ (one, message) ∷ []) value
    ∙ sym (map-append (with_message message) (take place targets) (to ∷ []))
    ∙ ap (map (with_message message)) (ap (λ (one : EndpointValue). take place targets ++ one ∷ []) is ∙ sym (take_more targets place to within))

-- it was sent
pub one_sent : (before now after : Option (List TriedSend)) (first middle last : ℕ) (message : List ℕ) (targets : List EndpointValue) (place sent unsent : ℕ) (to : EndpointValue) (peer : Peer) (result : Result (Unit {0}) Failed) (unit : Unit {0})
    → result ≡ Ok unit → place < length targets → to ≡ get_or targets place to → peer ≡ peer_of to → HasTried before now first middle (map (with_message message) (take place targets)) sent unsent
    → Appends now after (tried_send peer message result) → OnOk result (IsSome now → IsSome after) → HasCause middle last result
    → HasTried before after first last (map (with_message message) (take (place + 1) targets)) (sent + 1) unsent
one_sent before now after first middle last message targets place sent unsent to peer result unit fine within is value tried more still cause =
    subst (λ (wanted : List (Peer × List ℕ)). HasTried before after first last wanted (sent + 1) unsent) (one_more message targets place to peer within is value)
    (HasTried-sent before now after first middle last (map (with_message message) (take place targets)) sent unsent peer message result (ap is_ok fine) tried more
    (subst (λ (one : Result (Unit {0}) Failed). OnOk one (IsSome now → IsSome after)) fine still)
    ((subst (λ (one : Result (Unit {0}) Failed). HasCause middle last one) fine cause).quiet))

-- the device didn't take it
pub one_failed : (before now after : Option (List TriedSend)) (first middle last : ℕ) (message : List ℕ) (targets : List EndpointValue) (place sent unsent : ℕ) (to : EndpointValue) (peer : Peer) (result : Result (Unit {0}) Failed) (fault : Failed)
    → result ≡ Err fault → place < length targets → to ≡ get_or targets place to → peer ≡ peer_of to → HasTried before now first middle (map (with_message message) (take place targets)) sent unsent
    → Appends now after (tried_send peer message result) → HasCause middle last result
    → HasTried before after first last (map (with_message message) (take (place + 1) targets)) sent (unsent + 1)
one_failed before now after first middle last message targets place sent unsent to peer result fault failed within is value tried more cause =
    subst (λ (wanted : List (Peer × List ℕ)). HasTried before after first last wanted sent (unsent + 1)) (one_more message targets place to peer within is value)
    (HasTried-failed before now after first middle last (map (with_message message) (take place targets)) sent unsent peer message result (ap is_ok failed) tried more
    ((subst (λ (one : Result (Unit {0}) Failed). HasCause middle last one) failed cause).failed) cause.later)
