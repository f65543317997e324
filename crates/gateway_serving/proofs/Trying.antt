-- What is tried for sends and packets, and then for more.
use Rattle.std.{proofs.{Common.{◌≡◌, ℕ, suc, ◌+◌, ◌<◌, ◌≤◌, cond, not, zero-add, length-append, Bool, true, false, List, [], ◌∷◌, ◌++◌, length, get_or, map, take, refl, sym, ap, subst, ◌∙◌, arith}, lemmas.List.{length-map, map-append, take_at, take_more, Sums.{sum_by-append, sum_by-cons}}}, specs.{Prelude.{IsSome, OnOk, Option, Some, Result, Ok, Err, is_ok}}}
use Rattle.amt_ports.{specs.{Causes.{HasCause}, Sends.{TriedSend, datagram_of, sent_count, tried_send, unsent_count}, Told.{Appends}, declared.fault.Failed.{Failed}, Devices.{LinkSeen, OutSeen}, Tried.{HasTried}}, proofs.{Told.{AppendsAll-then}, Trying.{HasTried-failed, HasTried-none, HasTried-sent, HasTried-then}}}
use Rattle.amt_values.specs.declared.peer.Peer.{Peer}
use Rattle.gateway_machine.specs.declared.step.PeerSend.{PeerSend}
use Rattle.gateway_serving.specs.{Counting.{one_if, with_send}, Rounds.{unsent_of}, Sending.{delivery_to, to_peer}, Taking.{HasSent}, declared.counts.Counts.{Counts}}

pub sends_more : (sends : List PeerSend) (place : ℕ) (send : PeerSend) (bytes : List ℕ) → place < length sends → send ≡ get_or sends place send → bytes ≡ send.bytes
    → map to_peer (take place sends) ++ (send.to, bytes) ∷ [] ≡ map to_peer (take (place + 1) sends)
sends_more sends place send bytes within is same =
    ap (λ (octets : List ℕ). map to_peer (take place sends) ++ (send.to, octets) ∷ []) same
    ∙ sym (map-append to_peer (take place sends) (send ∷ []))
    ∙ ap (map to_peer) (ap (λ (one : PeerSend). take place sends ++ one ∷ []) is ∙ sym (take_more sends place send within))

-- one datagram, which the device took or didn't
tried_one : (before after : Option (List TriedSend)) (faults faults' : ℕ) (to : Peer) (bytes : List ℕ) (result : Result (Unit {0}) Failed) → Appends before after (tried_send to bytes result)
    → OnOk result (IsSome before → IsSome after) → HasCause faults faults' result → HasTried before after faults faults' ((to, bytes) ∷ []) (one_if (is_ok result)) (one_if (not (is_ok result)))
tried_one before after faults faults' to bytes (Ok unit) more tells cause =
    HasTried-sent before before after faults faults faults' [] 0 0 to bytes (Ok unit) refl (HasTried-none before faults) more tells cause.quiet
tried_one before after faults faults' to bytes (Err fault) more tells cause =
    HasTried-failed before before after faults faults faults' [] 0 0 to bytes (Err fault) refl (HasTried-none before faults) more cause.failed cause.later

-- a link's send, and an out's
pub sent_one : {link link' : LinkSeen} {counts counts' : Counts} (out : OutSeen) (to : Peer) (bytes : List ℕ) (result : Result (Unit {0}) Failed) (taken : Bool) → taken ≡ is_ok result → counts' ≡ with_send taken counts
    → Appends link.tried link'.tried (tried_send to bytes result) → OnOk result (IsSome link.tried → IsSome link'.tried) → HasCause link.send_faults link'.send_faults result
    → HasSent link link' out out counts counts' ((to, bytes) ∷ []) []
sent_one {link} {link'} {counts} {counts'} out to bytes result taken fine counted more tells cause = let is = subst (λ (one : Bool). counts' ≡ with_send one counts) fine counted in record {
  link_sent = one_if (is_ok result);
  link_unsent = one_if (not (is_ok result));
  sent = tried_one link.tried link'.tried link.send_faults link'.send_faults to bytes result more tells cause;
  out_sent = 0;
  out_unsent = 0;
  handed = HasTried-none out.tried out.faults;
  delivered_are = omega (arith, ap (λ (one : Counts). one.delivered) is);
  unsent_are = omega (arith, ap (λ (one : Counts). one.unsent) is);
}

one_of : (taken : Bool) → one_if taken + one_if (not taken) ≡ 1
one_of true = refl
one_of false = refl

pub handed_one : {out out' : OutSeen} {counts counts' : Counts} (link : LinkSeen) (to : Peer) (bytes : List ℕ) (result : Result (Unit {0}) Failed) (taken : Bool) → taken ≡ is_ok result
    → counts' ≡ with_send taken (record counts { delivered = counts.delivered + 1 })
    → Appends out.tried out'.tried (tried_send to bytes result) → OnOk result (IsSome out.tried → IsSome out'.tried) → HasCause out.faults out'.faults result
    → HasSent link link out out' counts counts' [] ((to, bytes) ∷ [])
handed_one {out} {out'} {counts} {counts'} link to bytes result taken fine counted more tells cause = let is = subst (λ (one : Bool). counts' ≡ with_send one (record counts { delivered = counts.delivered + 1 })) fine counted in record {
  link_sent = 0;
  link_unsent = 0;
  sent = HasTried-none link.tried link.send_faults;
  out_sent = one_if (is_ok result);
  out_unsent = one_if (not (is_ok result));
  handed = tried_one out.tried out'.tried out.faults out'.faults to bytes result more tells cause;
  delivered_are = omega (arith, ap (λ (one : Counts). one.delivered) is, one_of (is_ok result));
  unsent_are = omega (arith, ap (λ (one : Counts). one.unsent) is);
}

quiet_tried : (before after : Option (List TriedSend)) (faults faults' : ℕ) → after ≡ before → faults' ≡ faults → HasTried before after faults faults' [] 0 0
quiet_tried before after faults faults' same same_faults =
    subst (λ (lines : Option (List TriedSend)). HasTried before lines faults faults' [] 0 0) (sym same)
    (subst (λ (count : ℕ). HasTried before before faults count [] 0 0) (sym same_faults) (HasTried-none before faults))

-- nothing was tried
pub HasSent-none : {link link' : LinkSeen} {out : OutSeen} {counts counts' : Counts} → link'.tried ≡ link.tried → link'.send_faults ≡ link.send_faults
    → counts'.delivered ≡ counts.delivered → counts'.unsent ≡ counts.unsent → HasSent link link' out out counts counts' [] []
HasSent-none {link} {link'} {out} same same_faults delivered unsent = record {
  link_sent = 0;
  link_unsent = 0;
  sent = quiet_tried link.tried link'.tried link.send_faults link'.send_faults same same_faults;
  out_sent = 0;
  out_unsent = 0;
  handed = HasTried-none out.tried out.faults;
  delivered_are = omega (arith, delivered);
  unsent_are = omega (arith, unsent);
}

-- The same of what was wanted by other words. What was tried stays, so it is told by unfolding.
unfoldable pub tried_at : {before after : Option (List TriedSend)} {faults faults' sent unsent : ℕ} {wanted all : List (Peer × List ℕ)} → HasTried before after faults faults' wanted sent unsent → wanted ≡ all
    → HasTried before after faults faults' all sent unsent
tried_at tried same = record {
  sends = tried.sends;
  exactly = tried.exactly ∙ same;
  appended = tried.appended;
  sent_is = tried.sent_is;
  unsent_is = tried.unsent_is;
  later = tried.later;
  cause = tried.cause;
  quiet = tried.quiet;
  tells = tried.tells;
}

-- two lots in a row
unfoldable pub tried_then : {before now after : Option (List TriedSend)} {faults middle faults' sent unsent sent_then unsent_then : ℕ} {wanted others all : List (Peer × List ℕ)}
    → HasTried before now faults middle wanted sent unsent → HasTried now after middle faults' others sent_then unsent_then → wanted ++ others ≡ all
    → HasTried before after faults faults' all (sent + sent_then) (unsent + unsent_then)
tried_then {before} {now} {after} {faults} {middle} {faults'} {sent} {unsent} {sent_then} {unsent_then} {wanted} {others} first second same =
    let both = HasTried-then before now after faults middle faults' wanted others sent unsent sent_then unsent_then first second in
    let taken = sum_by-append (λ (one : TriedSend). cond one.sent 1 0) first.sends second.sends in
    let missed = sum_by-append (λ (one : TriedSend). cond (not one.sent) 1 0) first.sends second.sends in record {
      sends = first.sends ++ second.sends;
      exactly = map-append datagram_of first.sends second.sends ∙ (λ i. first.exactly i ++ second.exactly i) ∙ same;
      appended = AppendsAll-then before now after first.sends second.sends first.appended second.appended;
      sent_is = omega (arith, taken, first.sent_is, second.sent_is);
      unsent_is = omega (arith, missed, first.unsent_is, second.unsent_is);
      later = both.later;
      cause = both.cause;
      quiet = both.quiet;
      tells = both.tells;
    }

-- sends and packets, and then more
unfoldable pub HasSent-then : {link now link' : LinkSeen} {out middle out' : OutSeen} {counts known counts' : Counts} {sends packets more others all all' : List (Peer × List ℕ)}
    → HasSent link now out middle counts known sends packets → HasSent now link' middle out' known counts' more others → sends ++ more ≡ all → packets ++ others ≡ all' → HasSent link link' out out' counts counts' all all'
HasSent-then first second same same' = record {
  link_sent = first.link_sent + second.link_sent;
  link_unsent = first.link_unsent + second.link_unsent;
  sent = tried_then first.sent second.sent same;
  out_sent = first.out_sent + second.out_sent;
  out_unsent = first.out_unsent + second.out_unsent;
  handed = tried_then first.handed second.handed same';
  delivered_are = omega (arith, first.delivered_are, second.delivered_are);
  unsent_are = omega (arith, first.unsent_are, second.unsent_are);
}

unfoldable pub HasSent-at : {link link' : LinkSeen} {out out' : OutSeen} {counts counts' : Counts} {sends packets all all' : List (Peer × List ℕ)}
    → HasSent link link' out out' counts counts' sends packets → sends ≡ all → packets ≡ all' → HasSent link link' out out' counts counts' all all'
HasSent-at sent same same' = record {
  link_sent = sent.link_sent;
  link_unsent = sent.link_unsent;
  sent = tried_at sent.sent same;
  out_sent = sent.out_sent;
  out_unsent = sent.out_unsent;
  handed = tried_at sent.handed same';
  delivered_are = sent.delivered_are;
  unsent_are = sent.unsent_are;
}

no_more : {X : Type 0} (list : List X) → 0 ≡ length list → list ≡ []
no_more [] none = refl
no_more (one ∷ list) none = absurd (omega (arith, none))

-- as many were tried as were wanted
pub as_many : {before after : Option (List TriedSend)} {faults faults' sent unsent : ℕ} {wanted : List (Peer × List ℕ)} (tried : HasTried before after faults faults' wanted sent unsent) → length wanted ≡ length tried.sends
as_many tried = sym (ap length tried.exactly) ∙ length-map tried.sends datagram_of

-- none where none was wanted
pub none_tried : {before after : Option (List TriedSend)} {faults faults' sent unsent : ℕ} (tried : HasTried before after faults faults' [] sent unsent) → tried.sends ≡ []
none_tried tried = no_more tried.sends (as_many tried)

each_counted : (sends : List TriedSend) → sent_count sends + unsent_count sends ≡ length sends
each_counted [] = refl
each_counted (one ∷ sends) =
    let sent = sum_by-cons (λ (send : TriedSend). cond send.sent 1 0) one sends in
    let unsent = sum_by-cons (λ (send : TriedSend). cond (not send.sent) 1 0) one sends in
    omega (arith, each_counted sends, one_of one.sent, sent, unsent)

-- all that was wanted was sent or not
pub all_tried : {before after : Option (List TriedSend)} {faults faults' sent unsent : ℕ} {wanted : List (Peer × List ℕ)} → HasTried before after faults faults' wanted sent unsent → sent + unsent ≡ length wanted
all_tried tried = let all = as_many tried in omega (arith, all, each_counted tried.sends, tried.sent_is, tried.unsent_is)

-- what wasn't taken, whatever was tried later
pub unsent_first : {before after : Option (List TriedSend)} {faults faults' sent unsent : ℕ} {wanted : List (Peer × List ℕ)} (tried : HasTried before after faults faults' wanted sent unsent) (more : List TriedSend)
    → unsent ≡ unsent_of wanted (tried.sends ++ more)
unsent_first {wanted = wanted} tried more = tried.unsent_is ∙ ap unsent_count (sym (take_at tried.sends more (length wanted) (sym (as_many tried))))

-- what wasn't taken of two lots in a row
take_past : {X : Type 0} (first second : List X) (more : ℕ) → take (length first + more) (first ++ second) ≡ first ++ take more second
take_past [] second more = ap (λ (n : ℕ). take n second) (zero-add more)
take_past {X} (one ∷ first) second more =
    let next : length (one ∷ first) + more ≡ suc (length first + more) = omega arith in
    ap (λ (n : ℕ). take n (one ∷ (first ++ second))) next ∙ ap (λ (list : List X). one ∷ list) (take_past first second more)

pub unsent_then : (wanted others : List (Peer × List ℕ)) (first second : List TriedSend) → length wanted ≡ length first → unsent_of (wanted ++ others) (first ++ second) ≡ unsent_count first + unsent_of others second
unsent_then wanted others first second many =
    ap (λ (n : ℕ). unsent_count (take n (first ++ second))) (length-append wanted others ∙ ap (λ (n : ℕ). n + length others) many)
    ∙ ap unsent_count (take_past first second (length others))
    ∙ sum_by-append (λ (one : TriedSend). cond (not one.sent) 1 0) first (take (length others) second)

pub few_more : (before after : Counts) (taken : Bool) → after ≡ with_send taken before → after.unsent ≤ before.unsent + 1
few_more before after taken is = omega (arith, ap (λ (one : Counts). one.unsent) is, one_of taken)

-- nothing was counted but what wasn't taken
pub keeps : {before after : Counts} (counts : Counts) (taken : Bool) → after ≡ with_send taken before → before ≡ record counts { unsent = before.unsent } → after ≡ record counts { unsent = after.unsent }
keeps counts taken is same = is ∙ ap (with_send taken) same ∙ sym (ap (λ (one : Counts). record counts { unsent = one.unsent }) is)

-- a packet that is there
pub handed_to : (peer : Peer) (packet : Option (List ℕ)) (there bytes : List ℕ) → packet ≡ Some there → bytes ≡ there → (peer, bytes) ∷ [] ≡ delivery_to peer packet
handed_to peer packet there bytes is same = ap (λ (octets : List ℕ). (peer, octets) ∷ []) same ∙ ap (delivery_to peer) (sym is)
