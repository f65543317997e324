-- What was tried so far, and one send more.
use Rattle.std.{proofs.{Common.{◌≡◌, ℕ, zero, suc, ◌+◌, ◌≤◌, ◌<◌, true, false, cond, not, List, [], ◌∷◌, ◌++◌, refl, sym, ap, subst, ◌∙◌, arith}, lemmas.List.{map-append, Sums.{sum_by-append}}}, specs.{Prelude.{IsSome, Option, Result, is_ok}, List.{sum_by}}}
use Rattle.amt_ports.{specs.{Causes.{Rose}, declared.fault.Failed.{Failed}, Sends.{TriedSend, datagram_of, tried_send}, Told.{Appends}, Tried.{HasRisen, HasTried}}, proofs.Told.{AppendsAll-none, AppendsAll-then}}
use Rattle.amt_values.specs.declared.peer.Peer.{Peer}

-- one more datagram that the device took
pub HasTried-sent : (before now after : Option (List TriedSend)) (first middle last : ℕ) (wanted : List (Peer × List ℕ)) (sent unsent : ℕ) (to : Peer) (bytes : List ℕ) (result : Result (Unit {0}) Failed)
    → is_ok result ≡ true → HasTried before now first middle wanted sent unsent → Appends now after (tried_send to bytes result) → (IsSome now → IsSome after) → last ≡ middle
    → HasTried before after first last (wanted ++ (to, bytes) ∷ []) (sent + 1) unsent
HasTried-sent before now after first middle last wanted sent unsent to bytes result fine tried more still same =
    let send = tried_send to bytes result in
    let later = tried.later in
    let taken = sum_by-append (λ (one : TriedSend). cond one.sent 1 0) tried.sends (send ∷ []) in
    let missed = sum_by-append (λ (one : TriedSend). cond (not one.sent) 1 0) tried.sends (send ∷ []) in
    let one : sum_by (λ (one : TriedSend). cond one.sent 1 0) (send ∷ []) ≡ 1 = rw fine refl in
    let none : sum_by (λ (one : TriedSend). cond (not one.sent) 1 0) (send ∷ []) ≡ 0 = rw fine refl in record {
      sends = tried.sends ++ send ∷ [];
      exactly = map-append datagram_of tried.sends (send ∷ []) ∙ ap (λ (list : List (Peer × List ℕ)). list ++ (to, bytes) ∷ []) tried.exactly;
      appended = AppendsAll-then before now after tried.sends (send ∷ []) tried.appended more;
      sent_is = omega (arith, taken, one, tried.sent_is);
      unsent_is = omega (arith, missed, none, tried.unsent_is);
      later = omega (arith, later, same);
      cause = λ some. subst (λ (count : ℕ). HasRisen first count) (sym same) (tried.cause some);
      quiet = λ zero_unsent. same ∙ tried.quiet zero_unsent;
      tells = λ zero_unsent told. still (tried.tells zero_unsent told);
    }

-- one more that it didn't take; the count never falls
pub HasTried-failed : (before now after : Option (List TriedSend)) (first middle last : ℕ) (wanted : List (Peer × List ℕ)) (sent unsent : ℕ) (to : Peer) (bytes : List ℕ) (result : Result (Unit {0}) Failed)
    → is_ok result ≡ false → HasTried before now first middle wanted sent unsent → Appends now after (tried_send to bytes result) → Rose middle last → middle ≤ last
    → HasTried before after first last (wanted ++ (to, bytes) ∷ []) sent (unsent + 1)
HasTried-failed before now after first middle last wanted sent unsent to bytes result failed tried more rose onward =
    let send = tried_send to bytes result in
    let later = tried.later in
    let taken = sum_by-append (λ (one : TriedSend). cond one.sent 1 0) tried.sends (send ∷ []) in
    let missed = sum_by-append (λ (one : TriedSend). cond (not one.sent) 1 0) tried.sends (send ∷ []) in
    let none : sum_by (λ (one : TriedSend). cond one.sent 1 0) (send ∷ []) ≡ 0 = rw failed refl in
    let one : sum_by (λ (one : TriedSend). cond (not one.sent) 1 0) (send ∷ []) ≡ 1 = rw failed refl in record {
      sends = tried.sends ++ send ∷ [];
      exactly = map-append datagram_of tried.sends (send ∷ []) ∙ ap (λ (list : List (Peer × List ℕ)). list ++ (to, bytes) ∷ []) tried.exactly;
      appended = AppendsAll-then before now after tried.sends (send ∷ []) tried.appended more;
      sent_is = omega (arith, taken, none, tried.sent_is);
      unsent_is = omega (arith, missed, one, tried.unsent_is);
      later = omega (arith, later, onward);
      cause = λ some small. omega (arith, later, rose, small);
      quiet = λ zero_unsent. absurd (omega (arith, zero_unsent));
      tells = λ zero_unsent. absurd (omega (arith, zero_unsent));
    }

-- two lots in a row
rises : (first middle last unsent more : ℕ) → first ≤ middle → middle ≤ last → (0 < unsent → HasRisen first middle) → (0 < more → HasRisen middle last) → (more ≡ 0 → last ≡ middle) → 0 < unsent + more → HasRisen first last
rises first middle last unsent zero below later cause again quiet some =
    subst (λ (count : ℕ). HasRisen first count) (sym (quiet refl)) (cause (omega (arith, some)))
rises first middle last unsent (suc more) below later cause again quiet some = λ small.
    let rose = again (omega arith) small in omega (arith, rose, below)

pub HasTried-then : (before now after : Option (List TriedSend)) (first middle last : ℕ) (wanted others : List (Peer × List ℕ)) (sent unsent sent_then unsent_then : ℕ)
    → HasTried before now first middle wanted sent unsent → HasTried now after middle last others sent_then unsent_then
    → HasTried before after first last (wanted ++ others) (sent + sent_then) (unsent + unsent_then)
HasTried-then before now after first middle last wanted others sent unsent sent_then unsent_then tried more =
    let taken = sum_by-append (λ (one : TriedSend). cond one.sent 1 0) tried.sends more.sends in
    let missed = sum_by-append (λ (one : TriedSend). cond (not one.sent) 1 0) tried.sends more.sends in
    let below = tried.later in
    let later = more.later in record {
      sends = tried.sends ++ more.sends;
      exactly = map-append datagram_of tried.sends more.sends ∙ (λ i. tried.exactly i ++ more.exactly i);
      appended = AppendsAll-then before now after tried.sends more.sends tried.appended more.appended;
      sent_is = omega (arith, taken, tried.sent_is, more.sent_is);
      unsent_is = omega (arith, missed, tried.unsent_is, more.unsent_is);
      later = omega (arith, below, later);
      cause = rises first middle last unsent unsent_then below later tried.cause more.cause more.quiet;
      quiet = λ none. more.quiet (omega (arith, none)) ∙ tried.quiet (omega (arith, none));
      tells = λ none told. more.tells (omega (arith, none)) (tried.tells (omega (arith, none)) told);
    }

-- nothing was tried
pub HasTried-none : (told : Option (List TriedSend)) (faults : ℕ) → HasTried told told faults faults [] 0 0
HasTried-none told faults = record {
  sends = [];
  exactly = refl;
  appended = AppendsAll-none told;
  sent_is = refl;
  unsent_is = refl;
  later = omega arith;
  cause = λ some. absurd (omega (arith, some));
  quiet = λ _. refl;
  tells = λ _ known. known;
}
