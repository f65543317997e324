-- A control by which an end asks itself too.
use Rattle.std.specs.{Prelude.{◌≡◌, ◌⊎◌, ◌<◌, ◌≤◌, ◌/◌, ◌+◌, ◌*◌, ◌&&◌, ℕ, Bool, max, List, Option, Some, None, IsSome, Result, Ok, IfOk, OnOk, OnErr, length, take, codes, nat_lt, not}, Io.KnownBytes.{Appends}}
use Rattle.amt_ports.specs.{Arrivals.{link_answer}, Causes.{Rose}, Sends.{TriedSend, tried_send}, Told.{Answers, Appends as Tells}}
use Rattle.amt_ports.specs.declared.{fault.Failed.{Failed}, link.{Got.{Got, TheVariants.{Datagram, Nothing}}, LinkAnswer.{LinkAnswer, TheVariants.{Closed as ClosedLink}}}}
use Rattle.amt_values.specs.declared.{address.Ip.TheVariants.{V6}, peer.Peer.{Peer}}
use Rattle.serving_commands.specs.Journal.{journal_line}

-- where the question comes from
abbrev pub own_peer : Peer
own_peer = record { ip = V6 281470681743360; port = 0 }

-- its socket, if it has one, its clock and its journal; the seconds from one question to the next, 0 for none; the latest
-- moment of its clock, and when it last asked; when its socket was found empty, and how often in a row it wasn't looked at;
-- the last answer that was written down
pub record Journaled (K C S : Type 0) : Type 0 where
  pub socket : Option K
  pub clock : C
  pub journal : S
  pub seconds : ℕ
  pub now : ℕ
  pub asked_at : ℕ
  pub empty_at : Option ℕ
  pub skipped : ℕ
  pub last : List ℕ

-- a number of its socket, if it has one
abbrev pub number_of : {K : Type 0} → (K → ℕ) → Option K → ℕ
number_of number None = 0
number_of number (Some socket) = number socket

-- ---- receiving

-- the clock was asked once, and time doesn't run backwards
abbrev pub Passes : {K C S : Type 0} (given : C → Option (List ℕ)) (before after : Journaled K C S) → Type 0
Passes given before after = (moment : ℕ) × Tells (given before.clock) (given after.clock) moment × (after.now ≡ max before.now moment)

-- at this moment it is to ask
abbrev pub is_due : {K C S : Type 0} → Journaled K C S → ℕ → Bool
is_due control now = nat_lt 0 control.seconds && not (nat_lt now (control.asked_at + control.seconds * 1000))

-- it asks `counts`, and leaves its socket alone
pub record Asks {K C S : Type 0} (result : Result Got Failed) (buffer : List ℕ) (before after : Journaled K C S) : Type 0 where
  pub got : result ≡ Ok (Datagram own_peer 6)
  pub question : take 6 buffer ≡ codes "counts"
  pub asked_at : after.asked_at ≡ after.now
  pub socket : after.socket ≡ before.socket
  pub empty_at : after.empty_at ≡ before.empty_at
  pub skipped : after.skipped ≡ before.skipped

-- what a look says of the socket at this moment
abbrev pub found_empty : ℕ → Got → Option ℕ
found_empty now Nothing = Some now
found_empty now got = None

-- it looks into its socket, and hands on what that gave
pub record Looks {K C S : Type 0} (coming : K → Option (List LinkAnswer)) (tried : K → Option (List TriedSend)) (result : Result Got Failed) (buffer : List ℕ)
    (before after : Journaled K C S) : Type 0 where
  pub here : K
  pub there : K
  pub before_is : before.socket ≡ Some here
  pub after_is : after.socket ≡ Some there
  pub answer : IfOk result (λ got. Answers ClosedLink (coming here) (coming there) (link_answer got buffer))
  pub empty_at : IfOk result (λ got. after.empty_at ≡ found_empty after.now got)
  pub kept : OnErr result ((coming there ≡ coming here) × (after.empty_at ≡ before.empty_at))
  pub sends : tried there ≡ tried here
  pub skipped : after.skipped ≤ before.skipped

-- it has no socket; or it doesn't look, at the moment at which it was found empty, where there is no time to wait, and 64
-- times in a row at most
abbrev pub LeavesAlone : {K C S : Type 0} (wait : ℕ) (result : Result Got Failed) (before after : Journaled K C S) → Type 0
LeavesAlone wait result before after =
    (result ≡ Ok Nothing) × (after.socket ≡ before.socket) × (after.empty_at ≡ before.empty_at)
    × ((before.socket ≡ None) ⊎ ((wait ≡ 0) × (before.empty_at ≡ Some after.now) × (before.skipped < 64) × (after.skipped ≡ before.skipped + 1)))

-- ---- sending

-- the socket, if there is one, tried to send this
abbrev pub SendsOn : {K : Type 0} (coming : K → Option (List LinkAnswer)) (tried : K → Option (List TriedSend)) (to : Peer) (bytes : List ℕ) (result : Result (Unit {0}) Failed)
    (before after : Option K) → Type 0
SendsOn coming tried to bytes result None after = after ≡ None
SendsOn coming tried to bytes result (Some here) after =
    (there : _) × (after ≡ Some there) × Tells (tried here) (tried there) (tried_send to bytes result)
    × OnOk result (IsSome (tried here) → IsSome (tried there)) × (coming there ≡ coming here)

-- no time has passed
pub record IsStill {K C S : Type 0} (before after : Journaled K C S) : Type 0 where
  pub clock : after.clock ≡ before.clock
  pub seconds : after.seconds ≡ before.seconds
  pub now : after.now ≡ before.now
  pub asked_at : after.asked_at ≡ before.asked_at
  pub empty_at : after.empty_at ≡ before.empty_at
  pub skipped : after.skipped ≡ before.skipped

-- ---- writing down

-- nothing was written down
abbrev pub WritesNothing : {K C S : Type 0} (before after : Journaled K C S) → Type 0
WritesNothing before after = (after.journal ≡ before.journal) × (after.last ≡ before.last)

-- the whole line was written, and the answer is the last one now
abbrev pub WritesAll : {K C S : Type 0} (written : S → Option (List ℕ)) (faults : S → ℕ) (line answer : List ℕ) (before after : Journaled K C S) → Type 0
WritesAll written faults line answer before after =
    Appends (written before.journal) (written after.journal) line
    × (faults after.journal ≡ faults before.journal)
    × (after.last ≡ answer)

-- the journal failed before the line's end, and the last answer stays
abbrev pub WritesAPart : {K C S : Type 0} (written : S → Option (List ℕ)) (faults : S → ℕ) (line : List ℕ) (before after : Journaled K C S) → Type 0
WritesAPart written faults line before after =
    ((n : ℕ) × (n < length line) × Appends (written before.journal) (written after.journal) (take n line))
    × Rose (faults before.journal) (faults after.journal)
    × (after.last ≡ before.last)

-- the line of the answer was written, or the journal failed in it; or nothing was, which is meant for want of memory
abbrev pub IsWrittenDown : {K C S : Type 0} (written : S → Option (List ℕ)) (faults : S → ℕ) (answer : List ℕ) (before after : Journaled K C S) → Type 0
IsWrittenDown written faults answer before after =
    let line = journal_line (before.asked_at / 1000) before.last answer in
    WritesAll written faults line answer before after ⊎ WritesAPart written faults line before after ⊎ WritesNothing before after
