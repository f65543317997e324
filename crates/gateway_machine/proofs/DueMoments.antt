-- When something is due.
use Rattle.std.{proofs.{Common.{◌≡◌, ℕ, ◌<◌, ◌≤◌, ◌^◌, ◌↔◌, max, nat_lt, ◌||◌, Bool, true, false, List, Option, Some, None, if◌then◌else◌, refl, arith}, lemmas.Bool.{lt-ltb, ltb-true}}, specs.Prelude.{IsNone, IfSome}}
use Rattle.amt_values.specs.declared.peer.Peer.{Peer}
use Rattle.socket_merge.specs.{FullReport.{is_quiet}, History.{AcceptedCall}}
use Rattle.gateway_machine.specs.declared.exchange.{Exchange.{Exchange}, GatewayState.{GatewayState, TheVariants.{Idle as InIdle, Discovering as InDiscovering, Requesting as InRequesting, Active as InActive}}}
use Rattle.gateway_machine.specs.{declared.{outcome.GatewayOutcome.TheVariants.{Quiet, Idle}, settings.GatewaySettings.{GatewaySettings}}, Answers.{Answer, answer_at, begin_with, due_answer, is_idle, quiet}, Due.{IsBefore}, Exchange.{idle, moved}, Timing.{farewell_ms}}

-- something comes of the answer
abbrev IsBusy : Answer → Type 0
IsBusy answer = answer.outcome ≡ Quiet → ⊥

busy-begin : (relay : Option Peer) (settings : GatewaySettings) (exchange : Exchange) → IsBusy (begin_with relay settings exchange)
busy-begin None settings exchange is = cc
busy-begin (Some relay) settings exchange is = cc

busy-if : (test : Bool) (one other : Answer) → IsBusy one → IsBusy other → IsBusy (if test then one else other)
busy-if true one other first second = first
busy-if false one other first second = second

busy-due : (state : GatewayState) (settings : GatewaySettings) (exchange : Exchange) → is_idle state ≡ false → IsBusy (due_answer state settings exchange)
busy-due InIdle settings exchange awake is = cc
busy-due InDiscovering settings exchange awake is = cc
busy-due InRequesting settings exchange awake is =
    busy-if (nat_lt exchange.tries 5) _ _ (λ is. cc) (busy-begin settings.relay settings exchange) is
busy-due InActive settings exchange awake is = cc

-- the answer is quiet exactly where it is before what is due
rests-exactly : (before idle still : Bool) (now after : Exchange) (due : Answer) → idle ≡ false → IsBusy due
    → (if before || idle then quiet Quiet now else (if still then quiet Idle after else due)).outcome ≡ Quiet ↔ before ≡ true
rests-exactly true idle still now after due awake busy = (λ _. refl, λ _. refl)
rests-exactly false true still now after due awake busy = absurd cc
rests-exactly false false true now after due awake busy = (λ is. cc, λ is. cc)
rests-exactly false false false now after due awake busy = (λ is. absurd (busy is), λ is. cc)

-- a moment is before what is due exactly where it is before this number, if that is no moment or what is due
before-exactly : (due : Option ℕ) (moment limit : ℕ) → (IsNone due ↔ 2 ^ 62 ≤ limit) → IfSome due (λ at. at ≡ limit) → moment < 2 ^ 62 → moment < limit ↔ IsBefore moment due
before-exactly None moment limit none some small = let late = none.0 refl in (λ _. tt, λ _. omega (arith, late, small))
before-exactly (Some due) moment limit none some small = (λ before. omega (arith, before, some), λ before. omega (arith, before, some))

-- a gateway that isn't idle is quiet before what is due, and not from then on
pub awake-quiet : (settings : GatewaySettings) (exchange : Exchange) (history : List AcceptedCall) (at limit : ℕ) (due : Option ℕ) → is_idle exchange.state ≡ false
    → (IsNone due ↔ 2 ^ 62 ≤ limit) → IfSome due (λ at. at ≡ limit) → limit ≡ max exchange.due_ms exchange.moment → exchange.moment < 2 ^ 62 → at < 2 ^ 62
    → (answer_at settings (moved at exchange) history).outcome ≡ Quiet ↔ IsBefore (max exchange.moment at) due
awake-quiet settings exchange history at limit due awake none some same small small' =
    let now = max exchange.moment at in
    let exact = before-exactly due now limit none some (omega (arith, small, small')) in
    let quiet = rests-exactly (nat_lt now exchange.due_ms) (is_idle exchange.state) (is_quiet history now (farewell_ms exchange.query)) (moved at exchange) (idle (moved at exchange)) _
    awake (busy-due exchange.state settings (moved at exchange) awake) in (
      λ is. let less : now < exchange.due_ms = ltb-true now exchange.due_ms (quiet.0 is) in exact.0 (omega (arith, less, same)),
      λ is. let before : now < limit = exact.1 is in quiet.1 (lt-ltb now exchange.due_ms (omega (arith, before, same))),
    )
