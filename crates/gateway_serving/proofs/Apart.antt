-- A line that makes a socket call doesn't begin as one that asks for something.
use Rattle.std.proofs.{Common.{◌≡◌, ℕ, true, List, [], ◌∷◌, codes, get_or, ⊎_elim, inl, inr, refl, sym, ap, subst, arith}, lemmas.Bool.{false≢true}}
use Rattle.control_lines.specs.{Asking.{BeginsAsking, line_of}, AskingGateways.{AsksGateway, IsForAsking, asking_words}, declared.asking_gateway.GatewayAsking.{GatewayAsking, TheVariants.{Counts, Show, Stop, StopLeave}}}
use Rattle.gateway_machine.specs.{Answers.{call_in}, declared.event.GatewayEvent.{GatewayEvent}}
use Rattle.gateway_machine.specs.declared.event.GatewayEvent.TheVariants as events
use Rattle.gateway_script.specs.{SocketLine.{IsSocketLine}, Says.{SaysEvent}}
use Rattle.group_records.specs.declared.family.Family.{Family}
use Rattle.script_lines.specs.Lines.{fields}
use Rattle.std.specs.Prelude.{Option, Some, is_some}

-- a line whose first word is none of the three doesn't ask
asks_apart : (line : List (List ℕ)) (word : List ℕ) (rest : List (List ℕ)) → line ≡ word ∷ rest → BeginsAsking line
    → (word ≡ codes "counts" → ⊥) → (word ≡ codes "show" → ⊥) → (word ≡ codes "stop" → ⊥) → ⊥
asks_apart line word rest is begins no_counts no_show no_stop =
    ⊎_elim no_counts (⊎_elim no_show no_stop) (subst BeginsAsking is begins)

-- the words of calls
open_apart : (line rest : List (List ℕ)) → line ≡ codes "open" ∷ rest → BeginsAsking line → ⊥
open_apart line rest is begins =
    asks_apart line (codes "open") rest is begins
    (λ same. let one : 111 ≡ 99 = ap (λ (word : List ℕ). get_or word 0 0) same in omega (arith, one))
    (λ same. let one : 111 ≡ 115 = ap (λ (word : List ℕ). get_or word 0 0) same in omega (arith, one))
    (λ same. let one : 111 ≡ 115 = ap (λ (word : List ℕ). get_or word 0 0) same in omega (arith, one))

change_apart : (line rest : List (List ℕ)) → line ≡ codes "change" ∷ rest → BeginsAsking line → ⊥
change_apart line rest is begins =
    asks_apart line (codes "change") rest is begins
    (λ same. let one : 104 ≡ 111 = ap (λ (word : List ℕ). get_or word 1 0) same in omega (arith, one))
    (λ same. let one : 99 ≡ 115 = ap (λ (word : List ℕ). get_or word 0 0) same in omega (arith, one))
    (λ same. let one : 99 ≡ 115 = ap (λ (word : List ℕ). get_or word 0 0) same in omega (arith, one))

close_apart : (line rest : List (List ℕ)) → line ≡ codes "close" ∷ rest → BeginsAsking line → ⊥
close_apart line rest is begins =
    asks_apart line (codes "close") rest is begins
    (λ same. let one : 108 ≡ 111 = ap (λ (word : List ℕ). get_or word 1 0) same in omega (arith, one))
    (λ same. let one : 99 ≡ 115 = ap (λ (word : List ℕ). get_or word 0 0) same in omega (arith, one))
    (λ same. let one : 99 ≡ 115 = ap (λ (word : List ℕ). get_or word 0 0) same in omega (arith, one))

leave_apart : (line rest : List (List ℕ)) → line ≡ codes "leave" ∷ rest → BeginsAsking line → ⊥
leave_apart line rest is begins =
    asks_apart line (codes "leave") rest is begins
    (λ same. let one : 108 ≡ 99 = ap (λ (word : List ℕ). get_or word 0 0) same in omega (arith, one))
    (λ same. let one : 108 ≡ 115 = ap (λ (word : List ℕ). get_or word 0 0) same in omega (arith, one))
    (λ same. let one : 108 ≡ 115 = ap (λ (word : List ℕ). get_or word 0 0) same in omega (arith, one))

call_apart : (family : Option Family) (event : GatewayEvent) (line : List (List ℕ)) → SaysEvent family event line → is_some (call_in event) ≡ true → BeginsAsking line → ⊥
call_apart family (events.Moment ms) line says call begins = absurd (false≢true call)
call_apart family (events.Nonce nonce) line says call begins = absurd (false≢true call)
call_apart family (events.Datagram from bytes) line says call begins = absurd (false≢true call)
call_apart family (events.Open name group filter) line says call begins = open_apart line (says.text ∷ says.rest) says.parts begins
call_apart family (events.Change name filter) line says call begins = change_apart line (says.text ∷ says.rest) says.parts begins
call_apart family (events.Close name) line says call begins = close_apart line (says.text ∷ says.rest) says.parts begins
call_apart family events.LeaveAll line says call begins = leave_apart line [] says begins

pub calls_dont_ask : (family : Family) (event : GatewayEvent) (bytes : List ℕ) → IsSocketLine family event bytes → IsForAsking bytes → ⊥
calls_dont_ask family event bytes is asks = call_apart (Some family) event (fields (line_of bytes)) is.says is.call asks.1

begins_with : (asking : GatewayAsking) → BeginsAsking (asking_words asking)
begins_with Counts = inl refl
begins_with Show = inr (inl refl)
begins_with Stop = inr (inr refl)
begins_with StopLeave = inr (inr refl)

-- a line that asks for something begins as one
pub asks_begin : (asking : GatewayAsking) (bytes : List ℕ) → AsksGateway asking bytes → IsForAsking bytes
asks_begin asking bytes asks = (asks.0, subst BeginsAsking (sym asks.1) (begins_with asking))
