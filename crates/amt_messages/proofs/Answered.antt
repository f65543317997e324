-- From what was answered by the reading of octets to what it says of their spelling.
use Rattle.std.{proofs.Common.{◌≡◌, ◌≤◌, ◌↔◌, ℕ, List, length, arith, Some, None, Result, Ok, Err, refl, sym, subst, ◌∙◌}, specs.Result.{IfOk, MatchResult}}
use Rattle.amt_messages.specs.{declared.{message.Message.{Message, TheVariants.{Discovery, Advertisement, Request, Query, Update, Multicast, Teardown}}, refusal.{DecodeFault.{DecodeFault, TheVariants.{Refused as RefusedBy, Memory}}, Refused.{Refused}}}, Messages.{IsMessage, IsSendable}}
use Rattle.amt_messages.{specs.{Layout.{Spells, spelling_of}, Refusal.{TakesMemory, first_refusal, message_at, message_of, refusal_in}}, proofs.{Spelled.{spelled_is_read}, Unrefused.{read_is_spelled, read_is_unrefused, unrefused_is_spelled}, Written.{spelling_is_canonical}}}
use Rattle.amt_values.{specs.Answer.{Gives}, proofs.ConditionLaws.{unless-err}}

pub answer_found : (answer : Result Message DecodeFault) (bytes : List ℕ) → Gives refusal_in TakesMemory answer (message_of bytes) → IfOk answer (λ message. Spells message bytes)
answer_found (Ok message) bytes gives = read_is_spelled bytes message gives
answer_found (Err fault) bytes gives = tt

pub answer_only : (answer : Result Message DecodeFault) (bytes : List ℕ) → Gives refusal_in TakesMemory answer (message_of bytes) → (message : Message) → Spells message bytes
    → Gives refusal_in TakesMemory answer (Ok message)
answer_only answer bytes gives message spells = subst (Gives refusal_in TakesMemory answer) (spelled_is_read message bytes spells) gives

pub answer_back : (answer : Result Message DecodeFault) (bytes : List ℕ) → Gives refusal_in TakesMemory answer (message_of bytes) → (message : Message)
    → IsMessage message → IsSendable message → bytes ≡ spelling_of message → Gives refusal_in TakesMemory answer (Ok message)
answer_back answer bytes gives message fits sendable same =
    let spells = subst (Spells message) (sym same) (spelling_is_canonical message fits sendable).spelled in
    answer_only answer bytes gives message spells

-- what a datagram spells may be written
spelled_is_sendable : (message : Message) (bytes : List ℕ) → length bytes ≤ 65535 → Spells message bytes → IsSendable message
spelled_is_sendable (Discovery nonce) bytes most spells = tt
spelled_is_sendable (Advertisement nonce relay) bytes most spells = tt
spelled_is_sendable (Request v6 nonce) bytes most spells = tt
spelled_is_sendable (Query limited mac nonce inner None) bytes most spells =
    let octets = spells.kind.octets in
    (spells.inner_whole, omega arith)
spelled_is_sendable (Query limited mac nonce inner (Some endpoint)) bytes most spells =
    let octets = spells.0.kind.octets in
    (spells.0.inner_whole, omega arith)
spelled_is_sendable (Update mac nonce inner) bytes most spells =
    let octets = spells.kind.octets in
    omega arith
spelled_is_sendable (Multicast packet) bytes most spells =
    let octets = spells.kind.octets in
    omega arith
spelled_is_sendable (Teardown mac nonce gateway) bytes most spells = tt

pub answer_sendable : (answer : Result Message DecodeFault) (bytes : List ℕ) → length bytes ≤ 65535 → Gives refusal_in TakesMemory answer (message_of bytes)
    → IfOk answer (λ message. IsSendable message)
answer_sendable (Ok message) bytes most gives = spelled_is_sendable message bytes most (read_is_spelled bytes message gives)
answer_sendable (Err fault) bytes most gives = tt

-- octets spell one message
pub Spells_unique : (bytes : List ℕ) (message other : Message) → Spells message bytes → Spells other bytes → message ≡ other
Spells_unique bytes message other spells spells_other =
    let both : Ok message ≡ Ok other = sym (spelled_is_read message bytes spells) ∙ spelled_is_read other bytes spells_other in
    cc

takes_memory-ok : (reading : Result Message Refused) → TakesMemory reading → (message : Message) × (reading ≡ Ok message)
takes_memory-ok (Ok message) takes = (message, refl)
takes_memory-ok (Err refusal) takes = absurd takes

read_is_refused : (bytes : List ℕ) (refusal : Refused) → message_of bytes ≡ Err refusal → first_refusal bytes ≡ Some refusal
unfolding message_of
read_is_refused bytes refusal same = unless-err (first_refusal bytes) (message_at bytes) refusal (sym same)

pub answer_refused : (answer : Result Message DecodeFault) (bytes : List ℕ) → Gives refusal_in TakesMemory answer (message_of bytes)
    → MatchResult answer (λ _. first_refusal bytes ≡ None) (λ fault. first_refusal bytes ≡ refusal_in fault)
answer_refused (Ok message) bytes gives = read_is_unrefused bytes message gives
answer_refused (Err (RefusedBy refusal)) bytes gives = read_is_refused bytes refusal gives
answer_refused (Err Memory) bytes gives =
    let found = takes_memory-ok (message_of bytes) gives in
    read_is_unrefused bytes found.0 found.1

-- nothing refuses the octets exactly where some message spells them
pub unrefused-spelled : (bytes : List ℕ) → (first_refusal bytes ≡ None) ↔ ((message : Message) × Spells message bytes)
unrefused-spelled bytes = (
  unrefused_is_spelled bytes,
  λ (message, spells). read_is_unrefused bytes message (spelled_is_read message bytes spells),
)

-- a message spells the octets exactly where it is what is read of them
pub Spells-read : (bytes : List ℕ) (message : Message) → Spells message bytes ↔ (message_of bytes ≡ Ok message)
Spells-read bytes message = (spelled_is_read message bytes, read_is_spelled bytes message)

-- what `decode` ensures of its reading
pub ruleset answers = (answer_found, answer_only, answer_back, answer_sendable, answer_refused, Spells_unique, unrefused-spelled, Spells-read)
