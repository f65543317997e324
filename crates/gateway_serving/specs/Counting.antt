-- What is counted of a run.
use Rattle.std.specs.Prelude.{◌≡◌, ℕ, ◌+◌, Bool, true, false, not, if◌then◌else◌, List, count_by, sum_by, Option, None, Some}
use Rattle.amt_ports.specs.declared.link.LinkAnswer.{LinkAnswer, TheVariants.{Datagram, Nothing as NothingCame, Closed as LinkClosed}}
use Rattle.gateway_serving.specs.{Turns.{Asks, Bad, Called, Line, Starved, Turn}, declared.counts.Counts.{Counts}}

abbrev pub is_datagram : LinkAnswer → Bool
is_datagram (Datagram from bytes) = true
is_datagram NothingCame = false
is_datagram LinkClosed = false

abbrev pub is_bad : Option Line → Bool
is_bad None = false
is_bad (Some (Called event)) = false
is_bad (Some (Asks asking)) = false
is_bad (Some (Bad reason)) = true
is_bad (Some Starved) = false

abbrev pub is_starved_line : Option Line → Bool
is_starved_line None = false
is_starved_line (Some (Called event)) = false
is_starved_line (Some (Asks asking)) = false
is_starved_line (Some (Bad reason)) = false
is_starved_line (Some Starved) = true

-- the events and the lines of a turn that memory refused
abbrev pub starved_in : Turn → ℕ
starved_in turn =
    count_by (λ one. one.starved) turn.clock
    + (count_by (λ one. one.starved) turn.heard + count_by (λ one. is_starved_line one.line) turn.lines)

abbrev pub datagrams_heard : Turn → ℕ
datagrams_heard turn = count_by (λ one. is_datagram one.answer) turn.heard

abbrev pub lines_taken : Turn → ℕ
lines_taken turn = count_by (λ one. is_datagram one.answer) turn.lines

abbrev pub bad_lines_taken : Turn → ℕ
bad_lines_taken turn = count_by (λ one. is_bad one.line) turn.lines

-- each datagram and each line that was taken counts, those that memory refused among them; and that is counted with what
-- memory refused besides, as answers to lines
pub record AreCounted (turns : List Turn) (refused : ℕ) (datagrams controls bad_controls starved : ℕ) : Type 0 where
  pub datagrams_are : datagrams ≡ sum_by datagrams_heard turns
  pub controls_are : controls ≡ sum_by lines_taken turns
  pub bad_are : bad_controls ≡ sum_by bad_lines_taken turns
  pub starved_are : starved ≡ sum_by starved_in turns + refused

abbrev pub no_counts : Counts
no_counts = record { datagrams = 0; controls = 0; bad_controls = 0; delivered = 0; unsent = 0; starved = 0 }

abbrev pub one_if : Bool → ℕ
one_if condition = if condition then 1 else 0

-- the counts after one send more, which the device took or didn't
abbrev pub with_send : Bool → Counts → Counts
with_send taken counts = record counts { unsent = counts.unsent + one_if (not taken) }

-- the counts after one more that memory refused
abbrev pub with_starved : Counts → Counts
with_starved counts = record counts { starved = counts.starved + 1 }

-- so many more datagrams and lines were taken, of which so many lines are bad, and so many of the answers were
-- refused by memory
pub record Tallies (before after : Counts) (datagrams controls bad_controls starved : ℕ) : Type 0 where
  pub datagrams_are : after.datagrams ≡ before.datagrams + datagrams
  pub controls_are : after.controls ≡ before.controls + controls
  pub bad_are : after.bad_controls ≡ before.bad_controls + bad_controls
  pub starved_are : after.starved ≡ before.starved + starved
