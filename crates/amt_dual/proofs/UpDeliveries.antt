-- A delivery to the relay, by its number.
use Rattle.{std.proofs.{Common.{◌≡◌, ℕ, ◌-◌, nat_lt, Bool, true, false, cond, List, [], ◌∷◌, map, slice_get, Option, Some, None, option_map, refl, sym, ap, ◌∙◌}, lemmas.Option.{slice_get-map}}, relay_machine.specs.declared.event.Event.{Event, TheVariants.{Datagram}}, amt_pair.specs.{Members.{kept_upward}, Parts.{relay_step}, Schedule.{Course, Upward, delivery_up, numbered, up_delivered, with_relay_event}, Setup.{PairSetup}, declared.datagrams.UpDatagram.{UpDatagram}}, amt_dual.specs.{Parts.{dual_parts_of, or_absent, up_parts}, Schedule.{with_dual_pair_event}, declared.{event.DualPairEvent.TheVariants.{Up}, step.DualPart.TheVariants.{Absent, Relay}}}}

kept_where : (test : Bool) (kept : Option UpDatagram) (sent : Option Upward) → kept ≡ option_map kept_upward sent
    → cond test kept None ≡ option_map kept_upward (cond test sent None)
kept_where true kept sent is = is
kept_where false kept sent is = refl

numbered-kept : (up : List Upward) (number : ℕ) → numbered (map kept_upward up) number ≡ option_map kept_upward (numbered up number)
numbered-kept up number =
    kept_where (nat_lt 0 number) (slice_get (map kept_upward up) (number - 1)) (slice_get up (number - 1)) (slice_get-map kept_upward up (number - 1))

kept-none : (sent : Option Upward) → option_map kept_upward sent ≡ None → sent ≡ None
kept-none (Some upward) is = absurd cc
kept-none None is = refl

-- what is kept as a datagram was sent
pub record IsSent (sent : Option Upward) (datagram : UpDatagram) : Type 0 where
  pub upward : Upward
  pub found : sent ≡ Some upward
  pub kept : kept_upward upward ≡ datagram

kept-some : (sent : Option Upward) (datagram : UpDatagram) → option_map kept_upward sent ≡ Some datagram → IsSent sent datagram
kept-some (Some upward) datagram is = record { upward = upward; found = refl; kept = cc }
kept-some None datagram is = absurd cc

module _ (setup : PairSetup) (course : Course) (number : ℕ) where
  module _ (up : List UpDatagram) (same : up ≡ map kept_upward course.up) where
    kept_is : numbered up number ≡ option_map kept_upward (numbered course.up number)
    kept_is = ap (λ (all : List UpDatagram). numbered all number) same ∙ numbered-kept course.up number

    pub not_sent : None ≡ numbered up number → numbered course.up number ≡ None
    not_sent is = kept-none (numbered course.up number) (sym kept_is ∙ sym is)

    pub was_sent : (datagram : UpDatagram) → Some datagram ≡ numbered up number → IsSent (numbered course.up number) datagram
    was_sent datagram is = kept-some (numbered course.up number) datagram (sym kept_is ∙ sym is)

  -- nothing is delivered
  pub absent_up : numbered course.up number ≡ None → Absent number ∷ [] ≡ dual_parts_of setup course (Up number)
  absent_up is = ap (λ (one : Option Upward). or_absent number (up_parts setup course one)) (sym is)

  pub stays_up : numbered course.up number ≡ None → course ≡ with_dual_pair_event setup course (Up number)
  stays_up is = ap (λ (one : Option Upward). up_delivered setup one course) (sym is)

  module _ (datagram : UpDatagram) (bytes : List ℕ) (octets : bytes ≡ datagram.bytes) (sent : IsSent (numbered course.up number) datagram) where
    event_is : Datagram bytes datagram.from ≡ delivery_up sent.upward
    event_is =
        ap (λ (all : List ℕ). Datagram all datagram.from) octets ∙ ap (λ (kept : UpDatagram). Datagram kept.bytes kept.from) (sym sent.kept)

    pub delivered_up : Relay (relay_step setup course (Datagram bytes datagram.from)) ∷ [] ≡ dual_parts_of setup course (Up number)
    delivered_up =
        ap (λ (event : Event). Relay (relay_step setup course event) ∷ []) event_is
        ∙ ap (λ (one : Option Upward). or_absent number (up_parts setup course one)) (sym sent.found)

    pub reached_up : with_relay_event setup (Some sent.upward) (Datagram bytes datagram.from) course ≡ with_dual_pair_event setup course (Up number)
    reached_up =
        ap (λ (event : Event). with_relay_event setup (Some sent.upward) event course) event_is
        ∙ ap (λ (one : Option Upward). up_delivered setup one course) (sym sent.found)
