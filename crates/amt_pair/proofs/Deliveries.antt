-- An event that comes to one gateway of a pair, or to none.
use Rattle.std.proofs.Common.{◌≡◌, ◌<◌, ℕ, Bool, true, List, [], ◌∷◌, ◌++◌, length, get_or, filter, flat_map, ap, ◌∙◌, append-nil}
use Rattle.gateway_machine.specs.declared.event.GatewayEvent.{GatewayEvent}
use Rattle.amt_pair.{specs.{Parts.{gateway_part, gateway_parts}, Schedule.{Course, Member, Upward, upwards_on, with_gateway_event, with_member_event}, State.{with_member_at}}, proofs.Alone.{NonePasses, PassesOnce, alone, filter_none, map_none}}

-- the gateway that an event is for
pub record IsForOne (event : GatewayEvent) (reaches : Member → Bool) (course : Course) (place : ℕ) : Type 0 where
  pub member : Member
  pub here : get_or course.members place member ≡ member
  pub reached : with_member_event event reaches course ≡ with_member_at course event place member
  pub part : gateway_parts event (filter reaches course.members) ≡ gateway_part event member ∷ []

module _ (event : GatewayEvent) (reaches : Member → Bool) (course : Course) where
  -- the course with these gateways, and with what these of them send
  abbrev with_both : List Member → List Member → Course
  with_both members senders = record course { members = members; up = course.up ++ flat_map (upwards_on event) senders }

  -- an event that reaches one gateway alone
  pub for_one : (place : ℕ) (member : Member) → PassesOnce reaches course.members → place < length course.members → get_or course.members place member ≡ member → reaches member ≡ true
      → IsForOne event reaches course place
  for_one place member once within here passes =
      let one = alone reaches course.members place member once within here passes in
      record {
        member = member;
        here = here;
        reached = (λ i. with_both (one.changes (with_gateway_event event) i) (one.kept i))
            ∙ ap (λ (sent : List Upward). record (with_member_at course event place member) { up = course.up ++ sent }) (append-nil (upwards_on event member));
        part = ap (gateway_parts event) one.kept;
      }

  -- one that reaches none
  module _ (none : NonePasses reaches course.members) where
    pub none_reached : with_member_event event reaches course ≡ course
    none_reached =
        (λ i. with_both (map_none reaches (with_gateway_event event) course.members none i) (filter_none reaches course.members none i))
        ∙ ap (λ (up : List Upward). record course { up = up }) (append-nil course.up)

    pub no_part : gateway_parts event (filter reaches course.members) ≡ []
    no_part = ap (gateway_parts event) (filter_none reaches course.members none)
