-- An event that comes to one machine, to both machines of a gateway, or to none.
use Rattle.{std.proofs.{Common.{◌≡◌, ◌<◌, ℕ, suc, ◌+◌, not, Bool, true, false, List, [], ◌∷◌, ◌++◌, map, length, get_or, filter, flat_map, All, HoldsAt, Option, Some, if◌then◌else◌, refl, sym, ap, subst, ◌∙◌, arith, append-nil, append_assoc, true≢false, inl, inr}, lemmas.{Bool.{and_from, and_left, and_parts, cases_Bool, cond-false, cond-true, false_from_ne_true, not_from_false}, List.{get_or_default, Folds.{list_any_at, list_any_none}}}}, std.specs.List.{AllWithin, list_any}, amt_values.specs.{Endpoint.{endpoint_of}}, gateway_machine.specs.declared.event.GatewayEvent.{GatewayEvent}, relay_machine.specs.declared.sends.OneSend.{OneSend}, amt_pair.{specs.{Members.{AreMembersAt, host_of}, OwnEndpoints.{HasOwnEndpoint}, Schedule.{Course, Member, Upward, answer_at, delivery_down, is_at, is_endpoint, numbered, upwards_on, with_gateway_event, with_member_event}, Setup.{Host, PairSetup}, State.{with_member_at}, declared.gateways.NamedGateway.{NamedGateway}}, proofs.{Alone.{NonePasses, PassesOnce, alone, filter_none}, Deliveries.{none_reached}, MembersAt.{host_at, hosts_are}}}, amt_dual.{specs.{Answers.{is_ignored}, Parts.{down_parts, dual_parts_of, machine_part, machine_parts, or_absent}, Schedule.{down_taken, ignores, takes_delivery, with_dual_pair_event}, State.{twin_parts, with_twins_at}, Twins.{AreMachinesApart, are_twins}, declared.{event.DualPairEvent.TheVariants.{Down}, step.DualPart.{DualPart}}}, proofs.{SideBySide.{OnlyThere, same_place, side_by_side}, TwinPlaces.{AreMachinesAt, endpoints_alike, first_twins, is_there, machines_at, once_there, twin-first, twin-second}}}}

module _ (event : GatewayEvent) (reaches : Member → Bool) (course : Course) where
  -- the course with these machines, and with what these of them send
  abbrev with_all : List Member → List Member → Course
  with_all members senders = record course { members = members; up = course.up ++ flat_map (upwards_on event) senders }

  -- an event that reaches one machine alone
  pub record IsForMachine (place : ℕ) (member : Member) : Type 0 where
    pub reached : with_member_event event reaches course ≡ with_member_at course event place member
    pub part : machine_parts event (filter reaches course.members) ≡ machine_part event member ∷ []

  pub for_machine : (place : ℕ) (member : Member) → PassesOnce reaches course.members → place < length course.members → get_or course.members place member ≡ member → reaches member ≡ true
      → IsForMachine place member
  for_machine place member once within here passes =
      let one = alone reaches course.members place member once within here passes in
      record {
        reached = (λ i. with_all (one.changes (with_gateway_event event) i) (one.kept i))
            ∙ ap (λ (sent : List Upward). record (with_member_at course event place member) { up = course.up ++ sent }) (append-nil (upwards_on event member));
        part = ap (machine_parts event) one.kept;
      }

  -- one that reaches two, one after the other
  pub record IsForBoth (place : ℕ) (v4 v6 : Member) : Type 0 where
    pub reached : with_member_event event reaches course ≡ with_member_at (with_member_at course event place v4) event (suc place) v6
    pub parts : machine_parts event (filter reaches course.members) ≡ machine_part event v4 ∷ machine_part event v6 ∷ []

  pub for_both : (place : ℕ) (v4 v6 : Member) → OnlyThere reaches course.members place → suc place < length course.members → get_or course.members place v4 ≡ v4 → get_or course.members (suc place) v6 ≡ v6
      → reaches v4 ≡ true → reaches v6 ≡ true → IsForBoth place v4 v6
  for_both place v4 v6 only within here next first second =
      let both = side_by_side reaches course.members place v4 v6 only within here next first second in
      record {
        reached = (λ i. with_all (both.changes (with_gateway_event event) i) (both.kept i))
            ∙ ap (λ (up : List Upward). record (with_member_at (with_member_at course event place v4) event (suc place) v6) { up = up })
            (ap (λ (sent : List Upward). course.up ++ (upwards_on event v4 ++ sent)) (append-nil (upwards_on event v6))
            ∙ sym (append_assoc course.up (upwards_on event v4) (upwards_on event v6)));
        parts = ap (machine_parts event) both.kept;
      }

  -- one that reaches none
  pub no_machine_part : NonePasses reaches course.members → machine_parts event (filter reaches course.members) ≡ []
  no_machine_part none = ap (machine_parts event) (filter_none reaches course.members none)

-- what it comes to at both machines
pub record AreDelivered (setup : PairSetup) (course : Course) (send : OneSend) (place : ℕ) (v4 v6 : Member) : Type 0 where
  pub reached : with_member_event (delivery_down setup send) (takes_delivery setup course.members send) course ≡ with_twins_at course (delivery_down setup send) place v4 v6
  pub parts : machine_parts (delivery_down setup send) (filter (takes_delivery setup course.members send) course.members) ≡ twin_parts (delivery_down setup send) v4 v6

module _ (setup : PairSetup) (course : Course) (send : OneSend) (place : ℕ) (at : AreMachinesAt (λ host. is_endpoint send.to (endpoint_of host.peer)) course.members place)
    (apart : AreMachinesApart (map host_at course.members)) (own : All (λ host. HasOwnEndpoint host.peer) (map host_at course.members)) where
  abbrev delivery : GatewayEvent
  delivery = delivery_down setup send

  -- some IPv4 machine there ignores it
  abbrev is_left : Bool
  is_left = list_any (ignores send.to delivery) course.members

  abbrev takes : Member → Bool
  takes = takes_delivery setup course.members send

  item_is : (k : ℕ) (d member : Member) → k < length course.members → get_or course.members k member ≡ member → get_or course.members k d ≡ member
  item_is k d member below is = get_or_default course.members k d member below ∙ is

  is_first : is_there send.to false at.v4 ≡ true
  is_first = and_from (is_at send.to at.v4) (not at.v4.host.settings.v6) at.first (not_from_false at.v4.host.settings.v6 (twin-first at.v4.host at.v6.host at.twins))

  is_second : is_there send.to true at.v6 ≡ true
  is_second = and_from (is_at send.to at.v6) at.v6.host.settings.v6 at.second (twin-second at.v4.host at.v6.host at.twins)

  -- the machine of a family there is at its own place
  at_first_place : (k : ℕ) (d : Member) → k < length course.members → is_there send.to false (get_or course.members k d) ≡ true → k ≡ place
  at_first_place k d below is =
      same_place (is_there send.to false) course.members k place d (once_there course.members apart send.to false own) below (omega (arith, at.within)) is
      (ap (is_there send.to false) (item_is place d at.v4 (omega (arith, at.within)) at.here) ∙ is_first)

  at_second_place : (k : ℕ) (d : Member) → k < length course.members → is_there send.to true (get_or course.members k d) ≡ true → k ≡ suc place
  at_second_place k d below is =
      same_place (is_there send.to true) course.members k (suc place) d (once_there course.members apart send.to true own) below at.within is
      (ap (is_there send.to true) (item_is (suc place) d at.v6 at.within at.next) ∙ is_second)

  pub left-since : is_ignored (answer_at at.v4 delivery).outcome ≡ true → is_left ≡ true
  left-since ignored =
      list_any_at (ignores send.to delivery) course.members place at.v4 (omega (arith, at.within))
      (ap (ignores send.to delivery) at.here ∙ and_from (is_there send.to false at.v4) (is_ignored (answer_at at.v4 delivery).outcome) is_first ignored)

  pub not_left-since : is_ignored (answer_at at.v4 delivery).outcome ≡ false → is_left ≡ false
  not_left-since taken =
      list_any_none (ignores send.to delivery) course.members (λ k d below. false_from_ne_true (ignores send.to delivery (get_or course.members k d)) (λ is.
      let both = and_parts (is_there send.to false (get_or course.members k d)) (is_ignored (answer_at (get_or course.members k d) delivery).outcome) is in
      let same : get_or course.members k d ≡ at.v4 =
      ap (λ (j : ℕ). get_or course.members j d) (at_first_place k d below both.0) ∙ item_is place d at.v4 (omega (arith, at.within)) at.here in
      true≢false (sym both.1 ∙ ap (λ (member : Member). is_ignored (answer_at member delivery).outcome) same ∙ taken)))

  first_takes : takes at.v4 ≡ true
  first_takes =
      and_from (is_at send.to at.v4) (if at.v4.host.settings.v6 then is_left else true) at.first
      (cond-false at.v4.host.settings.v6 is_left true (twin-first at.v4.host at.v6.host at.twins))

  -- where the IPv4 machine takes it, that one alone does
  takes_once : is_left ≡ false → PassesOnce takes course.members
  takes_once none i j d low high one other =
      once_there course.members apart send.to false own i j d low high (alone_there (get_or course.members i d) one) (alone_there (get_or course.members j d) other)
    where
      alone_there : (member : Member) → takes member ≡ true → is_there send.to false member ≡ true
      alone_there member is =
          let both = and_parts (is_at send.to member) (if member.host.settings.v6 then is_left else true) is in
          let kind : member.host.settings.v6 ≡ false =
          false_from_ne_true member.host.settings.v6 (λ yes. true≢false (sym both.1 ∙ cond-true member.host.settings.v6 is_left true yes ∙ none)) in
          and_from (is_at send.to member) (not member.host.settings.v6) both.0 (not_from_false member.host.settings.v6 kind)

  -- and where that one ignores it, both do, and no other
  take_both : OnlyThere takes course.members place
  take_both k d below not_here not_next = false_from_ne_true (takes (get_or course.members k d)) (λ is.
      let kind : Bool = (get_or course.members k d).host.settings.v6 in
      let both = and_parts (is_at send.to (get_or course.members k d)) (if kind then is_left else true) is in
      elim (cases_Bool kind) [
        | inl second ↦ not_next (at_second_place k d below (and_from (is_at send.to (get_or course.members k d)) kind both.0 second))
        | inr first ↦ not_here (at_first_place k d below (and_from (is_at send.to (get_or course.members k d)) (not kind) both.0 (not_from_false kind first)))
      ])

  one_more : suc place ≡ place + 1
  one_more = omega arith

  pub delivered : AreDelivered setup course send place at.v4 at.v6
  delivered = elim (cases_Bool (is_ignored (answer_at at.v4 delivery).outcome)) [
    | inl ignored ↦
        let second : takes at.v6 ≡ true =
        and_from (is_at send.to at.v6) (if at.v6.host.settings.v6 then is_left else true) at.second
        (cond-true at.v6.host.settings.v6 is_left true (twin-second at.v4.host at.v6.host at.twins) ∙ left-since ignored) in
        let both = for_both delivery takes course place at.v4 at.v6 take_both at.within at.here at.next first_takes second in
        record {
          reached = both.reached
              ∙ ap (λ (next : ℕ). with_member_at (with_member_at course delivery place at.v4) delivery next at.v6) one_more
              ∙ sym (cond-true (is_ignored (answer_at at.v4 delivery).outcome) (with_member_at (with_member_at course delivery place at.v4) delivery (place + 1) at.v6) (with_member_at course delivery place at.v4) ignored);
          parts = both.parts
              ∙ sym (cond-true (is_ignored (answer_at at.v4 delivery).outcome) (machine_part delivery at.v4 ∷ machine_part delivery at.v6 ∷ []) (machine_part delivery at.v4 ∷ []) ignored);
        }
    | inr taken ↦
        let one = for_machine delivery takes course place at.v4 (takes_once (not_left-since taken)) (omega (arith, at.within)) at.here first_takes in
        record {
          reached = one.reached
              ∙ sym (cond-false (is_ignored (answer_at at.v4 delivery).outcome) (with_member_at (with_member_at course delivery place at.v4) delivery (place + 1) at.v6) (with_member_at course delivery place at.v4) taken);
          parts = one.part
              ∙ sym (cond-false (is_ignored (answer_at at.v4 delivery).outcome) (machine_part delivery at.v4 ∷ machine_part delivery at.v6 ∷ []) (machine_part delivery at.v4 ∷ []) taken);
        }
  ]

-- where the gateways are
pub record AreReached (setup : PairSetup) (course : Course) (send : OneSend) (place : ℕ) : Type 0 where
  pub at : AreMachinesAt (λ host. is_endpoint send.to (endpoint_of host.peer)) course.members place
  pub next : get_or course.members (place + 1) at.v6 ≡ at.v6
  pub delivered : AreDelivered setup course send place at.v4 at.v6
  pub some : (number : ℕ) → or_absent number (twin_parts (delivery_down setup send) at.v4 at.v6) ≡ twin_parts (delivery_down setup send) at.v4 at.v6

some-part : (number : ℕ) (both : Bool) (one : DualPart) (other : List DualPart) → or_absent number (if both then one ∷ other else one ∷ []) ≡ (if both then one ∷ other else one ∷ [])
some-part number true one other = refl
some-part number false one other = refl

pub reached_at : (setup : PairSetup) (course : Course) (send : OneSend) (gateways : List NamedGateway) (place : ℕ) → AreMembersAt gateways course.members → are_twins (map host_of gateways) ≡ true
    → AreMachinesApart (map host_of gateways) → All (λ host. HasOwnEndpoint host.peer) (map host_of gateways) → place < length gateways
    → HoldsAt (λ one. is_endpoint send.to (endpoint_of one.peer) ≡ true) gateways place → AllWithin (λ one. is_endpoint send.to (endpoint_of one.peer) ≡ false) gateways 0 place
    → AreReached setup course send place
reached_at setup course send gateways place are twins apart own within found first =
    let test : Host → Bool = λ host. is_endpoint send.to (endpoint_of host.peer) in
    let same = hosts_are gateways course.members are in
    let at = machines_at test (endpoints_alike send.to) gateways course.members place are (first_twins test (endpoints_alike send.to) gateways place twins within found first) found in
    let event = delivery_down setup send in
    let one_more : place + 1 ≡ suc place = omega arith in
    record {
      at = at;
      next = ap (λ (k : ℕ). get_or course.members k at.v6) one_more ∙ at.next;
      delivered = delivered setup course send place at (subst AreMachinesApart same apart) (subst (All (λ host. HasOwnEndpoint host.peer)) same own);
      some = λ number. some-part number (is_ignored (answer_at at.v4 event).outcome) (machine_part event at.v4) (machine_part event at.v6 ∷ []);
    }

-- no gateway is there
pub record IsDeliveredToNone (setup : PairSetup) (course : Course) (send : OneSend) : Type 0 where
  pub reached : with_member_event (delivery_down setup send) (takes_delivery setup course.members send) course ≡ course
  pub parts : machine_parts (delivery_down setup send) (filter (takes_delivery setup course.members send) course.members) ≡ []

pub none_delivered : (setup : PairSetup) (course : Course) (send : OneSend) → NonePasses (is_at send.to) course.members → IsDeliveredToNone setup course send
none_delivered setup course send none =
    let takes = takes_delivery setup course.members send in
    let no : NonePasses takes course.members =
    λ k d below. not_there (get_or course.members k d) (none k d below) in
    record { reached = none_reached (delivery_down setup send) takes course no; parts = no_machine_part (delivery_down setup send) takes course no }
  where
    not_there : (member : Member) → is_at send.to member ≡ false → takes_delivery setup course.members send member ≡ false
    not_there member away =
        and_left (is_at send.to member) (if member.host.settings.v6 then list_any (ignores send.to (delivery_down setup send)) course.members else true) away

-- the delivery of a number
module _ (setup : PairSetup) (course : Course) (number : ℕ) where
  pub dual_down_parts : (send : OneSend) (parts : List DualPart) → numbered course.down number ≡ Some send
      → machine_parts (delivery_down setup send) (filter (takes_delivery setup course.members send) course.members) ≡ parts → or_absent number parts ≡ dual_parts_of setup course (Down number)
  dual_down_parts send parts found are =
      ap (or_absent number) (sym are) ∙ ap (λ (one : Option OneSend). or_absent number (down_parts setup course one)) (sym found)

  pub dual_down_reaches : (send : OneSend) (after : Course) → numbered course.down number ≡ Some send
      → with_member_event (delivery_down setup send) (takes_delivery setup course.members send) course ≡ after → after ≡ with_dual_pair_event setup course (Down number)
  dual_down_reaches send after found is = sym is ∙ ap (λ (one : Option OneSend). down_taken setup one course) (sym found)
