-- A moment on its way over the gateways of a pair.
use Rattle.std.proofs.{Common.{◌≡◌, ◌<◌, ◌+◌, ℕ, List, [], ◌∷◌, ◌++◌, drop, map, flat_map, length, get_or, set, take, refl, sym, ap, ◌∙◌, subst, arith, append-nil, append_assoc, length-append, length-drop}, lemmas.{Grind.{flat_map-append}, List.{drop_more, drop_all, get_or_at, length-map, length-take-le, map-append, map_more, set-get_or, take_all, take_more, Edits.{map_over_more}}}}
use Rattle.gateway_machine.specs.declared.event.GatewayEvent.TheVariants.{Moment as Passes}
use Rattle.amt_pair.{specs.{Members.{AreMembersAt, HasCome, HasComeTo, IsMemberAt, host_of, kept_upward}, Parts.{gateway_part, gateway_parts}, Schedule.{Member, Upward, upwards_on, with_gateway_event}, declared.{datagrams.UpDatagram.{UpDatagram}, gateways.NamedGateway.{NamedGateway}, step.Part.{Part}}}, proofs.MembersAt.{lengths_are, member_at_place, members_set}}

module _ (at : ℕ) where
  abbrev reached_by : Member → Member
  reached_by = with_gateway_event (Passes at)

  -- what was kept of gateways that it has come to
  abbrev sent_to : List Member → List UpDatagram
  sent_to members = map kept_upward (flat_map (upwards_on (Passes at)) members)

  sent_more : (reached : List Member) (member : Member) → sent_to (reached ++ member ∷ []) ≡ sent_to reached ++ map kept_upward (upwards_on (Passes at) member)
  sent_more reached member =
      ap (map kept_upward)
      (flat_map-append (upwards_on (Passes at)) reached (member ∷ [])
      ∙ ap (λ (sent : List Upward). flat_map (upwards_on (Passes at)) reached ++ sent) (append-nil (upwards_on (Passes at) member)))
      ∙ map-append kept_upward (flat_map (upwards_on (Passes at)) reached) (upwards_on (Passes at) member)

  -- it has come to none at first
  pub come_to_none : (members : List Member) (gateways : List NamedGateway) (up : List UpDatagram) (parts : List Part)
      → AreMembersAt gateways members → HasComeTo at 0 members gateways up up parts parts
  come_to_none members gateways up parts are = record { gateways_are = are; sent = sym (append-nil up); parts = sym (append-nil parts) }

  module _ (members : List Member) (gateways : List NamedGateway) (up_before up : List UpDatagram) (parts_before parts : List Part) (place : ℕ)
      (come : HasComeTo at place members gateways up_before up parts_before parts) where
    -- it comes to the gateway at the place
    pub come_to_next : (named next : NamedGateway) (up_after : List UpDatagram) (parts_after : List Part) (part : Part) → place < length members → named ≡ get_or gateways place named
        → ((member : Member) → IsMemberAt named member → IsMemberAt next (reached_by member))
        → ((member : Member) → IsMemberAt named member → up_after ≡ up ++ map kept_upward (upwards_on (Passes at) member))
        → ((member : Member) → IsMemberAt named member → part ≡ gateway_part (Passes at) member)
        → parts_after ≡ parts ++ part ∷ [] → HasComeTo at (place + 1) members (set gateways place next) up_before up_after parts_before parts_after
    come_to_next named next up_after parts_after part within is next_at sent part_is parts_are =
        let member : Member = get_or members place (record { host = host_of named; first = 0; events = [] }) in
        let front = map reached_by (take place members) in
        let all = front ++ drop place members in
        let long : length front ≡ place = length-map (take place members) reached_by ∙ length-take-le place members (omega arith) in
        let stands : get_or all place member ≡ member =
        ap (λ (rest : List Member). get_or (front ++ rest) place member) (drop_more members place _ within) ∙ get_or_at front member (drop (place + 1) members) member place long in
        let there : place < length gateways =
        omega (arith, lengths_are gateways all come.gateways_are, length-append front (drop place members), length-drop place members) in
        let here = member_at_place gateways gateways all place named member refl come.gateways_are there is stands in
        let more : take (place + 1) members ≡ take place members ++ member ∷ [] = take_more members place _ within in
        record {
          gateways_are = subst (AreMembersAt (set gateways place next)) (map_over_more reached_by members all place member within refl (sym stands))
              (members_set gateways all place next (reached_by member) come.gateways_are (next_at member here));
          sent =
              sent member here
              ∙ ap (λ (datagrams : List UpDatagram). datagrams ++ map kept_upward (upwards_on (Passes at) member)) come.sent
              ∙ append_assoc up_before (sent_to (take place members)) (map kept_upward (upwards_on (Passes at) member))
              ∙ ap (λ (datagrams : List UpDatagram). up_before ++ datagrams) (sym (ap sent_to more ∙ sent_more (take place members) member));
          parts =
              parts_are
              ∙ (λ i. come.parts i ++ part_is member here i ∷ [])
              ∙ append_assoc parts_before (gateway_parts (Passes at) (take place members)) (gateway_part (Passes at) member ∷ [])
              ∙ ap (λ (all : List Part). parts_before ++ all) (sym (map_more (gateway_part (Passes at)) members place _ within));
        }

    -- or stops there
    pub come_to_some : (named next : NamedGateway) (up_after : List UpDatagram) → named ≡ get_or gateways place named → next ≡ named → up_after ≡ up
        → HasComeTo at place members (set gateways place next) up_before up_after parts_before parts
    come_to_some named next up_after is same same_up = record {
      gateways_are = subst (λ (all : List NamedGateway). AreMembersAt all (map reached_by (take place members) ++ drop place members))
          (sym (ap (set gateways place) (same ∙ is) ∙ set-get_or gateways place named)) come.gateways_are;
      sent = same_up ∙ come.sent;
      parts = come.parts;
    }

    -- it has come to all in the end
    pub come_to_all : place ≡ length members → HasCome at members [] gateways up_before up parts_before parts
    come_to_all is =
        subst (λ (all : List Member). HasCome at all [] gateways up_before up parts_before parts) (take_all place members (omega arith))
        (subst (λ (rest : List Member). HasCome at (take place members) rest gateways up_before up parts_before parts) (drop_all place members (omega arith)) come)
