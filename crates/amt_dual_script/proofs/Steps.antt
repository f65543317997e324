-- A relay and its dual gateways after one more event.
use Rattle.std.{proofs.{Common.{◌≡◌, ℕ, ◌+◌, List, [], ◌∷◌, ◌++◌, length, map, sym, subst, ap, ◌∙◌, append-nil, arith}, lemmas.List.{length-map, Elements.{filter_map-append}}}, specs.List.{sum_by}}
use Rattle.relay_machine.specs.declared.sends.OneSend.{OneSend}
use Rattle.amt_pair.specs.{Members.{kept_upward}, Schedule.{Course}, Setup.{Host, PairSetup}, declared.datagrams.UpDatagram.{UpDatagram}}
use Rattle.pair_script.specs.Texts.{downs_in, parts_text, ups_in}
use Rattle.amt_dual.{specs.{Parts.{dual_parts_of}, Schedule.{DualMayCome, dual_course_of, with_dual_pair_event}, Setup.{DualSetup, machines_in}, State.{DualPairAt, StandsFor, machines, sent_down, sent_up}, declared.{event.DualPairEvent.{DualPairEvent}, pair.DualPair.{DualPair}, step.DualPart.{DualPart}}}, proofs.DualCourses.{dual_course_of-more, dual_course_of-none, pair_machines}}
use Rattle.amt_dual_script.{specs.{Running.{IsPairAfter}, Texts.{event_in, event_text, events_in, part_named}, declared.script.DualItem.{DualItem}}, proofs.Counts.{dual_downs_counted, dual_ups_counted}}
use Rattle.amt_dual_script.specs.declared.script.DualItem.TheVariants as items

-- what was sent to the relay, by the course
up_at : (pair : DualPair) (setup : PairSetup) (course : Course) → StandsFor pair setup course → sent_up pair ≡ length course.up
up_at pair setup course at = ap (λ (all : List UpDatagram). length all) at.up ∙ length-map course.up kept_upward

down_at : (pair : DualPair) (setup : PairSetup) (course : Course) → StandsFor pair setup course → sent_down pair ≡ length course.down
down_at pair setup course at = ap (λ (all : List OneSend). length all) at.down

-- an event that may come to the machines of the start may come to those of the pair
pub may_come : (pair : DualPair) (start : DualSetup) (schedule : List DualPairEvent) (event : DualPairEvent)
    → StandsFor pair (machines_in start) (dual_course_of start schedule) → DualMayCome (machines_in start).hosts event → DualMayCome (machines pair) event
may_come pair start schedule event at may = subst (λ (hosts : List Host). DualMayCome hosts event) (sym (pair_machines pair start schedule at)) may

-- the datagrams before, and those of the parts
pub ups_after : (pair after : DualPair) (setup : PairSetup) (course : Course) (event : DualPairEvent) (parts : List DualPart) → StandsFor pair setup course
    → StandsFor after setup (with_dual_pair_event setup course event) → parts ≡ dual_parts_of setup course event
    → sent_up pair + sum_by ups_in (map part_named parts) ≡ sent_up after
ups_after pair after setup course event parts at next are =
    let parts_are = ap (λ (all : List DualPart). sum_by ups_in (map part_named all)) are in
    omega (arith, up_at pair setup course at, up_at after setup (with_dual_pair_event setup course event) next, dual_ups_counted setup course event, parts_are)

pub downs_after : (pair after : DualPair) (setup : PairSetup) (course : Course) (event : DualPairEvent) (parts : List DualPart) → StandsFor pair setup course
    → StandsFor after setup (with_dual_pair_event setup course event) → parts ≡ dual_parts_of setup course event
    → sent_down pair + sum_by downs_in (map part_named parts) ≡ sent_down after
downs_after pair after setup course event parts at next are =
    let parts_are = ap (λ (all : List DualPart). sum_by downs_in (map part_named all)) are in
    omega (arith, down_at pair setup course at, down_at after setup (with_dual_pair_event setup course event) next, dual_downs_counted setup course event, parts_are)

-- the text of an event's parts is the event's
pub text_is : (pair : DualPair) (setup : DualSetup) (course : Course) (number up down : ℕ) (event : DualPairEvent) (parts : List DualPart)
    → StandsFor pair (machines_in setup) course → up ≡ sent_up pair → down ≡ sent_down pair → parts ≡ dual_parts_of (machines_in setup) course event
    → parts_text number up down (map part_named parts) ≡ event_text setup course number event
unfolding event_text
text_is pair setup course number up down event parts at up_is down_is are =
    let is_up = up_is ∙ up_at pair (machines_in setup) course at in
    let is_down = down_is ∙ down_at pair (machines_in setup) course at in
    ap (λ (n : ℕ). parts_text number n down (map part_named parts)) is_up
    ∙ (ap (λ (n : ℕ). parts_text number (length course.up) n (map part_named parts)) is_down
    ∙ ap (λ (all : List DualPart). parts_text number (length course.up) (length course.down) (map part_named all)) are)

-- the pair after one more item
pub one_more : (after : DualPair) (up down : ℕ) (start : DualSetup) (before : List DualItem) (event : DualPairEvent)
    → StandsFor after (machines_in start) (with_dual_pair_event (machines_in start) (dual_course_of start (events_in before)) event)
    → up ≡ sent_up after → down ≡ sent_down after → IsPairAfter after up down start (before ++ items.Event event ∷ [])
one_more after up down start before event at up_is down_is = record {
  at = subst (λ (course : Course). StandsFor after (machines_in start) course)
      (sym (ap (dual_course_of start) (filter_map-append event_in before (items.Event event ∷ [])) ∙ dual_course_of-more start (events_in before) event)) at;
  up_is = up_is;
  down_is = down_is;
}

-- the memberships are shown, and nothing happens
pub shown_more : (pair : DualPair) (up down : ℕ) (start : DualSetup) (before : List DualItem) → IsPairAfter pair up down start before
    → IsPairAfter pair up down start (before ++ items.Show ∷ [])
shown_more pair up down start before at = record {
  at = subst (λ (schedule : List DualPairEvent). StandsFor pair (machines_in start) (dual_course_of start schedule))
      (sym (filter_map-append event_in before (items.Show ∷ []) ∙ append-nil (events_in before))) at.at;
  up_is = at.up_is;
  down_is = at.down_is;
}

-- no item yet
pub at_start : (pair : DualPair) (setup : DualSetup) → DualPairAt pair setup [] → IsPairAfter pair 0 0 setup []
at_start pair setup at = record {
  at = at.stands;
  up_is = sym (up_at pair (machines_in setup) (dual_course_of setup []) at.stands ∙ ap (λ (c : Course). length c.up) (dual_course_of-none setup));
  down_is = sym (down_at pair (machines_in setup) (dual_course_of setup []) at.stands ∙ ap (λ (c : Course). length c.down) (dual_course_of-none setup));
}
