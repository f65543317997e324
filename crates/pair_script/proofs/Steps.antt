-- A pair after one more event.
use Rattle.std.{proofs.{Common.{◌≡◌, ℕ, ◌+◌, List, [], ◌∷◌, ◌++◌, length, Result, Ok, Err, OnOk, sym, subst, ap, ◌∙◌, append-nil, arith}, lemmas.List.{length-map, Elements.{filter_map-append}}}, specs.List.{sum_by}}
use Rattle.relay_machine.specs.declared.sends.OneSend.{OneSend}
use Rattle.amt_pair.{specs.{Members.{kept_upward}, Parts.{parts_of}, Schedule.{Course, MayCome, course_of, with_pair_event}, Setup.{Host, PairSetup}, State.{PairAt, StandsFor, hosts_of, sent_down, sent_up}, declared.{datagrams.UpDatagram.{UpDatagram}, event.PairEvent.{PairEvent}, pair.Pair.{Pair}, step.Part.{Part}}}, proofs.Courses.{course_of-more, course_of-none, pair_hosts}}
use Rattle.pair_script.{specs.{Running.{IsPairAfter}, Texts.{downs_in, event_in, event_text, events_in, parts_text, ups_in}, declared.script.PairItem.{PairItem}}, proofs.Counts.{downs_counted, ups_counted}}
use Rattle.pair_script.specs.declared.script.PairItem.TheVariants as items

-- what was sent to the relay, by the course
pub up_at : (pair : Pair) (setup : PairSetup) (course : Course) → StandsFor pair setup course → sent_up pair ≡ length course.up
up_at pair setup course at = ap (λ (all : List UpDatagram). length all) at.up ∙ length-map course.up kept_upward

pub down_at : (pair : Pair) (setup : PairSetup) (course : Course) → StandsFor pair setup course → sent_down pair ≡ length course.down
down_at pair setup course at = ap (λ (all : List OneSend). length all) at.down

-- an event that may come to the gateways of the start may come to the pair
pub may_come : (pair : Pair) (start : PairSetup) (schedule : List PairEvent) (event : PairEvent) → StandsFor pair start (course_of start schedule) → MayCome start.hosts event
    → MayCome (hosts_of pair) event
may_come pair start schedule event at may = subst (λ (hosts : List Host). MayCome hosts event) (sym (pair_hosts pair start schedule at)) may

-- the datagrams before, and those of the parts
pub ups_after : (pair after : Pair) (setup : PairSetup) (course : Course) (event : PairEvent) (parts : List Part) → StandsFor pair setup course
    → StandsFor after setup (with_pair_event setup course event) → parts ≡ parts_of setup course event → sent_up pair + sum_by ups_in parts ≡ sent_up after
ups_after pair after setup course event parts at next are = omega (
  arith,
  up_at pair setup course at,
  up_at after setup (with_pair_event setup course event) next,
  ups_counted setup course event,
  ap (sum_by ups_in) are,
)

pub downs_after : (pair after : Pair) (setup : PairSetup) (course : Course) (event : PairEvent) (parts : List Part) → StandsFor pair setup course
    → StandsFor after setup (with_pair_event setup course event) → parts ≡ parts_of setup course event → sent_down pair + sum_by downs_in parts ≡ sent_down after
downs_after pair after setup course event parts at next are = omega (
  arith,
  down_at pair setup course at,
  down_at after setup (with_pair_event setup course event) next,
  downs_counted setup course event,
  ap (sum_by downs_in) are,
)

-- the text of an event's parts is the event's
pub text_is : (pair : Pair) (setup : PairSetup) (course : Course) (number up down : ℕ) (event : PairEvent) (parts : List Part) → StandsFor pair setup course
    → up ≡ sent_up pair → down ≡ sent_down pair → parts ≡ parts_of setup course event → parts_text number up down parts ≡ event_text setup course number event
unfolding event_text
text_is pair setup course number up down event parts at up_is down_is are =
    let is_up = up_is ∙ up_at pair setup course at in
    let is_down = down_is ∙ down_at pair setup course at in
    ap (λ (n : ℕ). parts_text number n down parts) is_up
    ∙ (ap (λ (n : ℕ). parts_text number (length course.up) n parts) is_down
    ∙ ap (parts_text number (length course.up) (length course.down)) are)

-- the pair after one more item
pub one_more : (after : Pair) (up down : ℕ) (start : PairSetup) (before : List PairItem) (event : PairEvent)
    → StandsFor after start (with_pair_event start (course_of start (events_in before)) event) → up ≡ sent_up after → down ≡ sent_down after
    → IsPairAfter after up down start (before ++ items.Event event ∷ [])
one_more after up down start before event at up_is down_is = record {
  at = subst (λ (course : Course). StandsFor after start course)
      (sym (ap (course_of start) (filter_map-append event_in before (items.Event event ∷ [])) ∙ course_of-more start (events_in before) event)) at;
  up_is = up_is;
  down_is = down_is;
}

-- the memberships are shown, and nothing happens
pub shown_more : (pair : Pair) (up down : ℕ) (start : PairSetup) (before : List PairItem) → IsPairAfter pair up down start before
    → IsPairAfter pair up down start (before ++ items.Show ∷ [])
shown_more pair up down start before at = record {
  at = subst (λ (schedule : List PairEvent). StandsFor pair start (course_of start schedule))
      (sym (filter_map-append event_in before (items.Show ∷ []) ∙ append-nil (events_in before))) at.at;
  up_is = at.up_is;
  down_is = at.down_is;
}

-- no item yet
pub at_start : (pair : Pair) (setup : PairSetup) → PairAt pair setup [] → IsPairAfter pair 0 0 setup []
at_start pair setup at = record {
  at = at.stands;
  up_is = sym (up_at pair setup (course_of setup []) at.stands ∙ ap (λ (c : Course). length c.up) (course_of-none setup));
  down_is = sym (down_at pair setup (course_of setup []) at.stands ∙ ap (λ (c : Course). length c.down) (course_of-none setup));
}

pub on_any : {E P : Type 0} (result : Result (Unit {0}) E) → P → OnOk result P
on_any (Ok done) h = h
on_any (Err fault) h = tt
