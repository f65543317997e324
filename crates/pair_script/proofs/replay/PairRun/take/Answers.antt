use Rattle.std.{proofs.Common.{◌<◌, ◌^◌, ◌++◌, List, ℕ, ap, ◌∙◌, rules, arith}, specs.List.{sum_by}}
use Rattle.amt_pair.specs.Schedule.{course_of}
use Rattle.pair_script.{specs.Texts.{downs_in, events_in, ups_in}, proofs.Steps.{downs_after, may_come, one_more, text_is, ups_after}}
use Rattle.pair_script.proofs.replay.PairRun.take.Goals as goal

pub step-requires : goal.step-requires
step-requires c = may_come c.args.self.now.pair c.requires.start (events_in c.requires.before) c.args.event.now c.requires.stands.at c.requires.may

pub append_parts-requires-clause-up : goal.append_parts-requires-clause-up
append_parts-requires-clause-up c =
    let start = c.requires.start in
    let course = course_of start (events_in c.requires.before) in
    let stands = c.requires.stands in
    let step = c.in_ok-step.step in
    let parts = c.in_ok-step.ensures.parts start course stands.at c.if-step.false in
    let next = c.in_ok-step.ensures.next start course stands.at c.if-step.false in
    let total = ups_after c.args.self.now.pair c.step.new.self start course c.args.event.now step.parts stands.at next parts in
    let small : step.up < 2 ^ 64 = search (rules, arith) in
    omega (arith, total, stands.up_is, c.in_ok-step.ensures.up, ap (sum_by ups_in) c.as_slice.ensures, small)

pub append_parts-requires-clause-down : goal.append_parts-requires-clause-down
append_parts-requires-clause-down c =
    let start = c.requires.start in
    let course = course_of start (events_in c.requires.before) in
    let stands = c.requires.stands in
    let step = c.in_ok-step.step in
    let parts = c.in_ok-step.ensures.parts start course stands.at c.if-step.false in
    let next = c.in_ok-step.ensures.next start course stands.at c.if-step.false in
    let total = downs_after c.args.self.now.pair c.step.new.self start course c.args.event.now step.parts stands.at next parts in
    let small : step.down < 2 ^ 64 = search (rules, arith) in
    omega (arith, total, stands.down_is, c.in_ok-step.ensures.down, ap (sum_by downs_in) c.as_slice.ensures, small)

pub returns-clause-text : goal.returns-clause-text
returns-clause-text c = λ start before at.
    let parts = c.as_slice.ensures ∙ c.in_ok-step.ensures.parts start (course_of start (events_in before)) at.at c.if-step.false in
    c.in_ok-append_parts.ensures ∙ ap (λ (text : List ℕ). c.args.held.now ++ text)
    (text_is c.args.self.now.pair start (course_of start (events_in before)) c.args.number c.args.self.now.up c.args.self.now.down c.args.event.now c.as_slice.result.now at.at at.up_is at.down_is parts)

pub returns-clause-next : goal.returns-clause-next
returns-clause-next c = λ start before at.
    one_more c.step.new.self c.in_ok-step.step.up c.in_ok-step.step.down start before c.args.event.now
    (c.in_ok-step.ensures.next start (course_of start (events_in before)) at.at c.if-step.false) c.in_ok-step.ensures.up c.in_ok-step.ensures.down
