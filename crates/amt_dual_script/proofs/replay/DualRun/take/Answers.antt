use Rattle.std.proofs.Common.{◌<◌, ◌^◌, ◌++◌, List, ℕ, ap, ◌∙◌, rules, arith}
use Rattle.amt_dual.specs.{Schedule.{dual_course_of}, Setup.{machines_in}}
use Rattle.amt_dual_script.{specs.Texts.{events_in}, proofs.Steps.{downs_after, may_come, one_more, text_is, ups_after}}
use Rattle.amt_dual_script.proofs.replay.DualRun.take.Goals as goal

pub step-requires : goal.step-requires
step-requires c = may_come c.args.self.now.pair c.requires.start (events_in c.requires.before) c.args.event.now c.requires.stands.at c.requires.may

pub append_steps-requires-clause-up : goal.append_steps-requires-clause-up
append_steps-requires-clause-up c =
    let setup = machines_in c.requires.start in
    let course = dual_course_of c.requires.start (events_in c.requires.before) in
    let stands = c.requires.stands in
    let step = c.in_ok-step.step in
    let parts = c.in_ok-step.ensures.parts setup course stands.at c.if-step.false in
    let next = c.in_ok-step.ensures.next setup course stands.at c.if-step.false in
    let total = ups_after c.args.self.now.pair c.step.new.self setup course c.args.event.now step.parts stands.at next parts in
    let small : step.up < 2 ^ 64 = search (rules, arith) in
    omega (arith, total, stands.up_is, c.in_ok-step.ensures.up, small)

pub append_steps-requires-clause-down : goal.append_steps-requires-clause-down
append_steps-requires-clause-down c =
    let setup = machines_in c.requires.start in
    let course = dual_course_of c.requires.start (events_in c.requires.before) in
    let stands = c.requires.stands in
    let step = c.in_ok-step.step in
    let parts = c.in_ok-step.ensures.parts setup course stands.at c.if-step.false in
    let next = c.in_ok-step.ensures.next setup course stands.at c.if-step.false in
    let total = downs_after c.args.self.now.pair c.step.new.self setup course c.args.event.now step.parts stands.at next parts in
    let small : step.down < 2 ^ 64 = search (rules, arith) in
    omega (arith, total, stands.down_is, c.in_ok-step.ensures.down, small)

pub returns-clause-text : goal.returns-clause-text
returns-clause-text c = λ start before at.
    let course = dual_course_of start (events_in before) in
    let parts = c.in_ok-step.ensures.parts (machines_in start) course at.at c.if-step.false in
    c.in_ok-append_steps.ensures ∙ ap (λ (text : List ℕ). c.args.held.now ++ text)
    (text_is c.args.self.now.pair start course c.args.number c.args.self.now.up c.args.self.now.down c.args.event.now c.in_ok-step.step.parts at.at at.up_is at.down_is parts)

pub returns-clause-next : goal.returns-clause-next
returns-clause-next c = λ start before at.
    one_more c.step.new.self c.in_ok-step.step.up c.in_ok-step.step.down start before c.args.event.now
    (c.in_ok-step.ensures.next (machines_in start) (dual_course_of start (events_in before)) at.at c.if-step.false) c.in_ok-step.ensures.up c.in_ok-step.ensures.down
