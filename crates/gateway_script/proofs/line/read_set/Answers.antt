use Rattle.std.proofs.Common.{◌≢◌, ◌≤◌, [], length, inl, inr, refl, rules}
use Rattle.script_lines.specs.Lines.{fields}
use Rattle.gateway_script.{specs.Settling.{family_given}, proofs.Events.{none_there, set_failed}}
use Rattle.gateway_script.proofs.line.read_set.Goals as goal

pub returns-then-lacks_family-clause-reason : goal.returns-then-lacks_family-clause-reason
returns-then-lacks_family-clause-reason c = inl ((c.lacks_family.ensures (family_given c.args.given.now)).0 c.if-lacks_family.true, refl)

pub returns-then-not-is_empty-clause-reason : goal.returns-then-not-is_empty-clause-reason
returns-then-not-is_empty-clause-reason c =
    let late : c.args.events.now ≢ [] = search rules in
    inr (λ fails. let told = (c.lacks_family.ensures (family_given c.args.given.now)).1 fails in let not_told = c.if-lacks_family.false in cc (told, not_told), inl (late, refl))

pub returns-then-is_given-clause-reason : goal.returns-then-is_given-clause-reason
returns-then-is_given-clause-reason c =
    let none : length c.args.events.now ≤ 0 = search rules in
    let early = none_there c.args.events.now none in
    inr (λ fails. let told = (c.lacks_family.ensures (family_given c.args.given.now)).1 fails in let not_told = c.if-lacks_family.false in cc (told, not_told), inr (λ late. late early, inl (c.is_given.ensures.0 c.if-is_given.true, refl)))

pub returns-in_default-clause-reason : goal.returns-in_default-clause-reason
returns-in_default-clause-reason c =
    let none : length c.args.events.now ≤ 0 = search rules in
    let early = none_there c.args.events.now none in
    inr (λ fails. let told = (c.lacks_family.ensures (family_given c.args.given.now)).1 fails in let not_told = c.if-lacks_family.false in cc (told, not_told), inr (λ late. late early, inr (λ some. let told = c.is_given.ensures.1 some in let not_told = c.if-is_given.false in cc (told, not_told), inl (c.in_default.ensures.none, refl))))

pub returns-in-Err-clause-reason : goal.returns-in-Err-clause-reason
returns-in-Err-clause-reason c =
    let none : length c.args.events.now ≤ 0 = search rules in
    let early = none_there c.args.events.now none in
    set_failed c.args.given.now c.args.events.now c.args.key (fields c.args.values.now) c.in-Some.text.now c.in-Err.reason c.in-Some.ensures.found (λ fails. let told = (c.lacks_family.ensures (family_given c.args.given.now)).1 fails in let not_told = c.if-lacks_family.false in cc (told, not_told))
    early (λ some. let told = c.is_given.ensures.1 some in let not_told = c.if-is_given.false in cc (told, not_told)) (c.in-Err.ensures.reason (family_given c.args.given.now))
