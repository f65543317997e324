use Rattle.std.proofs.{Common.{[], ◌∷◌, ◌++◌, refl}, lemmas.Result.{on_ok_weaker}}
use Rattle.endpoint_membership.{specs.{Table.{Holds}}, proofs.HoldsAfter.{IsWithin-log}}
use Rattle.program_tests.proofs.upstream.take.Goals as goal

pub take-requires : goal.take-requires
take-requires g c =
    let one = c.requires.one_log in
    let stands = c.if-not-accepts.ensures.stands refl one.settings one.log one.table_holds in
    record { settings = one.settings; log = one.log; holds = one.upstream_holds; within = IsWithin-log one.settings c.accepts.new.table (one.log ++ c.args.change.now ∷ []) stands c.accepts.ensures.within }

pub returns : goal.returns
returns g c =
    let one = c.requires.one_log in
    let log = one.log ++ c.args.change.now ∷ [] in
    let stands = c.if-not-accepts.ensures.stands refl one.settings one.log one.table_holds in
    on_ok_weaker c.take.result (λ (holds : Holds one.settings c.take.new.self log). record { settings = one.settings; log = log; table_holds = stands; upstream_holds = holds; within = c.accepts.ensures.within }) (c.take.ensures.stands one.settings one.log one.upstream_holds)
