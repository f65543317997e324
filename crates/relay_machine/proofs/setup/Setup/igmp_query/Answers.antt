use Rattle.std.proofs.{Common.{◌≡◌, ℕ, List, length, ap, ◌∙◌, arith}, lemmas.Result.{IfOk-weaker}}
use Rattle.inner_datagrams.specs.Written.{written_inner4}
use Rattle.igmp_records.specs.Query.{written_query4}
use Rattle.source_filter.specs.declared.query.QueryFields.{QueryFields}
use Rattle.relay_machine.{specs.Queries.{all_systems, general_query}, proofs.QuerySizes.{length-written_query4}}
use Rattle.relay_machine.proofs.setup.Setup.igmp_query.Goals as goal

pub write_inner4-requires : goal.write_inner4-requires
write_inner4-requires c =
    let size : length c.as_slice.result.now ≡ 12 = ap length (c.as_slice.ensures ∙ c.in_ok-query.ensures.written) ∙ length-written_query4 _ in omega arith

pub returns : goal.returns
unfolding general_query
returns c =
    let setup = c.args.self.now in
    let carried : c.as_slice.result.now ≡ written_query4 setup.igmp = c.as_slice.ensures ∙ c.in_ok-query.ensures.written in
    let datagram : List ℕ → List ℕ = λ query. written_inner4 setup.settings.query4 all_systems query in
    IfOk-weaker c.write_inner4.result _ _
    (λ inner written. written ∙ (ap datagram carried ∙ ap (λ (fields : QueryFields). datagram (written_query4 fields)) setup.igmp_of_settings)) c.write_inner4.ensures.written
