use Rattle.std.proofs.{Common.{◌≡◌, ℕ, List, length, ap, ◌∙◌, arith}, lemmas.Result.{IfOk-weaker}}
use Rattle.inner_datagrams.specs.Written.{written_inner6}
use Rattle.mld_records.specs.Query.{written_query6}
use Rattle.source_filter.specs.declared.query.QueryFields.{QueryFields}
use Rattle.relay_machine.specs.Queries.{all_nodes, general_query}
use Rattle.relay_machine.proofs.setup.Setup.mld_query.Goals as goal

pub write_inner6-requires : goal.write_inner6-requires
write_inner6-requires c =
    let size : length c.as_slice.result.now ≡ 28 = ap length c.as_slice.ensures ∙ c.in_ok-query.ensures.length in omega arith

pub returns : goal.returns
unfolding general_query
returns c =
    let setup = c.args.self.now in
    let source = setup.settings.query6 in
    let carried : c.as_slice.result.now ≡ written_query6 source all_nodes setup.mld = c.as_slice.ensures ∙ c.in_ok-query.ensures.written in
    let datagram : List ℕ → List ℕ = λ query. written_inner6 source all_nodes query in
    IfOk-weaker c.write_inner6.result _ _
    (λ inner written. written ∙ (ap datagram carried ∙ ap (λ (fields : QueryFields). datagram (written_query6 source all_nodes fields)) setup.mld_of_settings)) c.write_inner6.ensures.written
