use Rattle.std.proofs.Common.{List, ℕ, sym, subst, ◌∙◌, rules}
use Rattle.amt_values.specs.Octets.{AreOctets}
use Rattle.inner_datagrams.proofs.Parts.{AreOctets-append}
use Rattle.group_records.{specs.Query.{IsGeneralQuery, query_with_sum, written_query}, proofs.WrittenQuery.{IsGeneralQuery-written_query}}
use Rattle.group_records.proofs.general.write_query.Goals as goal

pub returns-clause-written : goal.returns-clause-written
unfolding written_query
returns-clause-written c = search rules

pub returns-clause-read_back : goal.returns-clause-read_back
returns-clause-read_back c =
    let family = c.args.family in
    let pseudo_header = c.args.pseudo_header.now in
    let fields = c.args.fields.now in
    let blank = c.deref_mut.ensures.value ∙ c.in_ok-octets.ensures in
    let pseudo_small : AreOctets pseudo_header = search rules in
    let Octets : List ℕ → Type 0 = AreOctets in
    let Asked : List ℕ → Type 0 = IsGeneralQuery family pseudo_header fields in
    let small = AreOctets-append pseudo_header (query_with_sum 0 family fields) pseudo_small (subst Octets blank c.fill_sum.ensures.octets) in
    subst Asked (sym (returns-clause-written c))
    (IsGeneralQuery-written_query family pseudo_header fields c.requires.pseudo_header_even small c.requires.code c.requires.robustness)
