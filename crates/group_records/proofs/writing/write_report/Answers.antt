use Rattle.std.proofs.{Common.{List, ℕ, length, ap, sym, subst, ◌∙◌, arith, rules}, lemmas.Grind.{common_steps}}
use Rattle.amt_values.specs.Octets.{AreOctets}
use Rattle.inner_datagrams.proofs.Parts.{AreOctets-append}
use Rattle.group_records.{specs.{Report.{IsReport}, Written.{report_with_sum, written_report}}, proofs.WrittenReport.{IsReport-written_report, length-report_with_sum, length-written_report}}
use Rattle.group_records.proofs.writing.write_report.Goals as goal

pub fill_sum-requires-clause-most : goal.fill_sum-requires-clause-most
fill_sum-requires-clause-most c =
    let blank = c.deref_mut.ensures.value ∙ c.in_ok-octets.ensures.written in
    let octets = length-report_with_sum c.args.family 0 c.args.records.now c.requires.family in
    omega (arith, ap (λ (xs : List ℕ). length xs) blank, octets, c.requires.most)

pub returns-clause-written : goal.returns-clause-written
unfolding written_report
returns-clause-written c = grind (arith, common_steps)

pub returns-clause-length : goal.returns-clause-length
returns-clause-length c =
    ap (λ (xs : List ℕ). length xs) (returns-clause-written c)
    ∙ length-written_report c.args.family c.args.pseudo_header.now c.args.records.now c.requires.family

pub returns-clause-read_back : goal.returns-clause-read_back
returns-clause-read_back c =
    let family = c.args.family in
    let pseudo_header = c.args.pseudo_header.now in
    let records = c.args.records.now in
    let blank = c.deref_mut.ensures.value ∙ c.in_ok-octets.ensures.written in
    let pseudo_small : AreOctets pseudo_header = search rules in
    let Octets : List ℕ → Type 0 = AreOctets in
    let Reported : List ℕ → Type 0 = IsReport family pseudo_header records in
    let small = AreOctets-append pseudo_header (report_with_sum 0 family records) pseudo_small (subst Octets blank c.fill_sum.ensures.octets) in
    subst Reported (sym (returns-clause-written c))
    (IsReport-written_report family pseudo_header records c.requires.pseudo_header_even small c.requires.family c.in_ok-octets.ensures.fit c.requires.most)
