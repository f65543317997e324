use Rattle.std.proofs.{Common.{rules, ℕ, List, sym, subst}, lemmas.Result.{IfOk-weaker}}
use Rattle.inner_datagrams.{specs.{Inner.{IsInner6}, Written.{written_inner6}}, proofs.ReadBack.{IsInner6-written_inner6}}
use Rattle.inner_datagrams.proofs.ipv6.write_inner6.Goals as goal

pub returns-clause-written : goal.returns-clause-written
unfolding written_inner6
returns-clause-written c = search rules

pub returns-clause-read_back : goal.returns-clause-read_back
returns-clause-read_back c =
    let P : List ℕ → Type 0 = IsInner6 c.args.source c.args.destination c.args.payload.now in
    let read = IsInner6-written_inner6 c.args.source c.args.destination c.args.payload.now c.ranges.source.fits c.ranges.destination.fits c.requires in
    IfOk-weaker _ _ P (λ bytes same. subst P (sym same) read) (returns-clause-written c)
