-- What is wrong with the data, where no relay is in them.
use Rattle.std.proofs.{Common.{arith}, lemmas.Result.{err_from_is_err_and}}
use Rattle.amt_dns.specs.{Fault.{IsDataFault}}
use Rattle.amt_dns.proofs.relay.read_data.Goals as goal

pub returns-then-end-begin-lt2-clause-refused : goal.returns-then-end-begin-lt2-clause-refused
returns-then-end-begin-lt2-clause-refused c = λ _. IsDataFault.short (omega arith)

pub returns-in_default-address_at-clause-refused : goal.returns-in_default-address_at-clause-refused
returns-in_default-address_at-clause-refused c = λ _.
    IsDataFault.other_length (omega arith) (omega arith) c.in_default-address_at.ensures.none

pub returns-in_err-read-in-3-clause-refused : goal.returns-in_err-read-in-3-clause-refused
returns-in_err-read-in-3-clause-refused c =
    let left = err_from_is_err_and c.from_residual.result c.from_residual.ensures.1 in
    rw (left.1, left.2) (λ not.
    let why = c.in_err-read-in-3.ensures.refused not in
    rw why.0 (IsDataFault.no_name (omega arith) c.in-3.is why.1))

pub returns-then-read-end-clause-refused : goal.returns-then-read-end-clause-refused
returns-then-read-end-clause-refused c = λ _.
    IsDataFault.other_end c.in_ok-read-in-3.read.name c.in_ok-read-in-3.read.end (omega arith) c.in-3.is
    c.in_ok-read-in-3.ensures.named (omega arith)
