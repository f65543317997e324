use Rattle.amt_dns.proofs.Unique.{IsAnswer-unique, IsFirstFault-unique, no_fault_of_answer}
use Rattle.amt_dns.proofs.laws.answers_have_one_meaning.Goals as goal

pub returns-clause-one : goal.returns-clause-one
returns-clause-one c = λ id name first second bytes h k. IsAnswer-unique id name first second bytes h k

pub returns-clause-one_fault : goal.returns-clause-one_fault
returns-clause-one_fault c = λ id name bytes first second h k. IsFirstFault-unique id name bytes first second h k

pub returns-clause-faultless : goal.returns-clause-faultless
returns-clause-faultless c = λ id name found bytes fault h k. no_fault_of_answer id name found bytes fault h k
