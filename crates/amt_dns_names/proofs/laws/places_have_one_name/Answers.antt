use Rattle.amt_dns_names.proofs.OneName.{NameAt-unique}
use Rattle.amt_dns_names.proofs.laws.places_have_one_name.Goals as goal

pub returns : goal.returns
returns c = λ bytes at one other end last first second. NameAt-unique bytes at one other end last first second
