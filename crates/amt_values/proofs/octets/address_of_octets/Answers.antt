use Rattle.std.{proofs.Common.{ℕ, ◌≡◌, ◌∙◌, sym, ap, length, rules}, specs.Int.{bytes_high_first}}
use Rattle.amt_values.{proofs.NetworkOrder.{bytes_high_first-big_from}, specs.Octets.{AreOctets}}
use Rattle.amt_values.proofs.octets.address_of_octets.Goals as goal

pub returns-clause-octets : goal.returns-clause-octets
returns-clause-octets c =
    let len : length c.args.octets.now ≡ 16 = search rules in
    let small : AreOctets c.args.octets.now = search rules in
    sym (ap (λ (x : ℕ). bytes_high_first 16 x) c.read_u128.ensures ∙ bytes_high_first-big_from 16 c.args.octets.now len small)
