use Rattle.std.proofs.Common.{◌≡◌, ℕ, ◌-◌, ◌+◌, ◌*◌, ◌%◌, ◌^◌, slice_index, sum, ap, arith, rules}
use Rattle.std.proofs.lemmas.Grind.{common_steps}
use Rattle.amt_values.specs.Octets.{AreOctets}
use Rattle.inner_datagrams.{specs.Checksum.{words}, proofs.{OnesComplement.{AreWords-words, same_word, StandsFor-zero_alone, StandsFor-ones_sum}, Pairs.{sum_of_pairs}}}
use Rattle.inner_datagrams.proofs.checksum.internet_sum.Goals as goal

pub returns : goal.returns
returns c =
    let bytes = c.args.bytes.now in
    let odd = c.as_chunks.result.1.now in
    let total = sum (words bytes) in
    let pairs_and_odd = sum_of_pairs bytes _ odd _ _ c.as_chunks.ensures.front c.as_chunks.ensures.back c.loop-pair-test.false c.loop-pair.invariant.total in
    let last : c.unwrap_or-last.result ≡ slice_index odd 0 = grind (arith, common_steps) in
    let whole : c.loop-pair.sum + c.from.result * 256 % 2 ^ 64 ≡ total = omega arith in
    let same = rw whole at c.carried_around.ensures.same_remainder in
    let zeros = rw whole at c.carried_around.ensures.zero in
    let left = StandsFor-zero_alone total c.carried_around.result c.carried_around.type_inv same zeros in
    let small : AreOctets bytes = search rules in
    ap (λ (word : ℕ). 65535 - word) (same_word total _ _ left (StandsFor-ones_sum (words bytes) (AreWords-words bytes small)))
