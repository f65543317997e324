use Rattle.std.{proofs.Common.{◌≢◌, ◌≡◌, ℕ, subst, take, arith}, specs.List.{All}}
use Rattle.relay_machine.{specs.declared.number_key.{NumberKey.{NumberKey}, TheConstants.{NUMBER_KEYS}}, proofs.Numbers.{All-keys}}
use Rattle.amt_script.specs.Row.{number_word}
use Rattle.amt_script.proofs.kind.number_key_of_word.Goals as goal

pub returns-clause-none : goal.returns-clause-none
returns-clause-none c =
    let P : NumberKey → Type 0 = λ key. c.args.word.now ≢ number_word key in
    let whole : c.loop-key.key-index ≡ 8 = omega (arith, c.loop-key.auto.key-index-end, c.loop-key-test.false) in
    All-keys P (subst (λ (i : ℕ). All P (take i NUMBER_KEYS)) whole c.loop-key.invariant)
