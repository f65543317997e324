use Rattle.std.{proofs.Common.{◌≡◌, ◌<◌, ℕ, length, refl, subst, take, arith}, specs.List.{All}}
use Rattle.relay_machine.{specs.{declared.number_key.{NumberKey.{NumberKey}, TheConstants.{NUMBER_KEYS}}, Settings.{IsInKeyRange, number_at}}, proofs.Numbers.{All-keys, All-more}}
use Rattle.relay_machine.proofs.settings.Settings.are_in_range.Goals as goal

pub returns : goal.returns
returns c =
    let P : NumberKey → Type 0 = λ key. IsInKeyRange key (number_at c.args.self.now key) in
    let whole : c.loop-key.key-index ≡ 8 = omega (arith, c.loop-key.auto.key-index-end, c.loop-key-test.false) in
    (λ _. All-keys P (subst (λ (i : ℕ). All P (take i NUMBER_KEYS)) whole c.loop-key.invariant), λ _. refl)

pub loop-key-preserved : goal.loop-key-preserved
loop-key-preserved c =
    let P : NumberKey → Type 0 = λ key. IsInKeyRange key (number_at c.args.self.now key) in
    let within : c.loop-key.key-index < length NUMBER_KEYS = c.loop-key-test.true in
    All-more P NUMBER_KEYS c.loop-key.key-index _ c.loop-key.invariant within (rw c.number.ensures at c.allows.ensures.0 c.if-not-allows.false)
