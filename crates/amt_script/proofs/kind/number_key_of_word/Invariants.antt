use Rattle.std.{proofs.Common.{◌≢◌, take}, specs.List.{All}}
use Rattle.amt_script.specs.Row.{number_word}
use Rattle.amt_script.proofs.kind.number_key_of_word.Given as goal

abbrev pub invariant-loop-key : goal.invariant-loop-key
invariant-loop-key l = All (λ key. l.word ≢ number_word key) (take l.key-index l.key-items)
