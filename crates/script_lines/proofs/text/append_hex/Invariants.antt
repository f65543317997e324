use Rattle.std.proofs.Common.{◌≡◌, ◌++◌, length}
use Rattle.hex.specs.Hex.{encode_lower}
use Rattle.script_lines.specs.Texts.{BeginsWith}
use Rattle.script_lines.proofs.text.append_hex.Given as goal

-- the digits of what is left follow those that were put there
abbrev pub invariant-loop-rest : goal.invariant-loop-rest
invariant-loop-rest l = record {
  digits : l.text ++ encode_lower l.rest ≡ l.initial.text ++ encode_lower l.octets;
  begun : BeginsWith l.text l.initial.text;
}

abbrev pub decreases-loop-rest : goal.decreases-loop-rest
decreases-loop-rest l = length l.rest
