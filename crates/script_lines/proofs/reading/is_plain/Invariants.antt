use Rattle.std.proofs.Common.{◌↔◌, IsTrue, take}
use Rattle.script_lines.specs.Lines.{IsPlain}
use Rattle.script_lines.proofs.reading.is_plain.Given as goal

abbrev pub invariant-loop-octet : goal.invariant-loop-octet
invariant-loop-octet l = IsTrue l.plain ↔ IsPlain (take l.octet-index l.line)
