use Rattle.std.proofs.Common.{◌≡◌, ◌++◌, take, flat_map}
use Rattle.upstream_script.specs.Texts.{change_line}
use Rattle.upstream_script.proofs.text.append_changes.Given as goal

abbrev pub invariant-loop-one : goal.invariant-loop-one
invariant-loop-one l = l.text ≡ l.initial.text ++ flat_map change_line (take l.one-index l.one-items)
