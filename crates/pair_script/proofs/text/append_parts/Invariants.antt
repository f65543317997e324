use Rattle.std.{proofs.Common.{◌≡◌, ◌+◌, ◌++◌, take}, specs.List.{sum_by}}
use Rattle.pair_script.specs.Texts.{downs_in, parts_text, ups_in}
use Rattle.pair_script.proofs.text.append_parts.Given as goal

abbrev pub invariant-loop-part : goal.invariant-loop-part
invariant-loop-part l = record {
  text : l.text ≡ l.initial.text ++ parts_text l.number l.up l.down (take l.part-index l.parts);
  up : l.sent_up ≡ l.up + sum_by ups_in (take l.part-index l.parts);
  down : l.sent_down ≡ l.down + sum_by downs_in (take l.part-index l.parts);
}
