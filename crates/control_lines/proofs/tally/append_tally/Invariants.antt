use Rattle.std.proofs.Common.{◌≡◌, ◌++◌, Bor, List, ℕ, length, map, drop}
use Rattle.script_lines.specs.Texts.{BeginsWith}
use Rattle.control_lines.specs.Tally.{tally_text}
use Rattle.control_lines.proofs.tally.append_tally.Given as goal

-- the lines of the words that are left follow those that were put there
abbrev pub invariant-loop-word : goal.invariant-loop-word
invariant-loop-word l = record {
  lines : l.text ++ tally_text (drop (length l.yielded) (map (λ (word : Bor (List ℕ)). word.now) l.words)) (drop (length l.yielded) l.tally)
      ≡ l.initial.text ++ tally_text (map (λ (word : Bor (List ℕ)). word.now) l.words) l.tally;
  begun : BeginsWith l.text l.initial.text;
}
