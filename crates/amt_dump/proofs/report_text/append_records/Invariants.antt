use Rattle.std.proofs.Common.{◌≡◌, ◌++◌, take, flat_map}
use Rattle.amt_dump.specs.Texts.{line_of, record_words}
use Rattle.amt_dump.proofs.report_text.append_records.Given as goal

abbrev pub invariant-loop-one : goal.invariant-loop-one
invariant-loop-one l = l.text ≡ l.initial.text ++ flat_map (λ one. line_of l.number (record_words one)) (take l.one-index l.one-items)
