use Rattle.std.proofs.Common.{◌≡◌, ◌++◌, codes, take, flat_map}
use Rattle.amt_values.specs.Text.{ip_text}
use Rattle.amt_script.proofs.row_text.append_sources.Given as goal

abbrev pub invariant-loop-source : goal.invariant-loop-source
invariant-loop-source l = l.text ≡ l.initial.text ++ flat_map (λ source. codes "," ++ ip_text source) (take l.source-index l.rest)
