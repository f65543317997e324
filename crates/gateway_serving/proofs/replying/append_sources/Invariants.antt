use Rattle.std.proofs.Common.{◌≡◌, ◌++◌, take}
use Rattle.gateway_serving.specs.Replies.{sources_text}
use Rattle.gateway_serving.proofs.replying.append_sources.Given as goal

abbrev pub invariant-loop-source : goal.invariant-loop-source
invariant-loop-source l = l.text ≡ l.initial.text ++ sources_text (take l.source-index l.sources)
