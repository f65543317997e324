use Rattle.std.{proofs.Common.{◌≡◌, map, take}, specs.Str.{str_to_ascii_lowercase}}
use Rattle.amt_dns.proofs.question.are_alike.Given as goal

abbrev pub invariant-loop-place : goal.invariant-loop-place
invariant-loop-place l = map str_to_ascii_lowercase (take l.place l.labels) ≡ map str_to_ascii_lowercase (take l.place l.name)
