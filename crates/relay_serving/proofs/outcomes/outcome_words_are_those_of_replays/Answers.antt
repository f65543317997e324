use Rattle.std.proofs.Common.{true, false, codes, decimal, inl, inr, refl}
use Rattle.amt_script.specs.Texts.{limit_text, not_forwarded_text, outcome_text, unlawful_text}
use Rattle.control_lines.specs.Tally.{BeginsWithWord}
use Rattle.relay_machine.specs.declared.outcome.Outcome.{Outcome, TheVariants.{Moved, Rotated, Resized, BadSource, Undecoded, WrongKind, Advertised, Queried, BadMac, Unlawful, Over, Updated, TornDown, NoTunnel, Copied, TooBig, NotForwarded}}
use Rattle.script_lines.specs.FaultTexts.{refusal_text}
use Rattle.relay_serving.specs.OutcomeWords.{word_of}
use Rattle.relay_serving.proofs.outcomes.outcome_words_are_those_of_replays.Goals as goal

begins : (outcome : Outcome) → BeginsWithWord (outcome_text outcome) (word_of outcome)
begins (Moved moment) = inr (decimal moment, refl)
begins Rotated = inl refl
begins Resized = inl refl
begins BadSource = inl refl
begins (Undecoded refusal) = inr (refusal_text refusal, refl)
begins (WrongKind kind) = inr (decimal kind, refl)
begins Advertised = inl refl
begins (Queried false false) = inr (codes "v4", refl)
begins (Queried false true) = inr (codes "v4 limited", refl)
begins (Queried true false) = inr (codes "v6", refl)
begins (Queried true true) = inr (codes "v6 limited", refl)
begins BadMac = inl refl
begins (Unlawful fault) = inr (unlawful_text fault, refl)
begins (Over fault) = inr (limit_text fault, refl)
begins Updated = inl refl
begins TornDown = inl refl
begins NoTunnel = inl refl
begins (Copied number) = inr (decimal number, refl)
begins (TooBig octets) = inr (decimal octets, refl)
begins (NotForwarded cause) = inr (not_forwarded_text cause, refl)

pub returns : goal.returns
returns c = begins
