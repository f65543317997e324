-- The plain lines of `pcap` are taken, and give what they say.
use Rattle.std.{proofs.Common.{◌≡◌, [], ◌∷◌, Option, Some, None, codes, refl, ap}, specs.Prelude.{IfSome}}
use Rattle.clap.{specs.{Words.{Shape, Text, built, first_of}, Walk.{Walk, idle}}, proofs.OnLiterals.{clap_on_literals}}
use Rattle.amt_words.{specs.{declared.command.Command.TheVariants.{Pcap}, Line.{IsCommandLine, IsPlainWord, given_word}, Usage.{pcap_usage}}, proofs.{Digits.{IsPlain, plain_word}, Steps.{Steps, at, start, walked_by}, Walks.{end_kinds, rows_at_end, taken}}}

abbrev top : Shape
top = (built pcap_usage).top

abbrev after_relay : Text → Walk
after_relay relay = at [] (Some (codes "RELAY", relay ∷ [])) idle

relay_step : (relay : Text) → IsPlain relay → Steps top start relay (after_relay relay)
unfolding clap_on_literals
relay_step relay h = (rw (h.0, h.1, h.0) refl, rw (h.0, h.1, h.0) refl)

end_bare : (relay : Text) → end_kinds pcap_usage (after_relay relay) ≡ []
unfolding clap_on_literals
end_bare relay = refl

alone : IsCommandLine (Pcap None) (codes "pcap" ∷ [])
unfolding clap_on_literals
alone = (refl, refl, refl)

pub pcap_line : (relay : Option Text) → IfSome relay IsPlainWord → IsCommandLine (Pcap relay) (codes "pcap" ∷ given_word relay)
pcap_line None h = alone
pcap_line (Some relay) h =
    let words = relay ∷ [] in
    let end = after_relay relay in
    let walked = walked_by top start end words (end, relay_step relay (plain_word relay h), refl) in (
      refl,
      taken pcap_usage words end refl refl walked.0 walked.1 (end_bare relay),
      ap (first_of (codes "RELAY")) (rows_at_end pcap_usage words end refl refl walked.0),
    )
