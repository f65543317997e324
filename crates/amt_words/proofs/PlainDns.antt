-- The plain line of `dns` is taken, and gives what it says.
use Rattle.std.proofs.Common.{◌≡◌, [], ◌∷◌, Some, codes, refl, ap}
use Rattle.clap.{specs.{Words.{Shape, Text, built, first_of}, Walk.{Walk, idle}}, proofs.OnLiterals.{clap_on_literals}}
use Rattle.amt_words.{specs.{declared.command.Command.TheVariants.{Dns}, Line.{IsCommandLine, IsPlainWord}, Usage.{dns_usage}}, proofs.{Digits.{IsPlain, plain_word}, Steps.{Steps, at, start, walked_by}, Walks.{end_kinds, rows_at_end, taken}}}

abbrev top : Shape
top = (built dns_usage).top

abbrev after_source : Text → Walk
after_source source = at [] (Some (codes "SOURCE", source ∷ [])) idle

source_step : (source : Text) → IsPlain source → Steps top start source (after_source source)
unfolding clap_on_literals
source_step source h = (rw (h.0, h.1, h.0) refl, rw (h.0, h.1, h.0) refl)

end_bare : (source : Text) → end_kinds dns_usage (after_source source) ≡ []
unfolding clap_on_literals
end_bare source = refl

pub dns_line : (source : Text) → IsPlainWord source → IsCommandLine (Dns source) (codes "dns" ∷ source ∷ [])
dns_line source h =
    let words = source ∷ [] in
    let end = after_source source in
    let walked = walked_by top start end words (end, source_step source (plain_word source h), refl) in (
      refl,
      taken dns_usage words end refl refl walked.0 walked.1 (end_bare source),
      ap (first_of (codes "SOURCE")) (rows_at_end dns_usage words end refl refl walked.0),
    )
