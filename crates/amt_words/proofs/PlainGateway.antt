-- The plain lines of `gateway` are taken, and give what they say.
use Rattle.std.{proofs.Common.{◌≡◌, ◌∙◌, ℕ, List, [], ◌∷◌, Option, Some, None, codes, refl, ap, arith}, specs.{Prelude.{IfSome, option_map}, Str.Parse.{digits_value}}}
use Rattle.clap.{specs.{Words.{Row, Shape, Text, built, first_of, one_of}, Walk.{Walk, finished}}, proofs.OnLiterals.{clap_on_literals}}
use Rattle.amt_words.{specs.{declared.command.Command.TheVariants.{Gateway}, Line.{IsCommandLine, IsNumberIn, IsPlainWord, number_of, option_words, turns_or_most}, Usage.{gateway_usage}}, proofs.{Digits.{IsPlain, Passes, digits_plain, number_passes, plain_word}, Steps.{Path, Steps, after_file, filled, file_row, given_turns, opened, start, walked_by}, Walks.{end_kinds, rows_at_end, taken}}}

abbrev top : Shape
top = (built gateway_usage).top

file_step : (file : Text) → IsPlain file → Steps top start file (after_file file)
unfolding clap_on_literals
file_step file h = (rw (h.0, h.1, h.0) refl, rw (h.0, h.1, h.0) refl)

turns_step : (file : Text) → Steps top (after_file file) (codes "--turns") (opened (codes "turns") (file_row file ∷ []))
unfolding clap_on_literals
turns_step file = (refl, refl)

turns_filled : (rows : List Row) (number : Text) → IsPlain number → Steps top (opened (codes "turns") rows) number (filled (codes "turns") rows number)
unfolding clap_on_literals
turns_filled rows number h = (rw (h.0, h.1, h.0) refl, rw (h.0, h.1, h.0) refl)

-- what is refused at the end of each of the two lines
end_bare : (file : Text) → end_kinds gateway_usage (after_file file) ≡ []
unfolding clap_on_literals
end_bare file = refl

end_turns : (file turns : Text) → Passes 1 1099511627776 turns → end_kinds gateway_usage (filled (codes "turns") (file_row file ∷ []) turns) ≡ []
unfolding clap_on_literals
end_turns file turns p = rw p refl

-- the line is taken, and what the walk ends with is what it gives
line_at : (file : Text) (turns : ℕ) (words : List Text) (w : Walk)
    → Path top start (file ∷ words) w → end_kinds gateway_usage w ≡ []
    → first_of (codes "FILE") (finished top.rules w.held) ≡ Some file
    → turns_or_most (option_map number_of (one_of (codes "turns") (finished top.rules w.held))) ≡ turns
    → IsCommandLine (Gateway file turns) (codes "gateway" ∷ file ∷ words)
line_at file turns words w steps ends file_is turns_are =
    let walked = walked_by top start w (file ∷ words) steps in
    let rows = rows_at_end gateway_usage (file ∷ words) w refl refl walked.0 in (
      refl,
      taken gateway_usage (file ∷ words) w refl refl walked.0 walked.1 ends,
      record {
        file_is = ap (first_of (codes "FILE")) rows ∙ file_is;
        turns_are = ap (λ (r : List Row). turns_or_most (option_map number_of (one_of (codes "turns") r))) rows ∙ turns_are;
      },
    )

pub gateway_line : (file : Text) → (turns : Option Text) → IsPlainWord file → IfSome turns (IsNumberIn 1 1099511627776)
    → IsCommandLine (Gateway file (turns_or_most (option_map (digits_value 10) turns))) (codes "gateway" ∷ file ∷ option_words (codes "--turns") turns)
gateway_line file None h t = line_at file _ [] (after_file file) (after_file file, file_step file (plain_word file h), refl) (end_bare file) refl refl
gateway_line file (Some turns) h t =
    let rows = file_row file ∷ [] in
    line_at file _ _ (filled (codes "turns") rows turns)
    (after_file file, file_step file (plain_word file h), (opened (codes "turns") rows, turns_step file, (filled (codes "turns") rows turns, turns_filled rows turns (digits_plain turns t.0), refl)))
    (end_turns file turns (number_passes 1 1099511627776 turns (omega arith) t)) refl (given_turns turns t)
