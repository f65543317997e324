-- The plain lines of `relay` are taken, and give what they say.
use Rattle.std.{proofs.Common.{◌≡◌, ◌∙◌, ℕ, List, [], ◌∷◌, ◌++◌, Option, Some, None, codes, refl, ap, arith}, specs.{Prelude.{IfSome, option_map}, Str.Parse.{digits_value}}}
use Rattle.clap.{specs.{Words.{Row, Shape, Text, built, first_of, one_of, without_minus}, Walk.{Walk, finished}}, proofs.OnLiterals.{clap_on_literals}}
use Rattle.amt_words.specs.{declared.command.Command.TheVariants.{Relay}, Line.{IsCommandLine, IsNumberIn, IsPlainWord, number_of, option_words, turns_or_most}, Usage.{relay_usage}}
use Rattle.amt_words.proofs.{Digits.{IsPlain, Passes, digits_number, digits_plain, number_passes, plain_word}, Steps.{Path, Steps, after_file, filled, file_row, given_turns, opened, start, turns_row, walked_by}, Walks.{end_kinds, rows_at_end, taken}}

abbrev top : Shape
top = (built relay_usage).top

file_step : (file : Text) → IsPlain file → Steps top start file (after_file file)
unfolding clap_on_literals
file_step file h = (rw (h.0, h.1, h.0) refl, rw (h.0, h.1, h.0) refl)

turns_step : (file : Text) → Steps top (after_file file) (codes "--turns") (opened (codes "turns") (file_row file ∷ []))
unfolding clap_on_literals
turns_step file = (refl, refl)

turns_filled : (rows : List Row) (number : Text) → IsPlain number → Steps top (opened (codes "turns") rows) number (filled (codes "turns") rows number)
unfolding clap_on_literals
turns_filled rows number h = (rw (h.0, h.1, h.0) refl, rw (h.0, h.1, h.0) refl)

workers_step : (file : Text) → Steps top (after_file file) (codes "--workers") (opened (codes "workers") (file_row file ∷ []))
unfolding clap_on_literals
workers_step file = (refl, refl)

both_step : (file number : Text) → Passes 1 1099511627776 number
    → Steps top (filled (codes "turns") (file_row file ∷ []) number) (codes "--workers") (opened (codes "workers") (file_row file ∷ turns_row number ∷ []))
unfolding clap_on_literals
both_step file number p = (refl, rw p refl)

workers_filled : (rows : List Row) (number : Text) → IsPlain number → Steps top (opened (codes "workers") rows) number (filled (codes "workers") rows number)
unfolding clap_on_literals
workers_filled rows number h = (rw (h.0, h.1, h.0) refl, rw (h.0, h.1, h.0) refl)

-- what is refused at the end of each of the four lines
end_bare : (file : Text) → end_kinds relay_usage (after_file file) ≡ []
unfolding clap_on_literals
end_bare file = refl

end_turns : (file turns : Text) → Passes 1 1099511627776 turns → end_kinds relay_usage (filled (codes "turns") (file_row file ∷ []) turns) ≡ []
unfolding clap_on_literals
end_turns file turns p = rw p refl

end_workers : (file workers : Text) → Passes 0 64 workers → end_kinds relay_usage (filled (codes "workers") (file_row file ∷ []) workers) ≡ []
unfolding clap_on_literals
end_workers file workers p = rw p refl

end_both : (file turns workers : Text) → Passes 0 64 workers
    → end_kinds relay_usage (filled (codes "workers") (file_row file ∷ turns_row turns ∷ []) workers) ≡ []
unfolding clap_on_literals
end_both file turns workers p = rw p refl

-- the line is taken, and what the walk ends with is what it gives
line_at : (file : Text) (turns : ℕ) (workers : Option ℕ) (words : List Text) (w : Walk)
    → Path top start (file ∷ words) w → end_kinds relay_usage w ≡ []
    → first_of (codes "FILE") (finished top.rules w.held) ≡ Some file
    → turns_or_most (option_map number_of (one_of (codes "turns") (finished top.rules w.held))) ≡ turns
    → option_map number_of (one_of (codes "workers") (finished top.rules w.held)) ≡ workers
    → IsCommandLine (Relay file turns workers) (codes "relay" ∷ file ∷ words)
line_at file turns workers words w steps ends file_is turns_are workers_are =
    let walked = walked_by top start w (file ∷ words) steps in
    let rows = rows_at_end relay_usage (file ∷ words) w refl refl walked.0 in (
      refl,
      taken relay_usage (file ∷ words) w refl refl walked.0 walked.1 ends,
      (
        record {
          file_is = ap (first_of (codes "FILE")) rows ∙ file_is;
          turns_are = ap (λ (r : List Row). turns_or_most (option_map number_of (one_of (codes "turns") r))) rows ∙ turns_are;
        },
        ap (λ (r : List Row). option_map number_of (one_of (codes "workers") r)) rows ∙ workers_are,
      ),
    )

given_workers : (workers : Text) → IsNumberIn 0 64 workers → ◌≡◌ {A = Option ℕ} (Some (number_of (without_minus workers))) (Some (digits_value 10 workers))
given_workers workers h = ap (λ (n : ℕ). Some n) (digits_number workers h.0)

pub relay_line : (file : Text) → (turns workers : Option Text) → IsPlainWord file
    → IfSome turns (IsNumberIn 1 1099511627776) → IfSome workers (IsNumberIn 0 64)
    → IsCommandLine (Relay file (turns_or_most (option_map (digits_value 10) turns)) (option_map (digits_value 10) workers))
    (codes "relay" ∷ file ∷ option_words (codes "--turns") turns ++ option_words (codes "--workers") workers)
relay_line file None None h t w =
    line_at file _ _ [] (after_file file) (after_file file, file_step file (plain_word file h), refl) (end_bare file) refl refl refl
relay_line file (Some turns) None h t w =
    let rows = file_row file ∷ [] in
    line_at file _ _ _ (filled (codes "turns") rows turns)
    (after_file file, file_step file (plain_word file h), (opened (codes "turns") rows, turns_step file, (filled (codes "turns") rows turns, turns_filled rows turns (digits_plain turns t.0), refl)))
    (end_turns file turns (number_passes 1 1099511627776 turns (omega arith) t)) refl (given_turns turns t) refl
relay_line file None (Some workers) h t w =
    let rows = file_row file ∷ [] in
    line_at file _ _ _ (filled (codes "workers") rows workers)
    (after_file file, file_step file (plain_word file h), (opened (codes "workers") rows, workers_step file, (filled (codes "workers") rows workers, workers_filled rows workers (digits_plain workers w.0), refl)))
    (end_workers file workers (number_passes 0 64 workers (omega arith) w)) refl refl (given_workers workers w)
relay_line file (Some turns) (Some workers) h t w =
    let rows = file_row file ∷ [] in
    let both = file_row file ∷ turns_row turns ∷ [] in
    line_at file _ _ _ (filled (codes "workers") both workers) (
      after_file file,
      file_step file (plain_word file h),
      (
        opened (codes "turns") rows,
        turns_step file,
        (
          filled (codes "turns") rows turns,
          turns_filled rows turns (digits_plain turns t.0),
          (opened (codes "workers") both, both_step file turns (number_passes 1 1099511627776 turns (omega arith) t), (filled (codes "workers") both workers, workers_filled both workers (digits_plain workers w.0), refl)),
        ),
      ),
    )
    (end_both file turns workers (number_passes 0 64 workers (omega arith) w)) refl (given_turns turns t) (given_workers workers w)
