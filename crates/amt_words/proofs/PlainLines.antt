-- The plain lines of each command are taken, and give what they say.
use Rattle.std.{proofs.Common.{◌≡◌, ◌∙◌, ℕ, List, [], ◌∷◌, Some, codes, refl, ap, arith}, specs.{Prelude.{option_map}, Str.Parse.{digits_value}}}
use Rattle.clap.{specs.{Words.{Row, Shape, Text, built, one_of}, Walk.{Walk, nothing_held}}, proofs.OnLiterals.{clap_on_literals}}
use Rattle.amt_words.specs.{declared.command.{Command.TheVariants.{Replay, Dump, Vectors, Load}, Replayable.{Replayable}}, Line.{IsCommandLine, IsNumberIn, TakesPlainLines, number_of}}
use Rattle.amt_words.{specs.Usage.{load_usage, replayable_name}, proofs.{Digits.{IsPlain, Passes, digits_number, digits_plain, number_passes}, PlainDns.{dns_line}, PlainGateway.{gateway_line}, PlainPcap.{pcap_line}, PlainRelay.{relay_line}, Steps.{Path, Steps, start, walked_by}, Walks.{end_kinds, number_row, rows_at_end, taken}}}
use Rattle.amt_words.specs.declared.command.Replayable.TheVariants as kinds

pub replay_line : (kind : Replayable) → IsCommandLine (Replay kind) (codes "replay" ∷ replayable_name kind ∷ [])
unfolding clap_on_literals
replay_line kinds.Relay = (refl, refl, refl)
replay_line kinds.Gateway = (refl, refl, refl)
replay_line kinds.Pair = (refl, refl, refl)
replay_line kinds.Dual = (refl, refl, refl)
replay_line kinds.Upstream = (refl, refl, refl)

pub dump_line : IsCommandLine Dump (codes "dump" ∷ [])
unfolding clap_on_literals
dump_line = (refl, refl, tt)

pub vectors_line : IsCommandLine Vectors (codes "vectors" ∷ [])
unfolding clap_on_literals
vectors_line = (refl, refl, tt)

-- the built command, before its first word, and after a seed and a count
abbrev top : Shape
top = (built load_usage).top

abbrev after_seed : Text → Walk
after_seed seed = record start {
  held = record nothing_held { pending = Some (codes "SEED", seed ∷ []) };
  position = 2;
}

abbrev after_both : Text → Text → Walk
after_both seed count = record start {
  held = record { rows = number_row (codes "SEED") seed ∷ []; pending = Some (codes "N", count ∷ []); skip = 0 };
  position = 3;
}

seed_step : (seed : Text) → IsPlain seed → Steps top start seed (after_seed seed)
unfolding clap_on_literals
seed_step seed h = (rw (h.0, h.1, h.0) refl, rw (h.0, h.1, h.0) refl)

count_step : (seed count : Text) → IsPlain count → Passes 0 4294967295 seed → Steps top (after_seed seed) count (after_both seed count)
unfolding clap_on_literals
count_step seed count h p = (rw (h.0, h.1, h.0) refl, rw (h.0, h.1, h.0, p) refl)

end_fault : (seed count : Text) → Passes 1 65536 count → end_kinds load_usage (after_both seed count) ≡ []
unfolding clap_on_literals
end_fault seed count p = rw p refl

load_line : (seed count : Text) → IsNumberIn 0 4294967295 seed → IsNumberIn 1 65536 count
    → IsCommandLine (Load (digits_value 10 seed) (digits_value 10 count)) (codes "load" ∷ seed ∷ count ∷ [])
load_line seed count s c =
    let words = seed ∷ count ∷ [] in
    let within = number_passes 0 4294967295 seed (omega arith) s in
    let steps : Path top start words (after_both seed count) =
    (after_seed seed, seed_step seed (digits_plain seed s.0), (after_both seed count, count_step seed count (digits_plain count c.0) within, refl)) in
    let walked = walked_by top start (after_both seed count) words steps in
    let rows = rows_at_end load_usage words (after_both seed count) refl refl walked.0 in (
      refl,
      taken load_usage words (after_both seed count) refl refl walked.0 walked.1 (end_fault seed count (number_passes 1 65536 count (omega arith) c)),
      (
        ap (λ (r : List Row). option_map number_of (one_of (codes "SEED") r)) rows ∙ ap (λ (n : ℕ). Some n) (digits_number seed s.0),
        ap (λ (r : List Row). option_map number_of (one_of (codes "N") r)) rows ∙ ap (λ (n : ℕ). Some n) (digits_number count c.0),
      ),
    )

pub plain_lines : TakesPlainLines
plain_lines = record { replay = replay_line; dump = dump_line; vectors = vectors_line; load = load_line; relay = relay_line; gateway = gateway_line; dns = dns_line; pcap = pcap_line }
