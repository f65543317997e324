-- What the first stage of a turn does.
use Rattle.std.specs.Prelude.{◌≡◌, ℕ, ◌<◌, Bool, true, max, List, length, Option, Some, Result, Ok, Err}
use Rattle.amt_ports.specs.{Answers.{Taken}, Devices.{WordsSeen}, EndCauses.{IsCausedBy}, declared.{out_link.OutLink.{Ghosts}, end.End.{End, TheVariants.{WordsFault}}}}
use Rattle.relay_serving.specs.{Traces.{Does, ServerDoes, World, beginning, passing}, Turns.{Progress, is_due, renewed_after, words_due}, declared.{renewal.Renewal.{Renewal}, server.Server.{Server}}}

-- where the turns so far led
abbrev pub progress_in : Renewal → Progress
progress_in renewal = record { latest = renewal.latest; renewed = renewal.renewed }

-- the secret was drawn, if one was due; or words were lacking
abbrev pub IsBegunBy : Result (Unit {0}) End → Bool → List ℕ → Type 0
IsBegunBy (Ok unit) due drawn = length drawn ≡ words_due due
IsBegunBy (Err end) due drawn = (end ≡ WordsFault) × (due ≡ true) × (length drawn < 4)

module _ {O : Type 0} {g : Ghosts O} {T : Type 0} where
  -- it became this late, or memory refused that event, which is counted
  abbrev pub PassesMoment : ℕ → Server O T g → Server O T g → Type 0
  PassesMoment now before after = (starved : Bool) × ServerDoes (passing starved now) before after

  pub record BeginsSo (rotate : ℕ) (progress progress' : Progress) (before after : World O g T) (result : Result (Unit {0}) End) : Type 0 where
    pub clock : Taken ℕ
    pub drawn : List ℕ
    pub does : Does (beginning progress.latest clock drawn) before after
    pub cause : IsCausedBy result WordsFault before.devices.words.faults after.devices.words.faults
    pub is_begun : IsBegunBy result (is_due rotate progress.renewed (max progress.latest clock.answer)) drawn
    pub progress_is : progress' ≡ record { latest = max progress.latest clock.answer; renewed = Some (renewed_after rotate progress.renewed (max progress.latest clock.answer)) }

  abbrev pub at_words : World O g T → Server O T g → Option (List ℕ) → WordsSeen → World O g T
  at_words around server clock words = record around { server = server; devices = record around.devices { clock = clock; words = words } }

  -- whatever the other devices are
  abbrev pub BeginsBy : ℕ → Progress → Progress → Server O T g → Server O T g → Option (List ℕ) → Option (List ℕ) → WordsSeen → WordsSeen → Result (Unit {0}) End → Type 0
  BeginsBy rotate progress progress' before after clock clock' words words' result =
      (around : World O g T) → BeginsSo rotate progress progress' (at_words around before clock words) (at_words around after clock' words') result
