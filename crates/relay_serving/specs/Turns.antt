-- What the devices of a serving relay answer, turn by turn.
use Rattle.std.specs.Prelude.{◌≡◌, ◌≢◌, ℕ, ◌+◌, max, nat_le, Bool, true, false, List, [], ◌∷◌, length, Option, None, Some, if◌then◌else◌}
use Rattle.amt_ports.specs.{declared.{feed.FeedAnswer.{FeedAnswer, TheVariants.{Nothing as NothingFed, Closed as FeedClosed}}, link.LinkAnswer.{LinkAnswer, TheVariants.{Nothing as NothingCame, Closed as LinkClosed}}}, Answers.{IsDatagram, IsPacket, Taken, taken}, Bursts.{AnswerKinds, IsBurst}}

-- how far a turn's publishing went; it is done too where nothing was owed
pub data Publishing : Type 0 where
  Ahead : Publishing
  Refused : Publishing
  Done : Publishing

abbrev pub is_refused : Publishing → Bool
is_refused Ahead = false
is_refused Refused = true
is_refused Done = false

-- The answers of one turn, in order: the clock's, the words of a new secret, the link's, and, after the
-- publishing, the feed's.
pub record Turn : Type 0 where
  pub clock : Taken ℕ
  pub drawn : List ℕ
  pub heard : List (Taken LinkAnswer)
  pub publishing : Publishing
  pub fed : List (Taken FeedAnswer)

-- where the turns so far led: to this latest moment; the current secret counts as drawn at this one, which
-- is the first turn's for the first secret
pub record Progress : Type 0 where
  pub latest : ℕ
  pub renewed : Option ℕ

abbrev pub no_progress : Progress
no_progress = record { latest = 0; renewed = None }

-- the turn's moment: the latest that the clock has given so far, also where memory refused its event
abbrev pub moment_of_turn : ℕ → Turn → ℕ
moment_of_turn latest turn = max latest turn.clock.answer

-- whether so many milliseconds have passed since the current secret was drawn
abbrev pub is_due : ℕ → Option ℕ → ℕ → Bool
is_due rotate None now = false
is_due rotate (Some renewed) now = nat_le (renewed + rotate) now

abbrev pub renewed_after : ℕ → Option ℕ → ℕ → ℕ
renewed_after rotate None now = now
renewed_after rotate (Some renewed) now = if is_due rotate (Some renewed) now then now else renewed

abbrev pub after_turn : ℕ → Progress → Turn → Progress
after_turn rotate progress turn =
    let now = moment_of_turn progress.latest turn in
    record { latest = now; renewed = Some (renewed_after rotate progress.renewed now) }

-- a secret is four words
abbrev pub words_due : Bool → ℕ
words_due false = 0
words_due true = 4

-- The run goes on where something came, whether memory took its event or refused it: no answer ends it out of memory.
abbrev pub while_open : {X : Type 0} → (X → Type 0) → X → X → AnswerKinds (Taken X)
while_open Came nothing closed = record {
  Came = λ one. Came one.answer;
  nothing = taken nothing;
  closed = taken closed;
}

-- the answers of the link, and those of the feed
abbrev pub from_link : AnswerKinds (Taken LinkAnswer)
from_link = while_open IsDatagram NothingCame LinkClosed

abbrev pub from_feed : AnswerKinds (Taken FeedAnswer)
from_feed = while_open IsPacket NothingFed FeedClosed

-- as many words were drawn as were due
pub record HasBegun (rotate : ℕ) (progress : Progress) (turn : Turn) : Type 0 where
  pub secret : length turn.drawn ≡ words_due (is_due rotate progress.renewed (moment_of_turn progress.latest turn))

-- the link was asked, and the publishing was done or refused
pub record HasHeard (rotate : ℕ) (progress : Progress) (turn : Turn) : Type 0 where
  pub begun : HasBegun rotate progress turn
  pub link : IsBurst from_link turn.heard
  pub tried : turn.publishing ≢ Ahead

-- the turn is whole
pub record IsWhole (rotate : ℕ) (progress : Progress) (turn : Turn) : Type 0 where
  pub heard : HasHeard rotate progress turn
  pub feed : IsBurst from_feed turn.fed

-- whole turns, one after the other, which lead so far
abbrev pub AreWhole : ℕ → Progress → List Turn → Progress → Type 0
AreWhole rotate progress [] last = last ≡ progress
AreWhole rotate progress (turn ∷ later) last = IsWhole rotate progress turn × AreWhole rotate (after_turn rotate progress turn) later last
