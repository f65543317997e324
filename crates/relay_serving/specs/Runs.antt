-- How a run of a serving relay may go.
use Rattle.std.specs.{Prelude.{◌≡◌, ◌⊎◌, ℕ, ◌<◌, ◌≤◌, true, false, List, [], ◌∷◌, ◌++◌, length, map, Option, None, Some}, List.{flat_map, list_any}}
use Rattle.amt_ports.specs.{declared.{feed.FeedAnswer.{FeedAnswer}, link.LinkAnswer.{LinkAnswer}, end.End.{End, TheVariants.{Turns, Closed, LinkFault, FeedFault, WordsFault, SpawnFault, Memory}}}, Bursts.{IsBegun, IsClosed}}
use Rattle.relay_serving.specs.{Asked.{Round, is_stopped}, declared.plan.ServePlan.{ServePlan}, Turns.{AreWhole, HasBegun, HasHeard, Progress, Publishing, Ahead, Turn, from_feed, from_link, is_due, moment_of_turn, no_progress}}

-- the feed was not asked, and so far went the publishing
abbrev pub IsUnfed : Publishing → Turn → Type 0
IsUnfed publishing turn = (turn.publishing ≡ publishing) × (turn.fed ≡ [])

-- neither was the link
abbrev pub IsUnheard : Turn → Type 0
IsUnheard turn = (turn.heard ≡ []) × IsUnfed Ahead turn

-- a word that was due couldn't be drawn
pub record LacksWords (rotate : ℕ) (progress : Progress) (turn : Turn) : Type 0 where
  pub due : is_due rotate progress.renewed (moment_of_turn progress.latest turn) ≡ true
  pub few : length turn.drawn < 4
  pub unheard : IsUnheard turn

-- the link or the feed answered that it is closed
pub data FindsClosed (rotate : ℕ) (progress : Progress) (turn : Turn) : Type 0 where
  of_link : HasBegun rotate progress turn → IsClosed from_link turn.heard → IsUnfed Ahead turn → FindsClosed rotate progress turn
  of_feed : HasHeard rotate progress turn → IsClosed from_feed turn.fed → FindsClosed rotate progress turn

-- the run ended in this turn, which isn't whole: never out of memory
abbrev pub IsCut : End → ℕ → Progress → Turn → Type 0
IsCut Turns rotate progress turn = ⊥
IsCut SpawnFault rotate progress turn = ⊥
IsCut Closed rotate progress turn = FindsClosed rotate progress turn
IsCut WordsFault rotate progress turn = LacksWords rotate progress turn
IsCut LinkFault rotate progress turn = HasBegun rotate progress turn × IsBegun from_link turn.heard × IsUnfed Ahead turn
IsCut FeedFault rotate progress turn = HasHeard rotate progress turn × IsBegun from_feed turn.fed
IsCut Memory rotate progress turn = ⊥

-- the words of the first secret, the whole turns, the one in which the run ended, if it is not whole, and the lines that
-- came after the whole turns, where there is a control
pub record Run : Type 0 where
  pub first : List ℕ
  pub whole : List Turn
  pub cut : Option Turn
  pub rounds : List Round

abbrev pub with_cut : List Turn → Option Turn → List Turn
with_cut whole None = whole
with_cut whole (Some turn) = whole ++ turn ∷ []

abbrev pub turns_of : Run → List Turn
turns_of run = with_cut run.whole run.cut

-- nobody asked in these rounds that the run ends
abbrev pub GoOn : List Round → Type 0
GoOn rounds = list_any is_stopped rounds ≡ false

-- all turns are done, or in the last round, and in none before, somebody asked that the run ends
pub data HasDone (plan : ServePlan) (done : ℕ) (rounds : List Round) : Type 0 where
  all_turns : done ≡ plan.turns → GoOn rounds → HasDone plan done rounds
  stopped : (earlier : List Round) (last : Round) → rounds ≡ earlier ++ last ∷ [] → GoOn earlier → is_stopped last ≡ true → 0 < done → done ≤ plan.turns
      → HasDone plan done rounds

-- the run is done with its turns, or this one isn't whole
abbrev pub HasEnded : ServePlan → End → ℕ → List Round → Progress → Option Turn → Type 0
HasEnded plan end done rounds last None = (end ≡ Turns) × HasDone plan done rounds
HasEnded plan end done rounds last (Some turn) = (done < plan.turns) × IsCut end plan.rotate_ms last turn × GoOn rounds

-- how a run may go: the first secret lacks words; it has them and nothing was started; or the turns began
pub data MayGo (plan : ServePlan) (end : End) (run : Run) : Type 0 where
  without_secret : length run.first < 4 → end ≡ WordsFault → run.whole ≡ [] → run.cut ≡ None → run.rounds ≡ [] → MayGo plan end run
  unstarted : length run.first ≡ 4 → (end ≡ Memory) ⊎ (end ≡ SpawnFault) → run.whole ≡ [] → run.cut ≡ None → run.rounds ≡ [] → MayGo plan end run
  served : (last : Progress) → length run.first ≡ 4 → AreWhole plan.rotate_ms no_progress run.whole last
      → HasEnded plan end (length run.whole) run.rounds last run.cut → MayGo plan end run

-- the words that were drawn in turns, and the answers of link and feed, in order
abbrev pub moments_given : List Turn → List ℕ
moments_given turns = map (λ turn. turn.clock.answer) turns

abbrev pub words_drawn : List Turn → List ℕ
words_drawn turns = flat_map (λ turn. turn.drawn) turns

abbrev pub link_answers : List Turn → List LinkAnswer
link_answers turns = flat_map (λ turn. map (λ one. one.answer) turn.heard) turns

abbrev pub feed_answers : List Turn → List FeedAnswer
feed_answers turns = flat_map (λ turn. map (λ one. one.answer) turn.fed) turns
