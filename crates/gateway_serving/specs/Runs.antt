-- How a run of a serving gateway may go.
use Rattle.std.specs.{Prelude.{◌≡◌, ℕ, ◌+◌, ◌<◌, ◌≤◌, true, false, List, [], ◌∷◌, ◌++◌, All, length, map, sum_by, Option, None, Some}, List.{flat_map, list_any}}
use Rattle.amt_config.specs.declared.config.GatewayConfig.{GatewayConfig}
use Rattle.amt_ports.specs.{declared.{link.LinkAnswer.{LinkAnswer}, end.End.{End, TheVariants.{Turns, Closed, LinkFault, FeedFault, WordsFault, SpawnFault, Memory}}}, Bursts.{IsBegun, IsClosed}}
use Rattle.gateway_machine.specs.{Settings.{family_of}, declared.event.GatewayEvent.{GatewayEvent, TheVariants.{Moment}}}
use Rattle.group_records.specs.declared.family.Family.{Family}
use Rattle.gateway_serving.specs.{Askers.{Reply, ask_leave, ask_stop, askers_of, refused_among}, Leaving.{IsLeaving, Leaving, Stayed, refused_leave}, Settings.{first_events, opening_of, settings_of}, Turns.{HasBegun, HasHeard, IsWhole, Turn, from_control, from_link}}

-- a word couldn't be drawn, and nothing else was asked
pub record LacksWord (turn : Turn) : Type 0 where
  pub none : turn.drawn ≡ []
  pub no_moment : turn.clock ≡ []
  pub unheard : turn.heard ≡ []
  pub no_lines : turn.lines ≡ []

-- the link or the control answered that it is closed
pub data FindsClosed (family : Family) (turn : Turn) : Type 0 where
  of_link : HasBegun turn → IsClosed from_link turn.heard → turn.lines ≡ [] → FindsClosed family turn
  of_control : HasHeard turn → IsClosed (from_control family) turn.lines → FindsClosed family turn

-- the run ended in this turn, which isn't whole; out of memory none ends
abbrev pub IsCut : End → Family → Turn → Type 0
IsCut Turns family turn = ⊥
IsCut SpawnFault family turn = ⊥
IsCut Memory family turn = ⊥
IsCut Closed family turn = FindsClosed family turn
IsCut WordsFault family turn = LacksWord turn
IsCut LinkFault family turn = HasBegun turn × IsBegun from_link turn.heard × (turn.lines ≡ [])
IsCut FeedFault family turn = HasHeard turn × IsBegun (from_control family) turn.lines

-- The word of the first nonce, if one was drawn; the first moment, if the clock was asked; the events before the
-- first turn; the whole turns, and the one in which the run ended, if it is not whole; the answers to lines after each
-- whole turn; and whether all sockets left their groups at the end.
pub record Run : Type 0 where
  pub words : List ℕ
  pub moments : List ℕ
  pub begun : List GatewayEvent
  pub whole : List Turn
  pub cut : Option Turn
  pub rounds : List (List Reply)
  pub left : Leaving

abbrev pub with_cut : List Turn → Option Turn → List Turn
with_cut whole None = whole
with_cut whole (Some turn) = whole ++ turn ∷ []

abbrev pub turns_of : Run → List Turn
turns_of run = with_cut run.whole run.cut

-- the answers to lines that memory refused, and the leave
abbrev pub refused_of : Run → ℕ
refused_of run = sum_by refused_among run.rounds + refused_leave run.left

-- nothing happened
pub record IsStill (run : Run) : Type 0 where
  pub no_moment : run.moments ≡ []
  pub no_event : run.begun ≡ []
  pub no_turn : turns_of run ≡ []
  pub stayed : run.left ≡ Stayed

-- nobody asked in these turns that the run ends
abbrev pub GoOn : List Turn → Type 0
GoOn turns = list_any (λ turn. ask_stop (askers_of turn)) turns ≡ false

-- all turns are done; or in the last one, and in none before, somebody asked that the run ends, and maybe that all
-- sockets leave their groups before
pub data HasDone (turns : ℕ) (whole : List Turn) (left : Leaving) : Type 0 where
  all_turns : length whole ≡ turns → GoOn whole → left ≡ Stayed → HasDone turns whole left
  stopped : (earlier : List Turn) (last : Turn) → whole ≡ earlier ++ last ∷ [] → length whole ≤ turns → GoOn earlier → ask_stop (askers_of last) ≡ true
      → IsLeaving (ask_leave (askers_of last)) left → HasDone turns whole left

-- the run is done with its turns, or this one isn't whole
abbrev pub HasEnded : Family → ℕ → End → List Turn → Leaving → Option Turn → Type 0
HasEnded family turns end whole left None = (end ≡ Turns) × HasDone turns whole left
HasEnded family turns end whole left (Some turn) = (length whole < turns) × IsCut end family turn × GoOn whole × (left ≡ Stayed)

-- Memory refused a join: the first moment had passed, and the joins before that one were opened.
pub record IsRefusedEarly (config : GatewayConfig) (run : Run) : Type 0 where
  pub moment : ℕ
  pub given : run.moments ≡ moment ∷ []
  pub opened : List GatewayEvent
  pub begun_is : run.begun ≡ Moment moment ∷ opened
  pub refused : GatewayEvent
  pub rest : List GatewayEvent
  pub joins_are : map opening_of config.joins ≡ opened ++ refused ∷ rest
  pub no_turn : turns_of run ≡ []
  pub stayed : run.left ≡ Stayed

-- All of them happened, and then the turns.
pub record HasTurns (config : GatewayConfig) (turns : ℕ) (end : End) (run : Run) : Type 0 where
  pub moment : ℕ
  pub given : run.moments ≡ moment ∷ []
  pub begun_is : run.begun ≡ first_events config moment
  pub are_whole : All (IsWhole (family_of (settings_of config))) run.whole
  pub ended : HasEnded (family_of (settings_of config)) turns end run.whole run.left run.cut

-- how a run may go: there is no first nonce; memory has no room for a gateway, or refuses a join; or the turns
-- began
pub data MayGo (config : GatewayConfig) (turns : ℕ) (end : End) (run : Run) : Type 0 where
  undrawn : run.words ≡ [] → end ≡ WordsFault → IsStill run → MayGo config turns end run
  unmade : length run.words ≡ 1 → end ≡ Memory → IsStill run → MayGo config turns end run
  unopened : length run.words ≡ 1 → end ≡ Memory → IsRefusedEarly config run → MayGo config turns end run
  served : length run.words ≡ 1 → HasTurns config turns end run → MayGo config turns end run

-- the words, the moments, and the answers of link and control in turns, in order
abbrev pub words_drawn : List Turn → List ℕ
words_drawn turns = flat_map (λ turn. turn.drawn) turns

abbrev pub moments_given : List Turn → List ℕ
moments_given turns = flat_map (λ turn. map (λ one. one.answer) turn.clock) turns

abbrev pub link_answers : List Turn → List LinkAnswer
link_answers turns = flat_map (λ turn. map (λ one. one.answer) turn.heard) turns

abbrev pub control_answers : List Turn → List LinkAnswer
control_answers turns = flat_map (λ turn. map (λ one. one.answer) turn.lines) turns

-- the words and the moments of all of a run
abbrev pub words_of : Run → List ℕ
words_of run = run.words ++ words_drawn (turns_of run)

abbrev pub moments_of : Run → List ℕ
moments_of run = run.moments ++ moments_given (turns_of run)
