-- The texts by which a running relay answers lines, by where it stands.
use Rattle.std.specs.Prelude.{ℕ, ◌+◌, ◌-◌, ◌^◌, ◌==◌, ◌&&◌, min, List, [], ◌∷◌, ◌++◌, codes, count_by, length, map, Option, None, Some, Result, Ok, Err, if◌then◌else◌}
use Rattle.std.specs.List.{filter, flat_map}
use Rattle.amt_values.specs.{Endpoint.{endpoint_of}, EndpointValue.{EndpointValue}}
use Rattle.amt_script.specs.Texts.{row_text}
use Rattle.control_lines.specs.{Answer.{bad_text}, Tally.{number_line, numbers_of, tally_text}, declared.asking.Asking.{Asking, TheVariants.{Counts, Show, ShowOf, Stop}}}
use Rattle.endpoint_membership.specs.declared.{change.Change.{Change}, row.Row.{Row}}
use Rattle.response_mac.specs.declared.secret.Secret.{Secret}
use Rattle.script_lines.specs.declared.reason.Reason.{Reason}
use Rattle.relay_machine.specs.{Answers.{rows_after}, Courses.{is_torn, is_updated, outcomes_of}, Published.{published_log}, declared.{event.Event.{Event}, outcome.Outcome.{Outcome}, settings.Settings.{Settings}}}
use Rattle.relay_serving.specs.{Counting.{is_datagram, is_packet}, Happenings.{Happening, events_among, published_events_among}, OutcomeWords.{outcome_words, word_of}, declared.{control.CopyCount.{CopyCount}, numbers.Numbers.{Numbers}}}

-- Where a run stands after some whole turns: what happened in them, how many there were, the answers to datagrams that
-- the link sent and those that it didn't take, and what memory refused: events and answers to lines, and publishings.
pub record Standing : Type 0 where
  pub happenings : List Happening
  pub turns : ℕ
  pub sent : ℕ
  pub unsent : ℕ
  pub starved : ℕ
  pub late : ℕ

-- a sum, or the greatest number that is written
abbrev pub sum_within : ℕ → ℕ → ℕ
sum_within one other = min (one + other) (2 ^ 64 - 1)

-- the memberships of one endpoint, or none where a peer is no endpoint
abbrev pub rows_at : Option EndpointValue → List Row → List Row
rows_at None rows = []
rows_at (Some endpoint) rows = filter (λ row. row.endpoint.address == endpoint.address && row.endpoint.port == endpoint.port) rows

abbrev pub rows_text : List Row → List ℕ
rows_text rows = flat_map row_text rows

-- what came in: `turns N`, `datagrams N`, `packets N`, `updated N` and `torn N`
unfoldable pub taken_text : Numbers → List ℕ
taken_text numbers =
    number_line (codes "turns") numbers.turns
    ++ (number_line (codes "datagrams") numbers.datagrams
    ++ (number_line (codes "packets") numbers.packets
    ++ (number_line (codes "updated") numbers.updated
    ++ number_line (codes "torn") numbers.torn)))

-- what went out: `sent N`, `unsent N` and `inline N`
unfoldable pub sent_text : Numbers → List ℕ
sent_text numbers =
    number_line (codes "sent") numbers.sent
    ++ (number_line (codes "unsent") numbers.unsent
    ++ number_line (codes "inline") numbers.inline)

-- what became of events and entries: `starved N`, `late N`, `owed N` and `published N`
unfoldable pub kept_text : Numbers → List ℕ
kept_text numbers =
    number_line (codes "starved") numbers.starved
    ++ (number_line (codes "late") numbers.late
    ++ (number_line (codes "owed") numbers.owed
    ++ number_line (codes "published") numbers.published))

abbrev pub numbers_text : Numbers → List ℕ
numbers_text numbers = taken_text numbers ++ (sent_text numbers ++ kept_text numbers)

-- what is told to whoever asks for it, by the memberships, whose number is told by `rows N`, the numbers, and how often
-- each word was that of an outcome, which is told by a line `= WORD N`
abbrev pub told_text : Asking → List Row → Numbers → List ℕ → List ℕ
told_text Counts rows numbers tally = numbers_text numbers ++ (number_line (codes "rows") (length rows) ++ tally_text outcome_words tally)
told_text Show rows numbers tally = rows_text rows
told_text (ShowOf peer) rows numbers tally = rows_text (rows_at (endpoint_of peer) rows)
told_text Stop rows numbers tally = []

-- The texts that answer lines: by how many answers memory refused before, what a line was read as, and the copies that
-- were counted for it.
abbrev pub Replying : Type 0
Replying = ℕ → Result Asking Reason → CopyCount → List ℕ

-- by the settings, the first secret and the number of workers of a run
module _ (settings : Settings) (first : Secret) (workers : ℕ) where
  abbrev pub events_at : Standing → List Event
  events_at standing = events_among standing.happenings

  -- the log of all events, and the part of it that is published
  abbrev pub log_at : Standing → List Change
  log_at standing = published_log settings first (events_at standing)

  abbrev pub shown_at : Standing → List Change
  shown_at standing = published_log settings first (published_events_among standing.happenings)

  abbrev pub outcomes_at : Standing → List Outcome
  outcomes_at standing = outcomes_of settings first (events_at standing)

  abbrev pub members_at : Standing → List Row
  members_at standing = rows_after settings first (events_at standing)

  -- the numbers that are told; the copies are in the sent and unsent ones, and without workers each packet is copied in
  -- the turns' own thread
  abbrev pub numbers_at : Standing → CopyCount → Numbers
  numbers_at standing copied = record {
    turns = standing.turns;
    datagrams = count_by is_datagram (events_at standing);
    packets = count_by is_packet (events_at standing);
    updated = count_by is_updated (outcomes_at standing);
    torn = count_by is_torn (outcomes_at standing);
    sent = sum_within standing.sent copied.sent;
    unsent = sum_within standing.unsent copied.unsent;
    inline = if workers == 0 then count_by is_packet (events_at standing) else 0;
    starved = standing.starved;
    late = standing.late;
    owed = length (log_at standing) - length (shown_at standing);
    published = length (shown_at standing);
  }

  -- what answers a line that was read so, where the copies were counted so
  abbrev pub reply_text : Standing → Result Asking Reason → CopyCount → List ℕ
  reply_text standing (Ok asking) copied =
      told_text asking (members_at standing) (numbers_at standing copied) (numbers_of outcome_words (map word_of (outcomes_at standing)))
  reply_text standing (Err reason) copied = bad_text reason

  -- the same by the number of answers that memory refused since
  abbrev pub replies_at : Standing → Replying
  replies_at standing refused reading copied = reply_text (record standing { starved = standing.starved + refused }) reading copied
