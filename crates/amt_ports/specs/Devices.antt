-- What is seen of the devices of a run, before a call and after it.
use Rattle.std.specs.Prelude.{◌≡◌, ◌≤◌, ℕ, max, List, [], ◌∷◌, Option}
use Rattle.amt_ports.specs.{Sends.{TriedSend}, Told.{Answers}, declared.{feed.{Feed.{Ghosts as FeedTells}, FeedAnswer.{FeedAnswer}}, link.{Link.{Ghosts as LinkTells}, LinkAnswer.{LinkAnswer}}, out_link.OutLink.{Ghosts as OutTells}, words.Words.{Ghosts as WordsTell}}}

-- of a link: the answers to come and the tried sends, where it tells them, and how often it failed
pub record LinkSeen : Type 0 where
  pub coming : Option (List LinkAnswer)
  pub tried : Option (List TriedSend)
  pub receive_faults : ℕ
  pub send_faults : ℕ

abbrev pub link_seen : Option (List LinkAnswer) → Option (List TriedSend) → ℕ → ℕ → LinkSeen
link_seen coming tried receive_faults send_faults =
    record { coming = coming; tried = tried; receive_faults = receive_faults; send_faults = send_faults }

abbrev pub link_at : {L : Type 0} → LinkTells L → L → LinkSeen
link_at told link = link_seen (told.coming link) (told.tried link) (told.receive_faults link) (told.send_faults link)

-- of a feed
pub record FeedSeen : Type 0 where
  pub coming : Option (List FeedAnswer)
  pub faults : ℕ

abbrev pub feed_seen : Option (List FeedAnswer) → ℕ → FeedSeen
feed_seen coming faults = record { coming = coming; faults = faults }

abbrev pub feed_at : {F : Type 0} → FeedTells F → F → FeedSeen
feed_at told feed = feed_seen (told.coming feed) (told.faults feed)

-- of a source of words: those that it gave
pub record WordsSeen : Type 0 where
  pub given : Option (List ℕ)
  pub faults : ℕ

abbrev pub words_seen : Option (List ℕ) → ℕ → WordsSeen
words_seen given faults = record { given = given; faults = faults }

abbrev pub words_at : {W : Type 0} → WordsTell W → W → WordsSeen
words_at told words = words_seen (told.given words) (told.faults words)

-- of an out
pub record OutSeen : Type 0 where
  pub tried : Option (List TriedSend)
  pub faults : ℕ

abbrev pub out_seen : Option (List TriedSend) → ℕ → OutSeen
out_seen tried faults = record { tried = tried; faults = faults }

abbrev pub out_at : {O : Type 0} → OutTells O → O → OutSeen
out_at told out = out_seen (told.tried out) (told.faults out)

-- each of these was the next answer to come, where the device tells them
abbrev pub AnswersAll : {X : Type 0} → X → Option (List X) → Option (List X) → List X → Type 0
AnswersAll closed before after [] = after ≡ before
AnswersAll {X} closed before after (answer ∷ later) =
    (middle : Option (List X)) × Answers closed before middle answer × AnswersAll closed middle after later

-- no receiving in between was asked to wait for more than a millisecond, by the longest waits before and after
abbrev pub WaitsBriefly : ℕ → ℕ → Type 0
WaitsBriefly before after = after ≤ max before 1
