-- What links and feeds hand on.
use Rattle.std.specs.Prelude.{ℕ, ◌≤◌, List, length, take}
use Rattle.amt_ports.specs.declared.feed.{FeedAnswer.{FeedAnswer, TheVariants.{Packet as PacketAnswer, Nothing as NothingFed, Closed as ClosedFeed}}, FeedGot.{FeedGot}}
use Rattle.amt_ports.specs.declared.{feed.FeedGot.TheVariants.{Packet, Nothing as NothingOfFeed, Closed as FeedIsClosed}, link.{Got.{Got, TheVariants.{Datagram, Nothing, Closed}}, LinkAnswer.{LinkAnswer, TheVariants.{Datagram as DatagramAnswer, Nothing as NothingCame, Closed as ClosedLink}}}}

-- the answer with its octets, which stand at the start of the buffer
abbrev pub link_answer : Got → List ℕ → LinkAnswer
link_answer (Datagram from count) buffer = DatagramAnswer from (take count buffer)
link_answer Nothing buffer = NothingCame
link_answer Closed buffer = ClosedLink

abbrev pub feed_answer : FeedGot → List ℕ → FeedAnswer
feed_answer (Packet count) buffer = PacketAnswer (take count buffer)
feed_answer NothingOfFeed buffer = NothingFed
feed_answer FeedIsClosed buffer = ClosedFeed

-- no more octets than a UDP datagram has
abbrev pub IsShortAnswer : LinkAnswer → Type 0
IsShortAnswer (DatagramAnswer from bytes) = length bytes ≤ 65535
IsShortAnswer NothingCame = Unit {0}
IsShortAnswer ClosedLink = Unit {0}

abbrev pub IsShortFeedAnswer : FeedAnswer → Type 0
IsShortFeedAnswer (PacketAnswer bytes) = length bytes ≤ 65535
IsShortFeedAnswer NothingFed = Unit {0}
IsShortFeedAnswer ClosedFeed = Unit {0}

abbrev pub IsShortGot : Got → Type 0
IsShortGot (Datagram from count) = count ≤ 65535
IsShortGot Nothing = Unit {0}
IsShortGot Closed = Unit {0}

abbrev pub IsShortFeedGot : FeedGot → Type 0
IsShortFeedGot (Packet count) = count ≤ 65535
IsShortFeedGot NothingOfFeed = Unit {0}
IsShortFeedGot FeedIsClosed = Unit {0}
