-- How often the real devices have failed, and whether their sends may wait.
use Rattle.std.specs.Prelude.{ℕ, Bool}
use Rattle.amt_ports.specs.declared.adapters.{host_clock.HostClock.{HostClock}, host_files.HostFiles.{HostFiles}, host_words.HostWords.{HostWords}, udp.{control.UdpControl.{UdpControl}, feed.UdpFeed.{UdpFeed}, link.UdpLink.{UdpLink}, out.UdpOut.{UdpOut}}}

-- receivings and sends of a link
abbrev pub receivings_failed : UdpLink → ℕ
receivings_failed link = link.receive_faults

abbrev pub sends_failed : UdpLink → ℕ
sends_failed link = link.send_faults

-- receivings of a feed
abbrev pub feed_failed : UdpFeed → ℕ
feed_failed feed = feed.faults

-- receivings and answers of a control socket
abbrev pub lines_failed : UdpControl → ℕ
lines_failed control = control.receive_faults

abbrev pub replies_failed : UdpControl → ℕ
replies_failed control = control.send_faults

-- sends of a worker's end
abbrev pub out_failed : UdpOut → ℕ
out_failed out = out.faults

-- whether the next answer that finds no room may wait for it
abbrev pub answers_may_wait : UdpLink → Bool
answers_may_wait link = link.answers.may_wait

-- the same of the next copy
abbrev pub copies_may_wait : UdpOut → Bool
copies_may_wait out = out.outlet.may_wait

-- readings of a clock
abbrev pub readings_failed : {C : Type 0} → HostClock C → ℕ
readings_failed clock = clock.faults

-- drawings of words
abbrev pub drawings_failed : {R : Type 0} → HostWords R → ℕ
drawings_failed words = words.faults

-- files that were not read
abbrev pub files_failed : {F : Type 0} → HostFiles F → ℕ
files_failed files = files.faults
