-- What a serving relay sends: answers by its link, and copies by its outs.
use Rattle.std.specs.{Prelude.{ℕ, List, [], ◌∷◌, map}, List.{flat_map}}
use Rattle.amt_values.specs.declared.peer.Peer.{Peer}
use Rattle.endpoint_membership.specs.declared.change.Change.{Change}
use Rattle.published_table.specs.Views.{named}
use Rattle.response_mac.specs.declared.secret.Secret.{Secret}
use Rattle.relay_machine.specs.{declared.{event.Event.{Event, TheVariants.{Moment, Datagram, Packet, Rotate, Limits}}, settings.Settings.{Settings}}, Answers.{sends_of}, Courses.{each_after}, Events.{now_of}, Published.{published_log}}
use Rattle.replication_workers.specs.{Replication.{to_peer}, declared.job.Job.{Job}}
use Rattle.relay_serving.specs.Happenings.{Happening, Took, Published, events_among, published_events_among}

-- the answers to a datagram after these events: a packet is no step of the relay here
abbrev pub answers_to : Settings → Secret → List Event → Event → List (Peer × List ℕ)
answers_to settings first earlier (Datagram bytes from) = map to_peer (sends_of settings first earlier (Datagram bytes from))
answers_to settings first earlier (Packet bytes) = []
answers_to settings first earlier (Moment moment) = []
answers_to settings first earlier (Rotate secret) = []
answers_to settings first earlier (Limits limits) = []

-- those to later events, in order
abbrev pub answers_after : Settings → Secret → List Event → List Event → List (Peer × List ℕ)
answers_after settings first earlier later = flat_map (λ sends. sends) (each_after (answers_to settings first) earlier later)

-- a packet to copy: its moment, and the log by which its receivers are found, or a longer one
pub record Due : Type 0 where
  pub packet : List ℕ
  pub at : ℕ
  pub log : List Change

-- by the relay's moment, and the log of the events before the last publishing
abbrev pub due_to : Settings → Secret → List Happening → Happening → List Due
due_to settings first earlier (Took (Packet bytes)) =
    record { packet = bytes; at = now_of (events_among earlier); log = published_log settings first (published_events_among earlier) } ∷ []
due_to settings first earlier (Took (Datagram bytes from)) = []
due_to settings first earlier (Took (Moment moment)) = []
due_to settings first earlier (Took (Rotate secret)) = []
due_to settings first earlier (Took (Limits limits)) = []
due_to settings first earlier Published = []

abbrev pub dues_after : Settings → Secret → List Happening → List Happening → List Due
dues_after settings first earlier later = flat_map (λ dues. dues) (each_after (due_to settings first) earlier later)

-- what a job asks for
abbrev pub due_of : Job → Due
due_of job = record { packet = job.packet; at = job.at; log = named job.note }
