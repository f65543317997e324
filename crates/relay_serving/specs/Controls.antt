-- What is seen of the control of a running relay, before a call and after it.
use Rattle.std.specs.Prelude.{ℕ, List, Option, None, Some}
use Rattle.amt_ports.specs.{Devices.{LinkSeen, link_at}, declared.link.Link.{Ghosts as LinkTells}}
use Rattle.relay_serving.specs.declared.control.{Control.{Control}, Copies.{Ghosts as CopiesTell}, CopyCount.{CopyCount}}

-- its link; the longest wait that a receiving there was asked for; and the counts of copies that were read, where they
-- are told
pub record ControlSeen : Type 0 where
  pub link : LinkSeen
  pub wait : ℕ
  pub copies : Option (List CopyCount)

abbrev pub control_at : {K N : Type 0} → LinkTells K → CopiesTell N → Control K N → ControlSeen
control_at link copies control =
    record { link = link_at link control.link; wait = link.longest_wait control.link; copies = copies.given control.copies }

abbrev pub no_copies : CopyCount
no_copies = record { sent = 0; unsent = 0 }

-- where there is one
abbrev pub controls_at : {K N : Type 0} → LinkTells K → CopiesTell N → Option (Control K N) → Option ControlSeen
controls_at link copies None = None
controls_at link copies (Some control) = Some (control_at link copies control)
