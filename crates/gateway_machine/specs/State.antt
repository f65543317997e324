-- What holds of a gateway between events.
use Rattle.std.specs.Prelude.{◌≡◌, ◌≤◌, true, List, All}
use Rattle.group_records.specs.Written.{is_of_family}
use Rattle.socket_merge.specs.{History.{AcceptedCall}, Sockets.{SocketsHold, SocketsValue}}
use Rattle.gateway_machine.specs.{declared.{exchange.Exchange.{Exchange}, settings.GatewaySettings.{GatewaySettings}}, Settings.{family_of}}

-- the sockets stand for some history
abbrev pub HasHistory : SocketsValue → Type 0
HasHistory sockets = (history : List AcceptedCall) × SocketsHold sockets history

-- no socket call is later than the exchange's moment
abbrev pub IsAtMoment : Exchange → SocketsValue → Type 0
IsAtMoment exchange sockets = sockets.moment ≤ exchange.moment

-- each open socket is of a group of the gateway's family
abbrev pub AreOfSettings : GatewaySettings → SocketsValue → Type 0
AreOfSettings settings sockets = All (λ socket. is_of_family (family_of settings) socket.group ≡ true) sockets.sockets
