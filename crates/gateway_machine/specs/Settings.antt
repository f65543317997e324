-- What a gateway is set up with.
use Rattle.std.specs.Prelude.{◌≡◌, true}
use Rattle.group_records.specs.{declared.family.Family.{Family}, Written.{is_of_family}}
use Rattle.socket_merge.specs.FullReport.{family_by}
use Rattle.gateway_machine.specs.declared.settings.GatewaySettings.{GatewaySettings}

-- the gateway's address family
abbrev pub family_of : GatewaySettings → Family
family_of settings = family_by settings.v6

-- reports go out from an address of the gateway's family
abbrev pub HasSourceOfFamily : GatewaySettings → Type 0
HasSourceOfFamily settings = is_of_family (family_of settings) settings.source ≡ true
