use Rattle.std.proofs.Common.{◌≡◌, ◌&&◌, not, ℕ, Bool, true, false, slice_index, Option, None, Some, if◌then◌else◌, refl, ap, ◌∙◌}
use Rattle.amt_messages.specs.{Layout.{query_flags, spelling_of}, declared.message.Message.TheVariants.{Query}}
use Rattle.amt_values.specs.EndpointValue.{EndpointValue}
use Rattle.response_mac.specs.{ResponseMac.{mac_of}, declared.secret.Secret.{Secret}}
use Rattle.relay_machine.specs.{Queries.{general_query, query_for}, declared.settings.Settings.{Settings}}
use Rattle.relay_machine.proofs.laws.queries_for_linux_have_no_flag.Goals as goal

-- the second octet by whether Linux's gateways are served
flags : (serves limited : Bool) (settings : Settings) (secret : Secret) (v6 : Bool) (source : EndpointValue) (nonce : ℕ) → serves ≡ true
    → slice_index (spelling_of (Query (limited && not serves) (mac_of secret source nonce) nonce (general_query settings v6) (if serves then None else Some source))) 1 ≡ 0
flags true true settings secret v6 source nonce is = refl
flags true false settings secret v6 source nonce is = refl
flags false limited settings secret v6 source nonce is = cc is

pub returns : goal.returns
returns c = λ settings secret v6 limited source nonce is. flags settings.linux_gateways limited settings secret v6 source nonce is
