-- Which family a relay takes a gateway's Request to ask for.
use Rattle.std.proofs.Common.{◌≡◌, ◌&&◌, ◌<◌, ◌^◌, ℕ, Bool, true, false, [], refl, sym}
use Rattle.byteorder.specs.Numbers.{big_number-reads_back}
use Rattle.amt_messages.{specs.{Layout.{IsRequest, spelling_of}, declared.message.Message.TheVariants.{Request}}, proofs.{Spelled.{spelled_is_read}, Written.{spelling_is_canonical}}}
use Rattle.gateway_machine.specs.Sends.{octets_of}
use Rattle.relay_machine.specs.declared.settings.Settings.{Settings}
use Rattle.amt_pair.specs.Queries.{IsAskedFor}

neither : (flag : Bool) → (flag && false) ≡ false
neither true = refl
neither false = refl

-- by its spelling, whatever the relay's settings
pub asked-spelled : (settings : Settings) (v6 : Bool) (nonce : ℕ) → nonce < 2 ^ 32 → IsAskedFor settings v6 nonce (spelling_of (Request v6 nonce))
asked-spelled settings true nonce small = record {
  p_flag = true;
  read = spelled_is_read (Request true nonce) (spelling_of (Request true nonce)) (spelling_is_canonical (Request true nonce) small tt).spelled;
  family = refl;
}
asked-spelled settings false nonce small = record {
  p_flag = false;
  read = spelled_is_read (Request false nonce) (spelling_of (Request false nonce)) (spelling_is_canonical (Request false nonce) small tt).spelled;
  family = neither settings.linux_gateways;
}

-- for a Linux relay, by whether Linux's gateways are served
linux-spelled : (nonce : ℕ) → nonce < 2 ^ 32 → IsRequest false nonce (octets_of (Request true nonce) true)
linux-spelled nonce small = record { kind = record { octets = refl; first = refl }; p_flag = refl; nonce_field = sym (big_number-reads_back 4 nonce [] small) }

same-and : (flag : Bool) → (flag && true) ≡ flag
same-and true = refl
same-and false = refl

pub asked-linux : (settings : Settings) (nonce : ℕ) → nonce < 2 ^ 32 → IsAskedFor settings settings.linux_gateways nonce (octets_of (Request true nonce) true)
asked-linux settings nonce small = record {
  p_flag = false;
  read = spelled_is_read (Request false nonce) (octets_of (Request true nonce) true) (linux-spelled nonce small);
  family = same-and settings.linux_gateways;
}
