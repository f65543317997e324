-- What is written of a message spells it.
use Rattle.std.{proofs.{Common.{◌≡◌, ℕ, ◌+◌, ◌/◌, ◌<◌, ◌^◌, Bool, true, false, eqb, List, [], ◌∷◌, ◌++◌, length, take, drop, Option, Some, None, refl, sym, subst, ap, ◌∙◌, arith, append_assoc, length-append}, lemmas.List.{append-nil, drop-drop, drop_at, take_at}}, specs.Int.{bit_at}}
use Rattle.byteorder.specs.{Endian.{big_number, big_bytes}, Numbers.{big_number-reads_back}}
use Rattle.amt_values.{proofs.NetworkOrder.{big_from-bytes_high_first}, specs.{Address.{is_mapped}, Endpoint.{endpoint_named}, EndpointValue.{EndpointValue}, declared.{address.Ip.TheVariants.{V4, V6}, mac.Mac48.{Mac48}}}}
use Rattle.amt_messages.specs.{declared.message.Message.{Message, TheVariants.{Discovery, Advertisement, Request, Query, Update, Multicast, Teardown}}, Messages.{IsGateway, IsMessage, IsNamedGateway, IsSendable}, StatedLength.{inner_length_of}, Layout.{IsCanonical, IsQuery, IsUpdate, gateway_octets, query_flags, query_length, request_flags, spelling_of}}

-- octets that are a canonical spelling
spelled_so : (message : Message) (bytes : List ℕ) → bytes ≡ spelling_of message → IsCanonical message (spelling_of message) → IsCanonical message bytes
spelled_so message bytes written canonical = subst (IsCanonical message) (sym written) canonical

-- a number of four octets is read back
nonce_again : (nonce : ℕ) (rest : List ℕ) → nonce < 2 ^ 32 → nonce ≡ big_number 4 (big_bytes 4 nonce ++ rest)
nonce_again nonce rest small = sym (big_number-reads_back 4 nonce rest small)

request_flag : (v6 : Bool) → v6 ≡ eqb (bit_at (request_flags v6) 0) 1
request_flag true = refl
request_flag false = refl

request_reserved : (v6 : Bool) → request_flags v6 / 2 ≡ 0
request_reserved true = refl
request_reserved false = refl

l_flag_of : (limited named : Bool) → limited ≡ eqb (bit_at (query_flags limited named) 1) 1
l_flag_of true true = refl
l_flag_of true false = refl
l_flag_of false true = refl
l_flag_of false false = refl

g_flag_of : (limited named : Bool) → named ≡ eqb (bit_at (query_flags limited named) 0) 1
g_flag_of true true = refl
g_flag_of true false = refl
g_flag_of false true = refl
g_flag_of false false = refl

query_reserved : (limited named : Bool) → query_flags limited named / 4 ≡ 0
query_reserved true true = refl
query_reserved true false = refl
query_reserved false true = refl
query_reserved false false = refl

-- the parts of a Query, an Update or a Teardown by their places, after an octet of type and one of flags
module _ (kind flags : ℕ) (mac nonce inner tail : List ℕ) (six : length mac ≡ 6) (four : length nonce ≡ 4) where
  whole_length : length (kind ∷ flags ∷ (mac ++ nonce ++ inner ++ tail)) ≡ 12 + length inner + length tail
  whole_length = omega (arith, length-append (mac ++ nonce ++ inner) tail, length-append (mac ++ nonce) inner, length-append mac nonce)

  regrouped : mac ++ nonce ++ inner ++ tail ≡ mac ++ (nonce ++ (inner ++ tail))
  regrouped = append_assoc (mac ++ nonce) inner tail ∙ append_assoc mac nonce (inner ++ tail)

  mac_there : mac ≡ take 6 (drop 2 (kind ∷ flags ∷ (mac ++ nonce ++ inner ++ tail)))
  mac_there = sym (ap (take 6) regrouped ∙ take_at mac (nonce ++ (inner ++ tail)) 6 six)

  nonce_there : drop 8 (kind ∷ flags ∷ (mac ++ nonce ++ inner ++ tail)) ≡ nonce ++ (inner ++ tail)
  nonce_there = ap (drop 6) regrouped ∙ drop_at mac (nonce ++ (inner ++ tail)) 6 six

  inner_there : drop 12 (kind ∷ flags ∷ (mac ++ nonce ++ inner ++ tail)) ≡ inner ++ tail
  inner_there =
      sym (drop-drop 4 8 (kind ∷ flags ∷ (mac ++ nonce ++ inner ++ tail)))
      ∙ (ap (drop 4) nonce_there ∙ drop_at nonce (inner ++ tail) 4 four)

  tail_there : drop (12 + length inner) (kind ∷ flags ∷ (mac ++ nonce ++ inner ++ tail)) ≡ tail
  tail_there =
      sym (drop-drop (length inner) 12 (kind ∷ flags ∷ (mac ++ nonce ++ inner ++ tail)))
      ∙ (ap (drop (length inner)) inner_there ∙ drop_at inner tail (length inner) refl)

  address_there : drop (14 + length inner) (kind ∷ flags ∷ (mac ++ nonce ++ inner ++ tail)) ≡ drop 2 tail
  address_there =
      let place : 12 + length inner + 2 ≡ 14 + length inner = omega arith in
      ap (λ (n : ℕ). drop n (kind ∷ flags ∷ (mac ++ nonce ++ inner ++ tail))) (sym place)
      ∙ (sym (drop-drop 2 (12 + length inner) (kind ∷ flags ∷ (mac ++ nonce ++ inner ++ tail))) ∙ ap (drop 2) tail_there)

-- what is written of a Query, with what follows its inner datagram
query_written : (limited named : Bool) (mac : Mac48) (nonce : ℕ) (inner tail : List ℕ) → length mac.0 ≡ 6 → nonce < 2 ^ 32
    → inner_length_of inner ≡ Some (length inner) → 12 + length inner + length tail ≡ query_length named (length inner)
    → IsQuery limited named mac nonce inner (4 ∷ query_flags limited named ∷ (mac.0 ++ big_bytes 4 nonce ++ inner ++ tail))
query_written limited named mac nonce inner tail six small whole size =
    let flags = query_flags limited named in
    record {
      kind = record { octets = whole_length 4 flags mac.0 (big_bytes 4 nonce) inner tail six refl ∙ size; first = refl };
      l_flag = l_flag_of limited named;
      g_flag = g_flag_of limited named;
      mac_field = mac_there 4 flags mac.0 (big_bytes 4 nonce) inner tail six refl;
      nonce_field = nonce_again nonce (inner ++ tail) small ∙ sym (ap (big_number 4) (nonce_there 4 flags mac.0 (big_bytes 4 nonce) inner tail six refl));
      inner_field = sym (ap (take (length inner)) (inner_there 4 flags mac.0 (big_bytes 4 nonce) inner tail six refl) ∙ take_at inner tail (length inner) refl);
      inner_whole = whole;
    }

-- what is written of an Update
update_written : (mac : Mac48) (nonce : ℕ) (inner : List ℕ) → length mac.0 ≡ 6 → nonce < 2 ^ 32
    → IsUpdate mac nonce inner (5 ∷ 0 ∷ (mac.0 ++ big_bytes 4 nonce ++ inner ++ []))
update_written mac nonce inner six small = record {
  kind = record { octets = whole_length 5 0 mac.0 (big_bytes 4 nonce) inner [] six refl ∙ omega arith; first = refl };
  mac_field = mac_there 5 0 mac.0 (big_bytes 4 nonce) inner [] six refl;
  nonce_field = nonce_again nonce (inner ++ []) small ∙ sym (ap (big_number 4) (nonce_there 5 0 mac.0 (big_bytes 4 nonce) inner [] six refl));
  inner_field = sym (inner_there 5 0 mac.0 (big_bytes 4 nonce) inner [] six refl ∙ append-nil inner);
}

-- the spelling of an Update is canonical
update_is_canonical : (mac : Mac48) (nonce : ℕ) (inner : List ℕ) → length mac.0 ≡ 6 → nonce < 2 ^ 32
    → IsCanonical (Update mac nonce inner) (spelling_of (Update mac nonce inner))
update_is_canonical mac nonce inner six small =
    let no_tail = append-nil (mac.0 ++ big_bytes 4 nonce ++ inner) in
    let spelled = subst (λ (rest : List ℕ). IsUpdate mac nonce inner (5 ∷ 0 ∷ rest)) no_tail (update_written mac nonce inner six small) in
    record { spelled = spelled; reserved = refl; address_form = tt }

-- and so are the octets that are written of it
pub written_update : (mac : Mac48) (nonce : ℕ) (inner bytes : List ℕ) → length mac.0 ≡ 6 → nonce < 2 ^ 32
    → bytes ≡ spelling_of (Update mac nonce inner) → IsCanonical (Update mac nonce inner) bytes
written_update mac nonce inner bytes six small written = spelled_so (Update mac nonce inner) bytes written (update_is_canonical mac nonce inner six small)

-- an endpoint's port and address are read back
port_again : (port : ℕ) (rest : List ℕ) → port < 2 ^ 16 → big_number 2 (big_bytes 2 port ++ rest) ≡ port
port_again port rest small = big_number-reads_back 2 port rest small

address_again : (address : ℕ) → address < 2 ^ 128 → big_number 16 (big_bytes 16 address) ≡ address
address_again address small = big_from-bytes_high_first 16 address small

-- an endpoint in its one form is named by its address and port
endpoint_named-again : (endpoint : EndpointValue) (address port : ℕ) → address ≡ endpoint.address → port ≡ endpoint.port
    → is_mapped endpoint.address ≡ false → endpoint ≡ endpoint_named address port
endpoint_named-again endpoint address port same_address same_port form = rw (same_address, same_port, form) refl

-- the spelling of a Query is canonical
query_is_canonical : (limited : Bool) (mac : Mac48) (nonce : ℕ) (inner : List ℕ) (seen : Option EndpointValue) → length mac.0 ≡ 6 → nonce < 2 ^ 32
    → IsNamedGateway seen → inner_length_of inner ≡ Some (length inner)
    → IsCanonical (Query limited mac nonce inner seen) (spelling_of (Query limited mac nonce inner seen))
query_is_canonical limited mac nonce inner None six small form whole = record {
  spelled = query_written limited false mac nonce inner [] six small whole (omega arith);
  reserved = query_reserved limited false;
  address_form = tt;
}
query_is_canonical limited mac nonce inner (Some endpoint) six small form whole =
    let flags = query_flags limited true in
    let tail = gateway_octets endpoint in
    let port_place = tail_there 4 flags mac.0 (big_bytes 4 nonce) inner tail six refl in
    let address_place = address_there 4 flags mac.0 (big_bytes 4 nonce) inner tail six refl in
    let port_is = ap (big_number 2) port_place ∙ port_again endpoint.port (big_bytes 16 endpoint.address) form.1 in
    let address_is = ap (big_number 16) address_place ∙ address_again endpoint.address form.0 in
    record {
      spelled = (
        query_written limited true mac nonce inner tail six small whole refl,
        endpoint_named-again endpoint _ _ address_is port_is form.2,
      );
      reserved = query_reserved limited true;
      address_form = ap is_mapped address_is ∙ form.2;
    }

-- and so are the octets that are written of it
pub written_query : (limited : Bool) (mac : Mac48) (nonce : ℕ) (inner : List ℕ) (seen : Option EndpointValue) (bytes : List ℕ)
    → length mac.0 ≡ 6 → nonce < 2 ^ 32 → IsNamedGateway seen → inner_length_of inner ≡ Some (length inner)
    → bytes ≡ spelling_of (Query limited mac nonce inner seen) → IsCanonical (Query limited mac nonce inner seen) bytes
written_query limited mac nonce inner seen bytes six small form whole written =
    spelled_so (Query limited mac nonce inner seen) bytes written (query_is_canonical limited mac nonce inner seen six small form whole)

-- the spelling of Multicast Data is canonical
multicast_is_canonical : (packet : List ℕ) → IsCanonical (Multicast packet) (spelling_of (Multicast packet))
multicast_is_canonical packet = record {
  spelled = record { kind = record { octets = omega arith; first = refl }; packet_field = refl };
  reserved = refl;
  address_form = tt;
}

-- what is written of a Teardown, with no inner datagram before its endpoint
teardown_written : (mac : Mac48) (nonce : ℕ) (gateway : EndpointValue) → length mac.0 ≡ 6 → nonce < 2 ^ 32 → IsGateway gateway
    → IsCanonical (Teardown mac nonce gateway) (7 ∷ 0 ∷ (mac.0 ++ big_bytes 4 nonce ++ [] ++ gateway_octets gateway))
teardown_written mac nonce gateway six small form =
    let tail = gateway_octets gateway in
    let port_place = tail_there 7 0 mac.0 (big_bytes 4 nonce) [] tail six refl in
    let address_place = address_there 7 0 mac.0 (big_bytes 4 nonce) [] tail six refl in
    let port_is = ap (big_number 2) port_place ∙ port_again gateway.port (big_bytes 16 gateway.address) form.1 in
    let address_is = ap (big_number 16) address_place ∙ address_again gateway.address form.0 in
    record {
      spelled = record {
        kind = record { octets = whole_length 7 0 mac.0 (big_bytes 4 nonce) [] tail six refl; first = refl };
        mac_field = mac_there 7 0 mac.0 (big_bytes 4 nonce) [] tail six refl;
        nonce_field = nonce_again nonce ([] ++ tail) small ∙ sym (ap (big_number 4) (nonce_there 7 0 mac.0 (big_bytes 4 nonce) [] tail six refl));
        gateway_field = endpoint_named-again gateway _ _ address_is port_is form.2;
      };
      reserved = refl;
      address_form = ap is_mapped address_is ∙ form.2;
    }

-- the spelling of a Teardown is canonical
teardown_is_canonical : (mac : Mac48) (nonce : ℕ) (gateway : EndpointValue) → length mac.0 ≡ 6 → nonce < 2 ^ 32 → IsGateway gateway
    → IsCanonical (Teardown mac nonce gateway) (spelling_of (Teardown mac nonce gateway))
teardown_is_canonical mac nonce gateway six small form =
    let no_inner = append-nil (mac.0 ++ big_bytes 4 nonce) in
    subst (λ (prefix : List ℕ). IsCanonical (Teardown mac nonce gateway) (7 ∷ 0 ∷ (prefix ++ gateway_octets gateway))) no_inner
    (teardown_written mac nonce gateway six small form)

-- and so are the octets that are written of it
pub written_teardown : (mac : Mac48) (nonce : ℕ) (gateway : EndpointValue) (bytes : List ℕ) → length mac.0 ≡ 6 → nonce < 2 ^ 32 → IsGateway gateway
    → bytes ≡ spelling_of (Teardown mac nonce gateway) → IsCanonical (Teardown mac nonce gateway) bytes
written_teardown mac nonce gateway bytes six small form written =
    spelled_so (Teardown mac nonce gateway) bytes written (teardown_is_canonical mac nonce gateway six small form)

-- the message's spelling is canonical
pub spelling_is_canonical : (message : Message) → IsMessage message → IsSendable message → IsCanonical message (spelling_of message)
spelling_is_canonical (Discovery nonce) fits sendable =
    let again = nonce_again nonce [] fits in
    record {
      spelled = record { kind = record { octets = refl; first = refl }; nonce_field = again };
      reserved = refl;
      address_form = tt;
    }
spelling_is_canonical (Advertisement nonce (V4 address)) fits sendable =
    let again = nonce_again nonce (big_bytes 4 address) fits.0 in
    let address_is = nonce_again address [] fits.1 in
    record {
      spelled = record { kind = record { octets = refl; first = refl }; nonce_field = again; address_field = address_is };
      reserved = refl;
      address_form = tt;
    }
spelling_is_canonical (Advertisement nonce (V6 address)) fits sendable =
    let again = nonce_again nonce (big_bytes 16 address) fits.0 in
    let address_is = sym (address_again address fits.1) in
    record {
      spelled = record { kind = record { octets = refl; first = refl }; nonce_field = again; address_field = address_is };
      reserved = refl;
      address_form = tt;
    }
spelling_is_canonical (Request v6 nonce) fits sendable =
    let again = nonce_again nonce [] fits in
    record {
      spelled = record { kind = record { octets = refl; first = refl }; p_flag = request_flag v6; nonce_field = again };
      reserved = (request_reserved v6, refl);
      address_form = tt;
    }
spelling_is_canonical (Query limited mac nonce inner seen) fits sendable =
    query_is_canonical limited mac nonce inner seen fits.0.0 fits.1 fits.3 sendable.0
spelling_is_canonical (Update mac nonce inner) fits sendable = update_is_canonical mac nonce inner fits.0.0 fits.1
spelling_is_canonical (Multicast packet) fits sendable = multicast_is_canonical packet
spelling_is_canonical (Teardown mac nonce gateway) fits sendable = teardown_is_canonical mac nonce gateway fits.0.0 fits.1 fits.2
