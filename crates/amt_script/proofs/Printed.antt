-- A printed event is one line, which is read back.
use Rattle.std.proofs.{Common.{ℕ, ◌^◌, ◌<◌, ◌≤◌, ◌≡◌, List, ◌∷◌, ◌++◌, length, codes, decimal, length-append, refl, ap, ◌∙◌, arith, rules}, lemmas.Fmt.{decimal_nonempty, length-decimal-le}}
use Rattle.amt_values.specs.{Octets.{AreOctets}, Text.{peer_text, IsPeerText}, declared.peer.Peer.{Peer}}
use Rattle.endpoint_membership.specs.declared.limits.Limits.{Limits as LimitsValue}
use Rattle.response_mac.specs.declared.secret.Secret.{Secret}
use Rattle.relay_machine.specs.{EventSize.{IsEvent}, declared.{event.Event.{Event, TheVariants.{Moment, Datagram, Packet, Rotate, Limits}}, settings.Settings.{Settings}}}
use Rattle.script_lines.{specs.Texts.{hex_text}, proofs.{Glyphs.{glyphs_of_digits}, Peers.{peer_length}, Words.{IsWordOf, lines-plain, fields-word, fields-two, plain_two, plain_glyphs, glyphs_of_literal, secret_text, hex_word, peer_word, hex_length}}}
use Rattle.amt_script.specs.{Printed.{HasLine, IsLineOf, IsLineThatSays}, Says.{IsItemLine, IsLimitText}, Texts.{event_line, event_text}}
use Rattle.amt_script.specs.declared.script.RelayItem.TheVariants as items

moment_line : (ms : ℕ) → ms < 2 ^ 62 → IsItemLine (items.Event (Moment ms)) (codes "at " ++ decimal ms)
moment_line ms small =
    let glyphs = glyphs_of_digits ms (omega (arith, small)) in
    let word = glyphs_of_literal (codes "at") (search rules) in
    let some = decimal_nonempty ms (omega (arith, small)) in (
      plain_two (codes "at") (decimal ms) word (plain_glyphs (decimal ms) glyphs),
      record { text = decimal ms; parts = fields-two (codes "at") (decimal ms) (omega arith) word some glyphs; names = (small, refl) },
    )

secret_line : (secret : Secret) → AreOctets secret.0 → length secret.0 ≡ 32 → IsItemLine (items.Event (Rotate secret)) (codes "secret " ++ hex_text secret.0)
secret_line secret octets whole =
    let text = hex_text secret.0 in
    let named = secret_text secret.0 octets whole in
    let word = glyphs_of_literal (codes "secret") (search rules) in (
      plain_two (codes "secret") text word (plain_glyphs text named.2),
      record {
        text = text;
        parts = fields-two (codes "secret") text (omega arith) word (omega (arith, named.0)) named.2;
        names = (named.0, named.1);
      },
    )

datagram_line : (from : Peer) (bytes : List ℕ) → AreOctets bytes → length bytes ≤ 65535 → IsPeerText from (peer_text from)
    → IsItemLine (items.Event (Datagram bytes from)) (codes "dg " ++ (peer_text from ++ (codes " " ++ hex_text bytes)))
datagram_line from bytes octets short names =
    let word = glyphs_of_literal (codes "dg") (search rules) in
    let peer = peer_word from names in
    let hex = hex_word bytes octets short in
    let rest = peer_text from ++ 32 ∷ hex_text bytes in (
      plain_two (codes "dg") rest word (plain_two (peer_text from) (hex_text bytes) peer.glyphs (plain_glyphs (hex_text bytes) hex.glyphs)),
      record {
        text = peer_text from;
        next = hex_text bytes;
        parts =
            fields-word (codes "dg") rest (omega arith) word
            ∙ ap (λ (more : List (List ℕ)). codes "dg" ∷ more) (fields-two (peer_text from) (hex_text bytes) peer.some peer.glyphs hex.some hex.glyphs);
        names = peer.names;
        names_next = hex.names;
      },
    )

packet_line : (bytes : List ℕ) → AreOctets bytes → length bytes ≤ 65535 → IsItemLine (items.Event (Packet bytes)) (codes "mc " ++ hex_text bytes)
packet_line bytes octets short =
    let word = glyphs_of_literal (codes "mc") (search rules) in
    let hex = hex_word bytes octets short in (
      plain_two (codes "mc") (hex_text bytes) word (plain_glyphs (hex_text bytes) hex.glyphs),
      record {
        text = hex_text bytes;
        parts = fields-two (codes "mc") (hex_text bytes) (omega arith) word hex.some hex.glyphs;
        names = hex.names;
      },
    )

-- a limit that isn't 0, as it is printed
pub limit_word : (limit : ℕ) → 1 ≤ limit → limit < 2 ^ 32 → IsWordOf (IsLimitText limit) (decimal limit)
limit_word limit some small = record {
  names = ((some, omega (arith, small)), refl);
  glyphs = glyphs_of_digits limit (omega (arith, small));
  some = decimal_nonempty limit (omega (arith, small));
}

limits_line : (limits : LimitsValue) → IsWordOf (IsLimitText limits.endpoints) (decimal limits.endpoints) → IsWordOf (IsLimitText limits.groups) (decimal limits.groups)
    → IsWordOf (IsLimitText limits.sources) (decimal limits.sources)
    → IsItemLine (items.Event (Limits limits)) (codes "limits " ++ (decimal limits.endpoints ++ (codes " " ++ (decimal limits.groups ++ (codes " " ++ decimal limits.sources)))))
limits_line limits endpoints groups sources =
    let word = glyphs_of_literal (codes "limits") (search rules) in
    let first = decimal limits.endpoints in
    let next = decimal limits.groups in
    let last = decimal limits.sources in
    let later = next ++ 32 ∷ last in
    let rest = first ++ 32 ∷ later in (
      plain_two (codes "limits") rest word (plain_two first later endpoints.glyphs (plain_two next last groups.glyphs (plain_glyphs last sources.glyphs))),
      record {
        text = first;
        next = next;
        last = last;
        parts =
            fields-word (codes "limits") rest (omega arith) word
            ∙ ap (λ (more : List (List ℕ)). codes "limits" ∷ more)
            (fields-word first later endpoints.some endpoints.glyphs
            ∙ ap (λ (more : List (List ℕ)). first ∷ more) (fields-two next last groups.some groups.glyphs sources.some sources.glyphs));
        names = endpoints.names;
        names_next = groups.names;
        names_last = sources.names;
      },
    )

pub moment_said : (ms : ℕ) → ms < 2 ^ 62 → IsLineThatSays (Moment ms) (codes "at " ++ decimal ms)
moment_said ms small =
    let digits = length-decimal-le 20 ms (omega arith) (omega (arith, small)) (omega (arith, small)) in
    record { short = omega (arith, digits); says = moment_line ms small }

pub secret_said : (secret : Secret) → AreOctets secret.0 → length secret.0 ≡ 32 → IsLineThatSays (Rotate secret) (codes "secret " ++ hex_text secret.0)
secret_said secret octets whole =
    let digits = hex_length secret.0 (omega (arith, whole)) in
    record { short = omega (arith, digits); says = secret_line secret octets whole }

pub datagram_said : (from : Peer) (bytes : List ℕ) → AreOctets bytes → length bytes ≤ 65535 → IsPeerText from (peer_text from)
    → IsLineThatSays (Datagram bytes from) (codes "dg " ++ (peer_text from ++ (codes " " ++ hex_text bytes)))
datagram_said from bytes octets short names =
    let peer = peer_length from.ip from.port names.port in
    let digits = hex_length bytes short in
    let whole = length-append (peer_text from) (32 ∷ hex_text bytes) in
    record { short = omega (arith, peer, digits, whole); says = datagram_line from bytes octets short names }

pub packet_said : (bytes : List ℕ) → AreOctets bytes → length bytes ≤ 65535 → IsLineThatSays (Packet bytes) (codes "mc " ++ hex_text bytes)
packet_said bytes octets short =
    let digits = hex_length bytes short in
    record { short = omega (arith, digits); says = packet_line bytes octets short }

-- a line that says an event, with its line feed, is the event's text
pub line_of : (event : Event) → IsLineThatSays event (event_line event) → IsLineOf event (event_text event)
unfolding event_text
line_of event said = record { line = event_line event; only = lines-plain (event_line event) said.says.0; says = said }

digits : (number : ℕ) → number < 2 ^ 32 → length (decimal number) ≤ 20
digits number small = length-decimal-le 20 number (omega arith) (omega (arith, small)) (omega (arith, small))

pub limits_said : (limits : LimitsValue) → (1 ≤ limits.endpoints) × (1 ≤ limits.groups) × (1 ≤ limits.sources)
    → limits.endpoints < 2 ^ 32 → limits.groups < 2 ^ 32 → limits.sources < 2 ^ 32
    → IsLineThatSays (Limits limits) (codes "limits " ++ (decimal limits.endpoints ++ (codes " " ++ (decimal limits.groups ++ (codes " " ++ decimal limits.sources)))))
limits_said limits some few_endpoints few_groups few_sources =
    let first = digits limits.endpoints few_endpoints in
    let next = digits limits.groups few_groups in
    let last = digits limits.sources few_sources in
    let later = length-append (decimal limits.groups) (32 ∷ decimal limits.sources) in
    let whole = length-append (decimal limits.endpoints) (32 ∷ (decimal limits.groups ++ 32 ∷ decimal limits.sources)) in record {
      short = omega (arith, first, next, last, later, whole);
      says =
          limits_line limits (limit_word limits.endpoints some.0 few_endpoints) (limit_word limits.groups some.1 few_groups)
          (limit_word limits.sources some.2 few_sources);
    }

-- an event that some relay takes has a line
pub has_line : (settings : Settings) (event : Event) → IsEvent settings event → HasLine event
has_line settings (Moment ms) may = tt
has_line settings (Datagram bytes from) may = may
has_line settings (Packet bytes) may = may
has_line settings (Rotate secret) may = tt
has_line settings (Limits limits) may = (may.endpoints.0, may.groups.0, may.sources.0)
