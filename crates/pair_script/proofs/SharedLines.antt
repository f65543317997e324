-- No line that begins with another word says a datagram or new limits.
use Rattle.std.proofs.Common.{◌≡◌, ℕ, List, [], ◌∷◌, ◌++◌, get_or, refl, ap, arith}
use Rattle.relay_machine.specs.declared.event.Event.TheVariants.{Datagram, Limits, Moment, Packet, Rotate}
use Rattle.amt_script.specs.{Row.{words_of}, Says.{SaysItem}, declared.{kind.Kind.{Kind}, script.RelayItem.{RelayItem, TheVariants.{Event, Show}}}}
use Rattle.amt_script.specs.declared.kind.Kind.TheVariants as kinds
use Rattle.pair_script.specs.Reading.{IsSharedItem}

-- the first octet of the first word
abbrev first_octet : List (List ℕ) → ℕ
first_octet [] = 0
first_octet (word ∷ values) = get_or word 0 0

no_datagram : (kind : Kind) (values others : List (List ℕ)) → (kind ≡ kinds.Datagram → ⊥) → words_of kind ++ values ≡ words_of kinds.Datagram ++ others → ⊥
no_datagram (kinds.Set key) values others other same = omega (arith, ap first_octet same)
no_datagram kinds.Moment values others other same = omega (arith, ap first_octet same)
no_datagram kinds.Secret values others other same = omega (arith, ap first_octet same)
no_datagram kinds.Limits values others other same = omega (arith, ap first_octet same)
no_datagram kinds.Datagram values others other same = other refl
no_datagram kinds.Packet values others other same = omega (arith, ap first_octet same)
no_datagram kinds.Show values others other same = omega (arith, ap first_octet same)

no_limits : (kind : Kind) (values others : List (List ℕ)) → (kind ≡ kinds.Limits → ⊥) → words_of kind ++ values ≡ words_of kinds.Limits ++ others → ⊥
no_limits (kinds.Set key) values others other same = omega (arith, ap first_octet same)
no_limits kinds.Moment values others other same = omega (arith, ap first_octet same)
no_limits kinds.Secret values others other same = omega (arith, ap first_octet same)
no_limits kinds.Limits values others other same = other refl
no_limits kinds.Datagram values others other same = omega (arith, ap first_octet same)
no_limits kinds.Packet values others other same = omega (arith, ap first_octet same)
no_limits kinds.Show values others other same = omega (arith, ap first_octet same)

pub is_shared : (item : RelayItem) (kind : Kind) (values : List (List ℕ)) → (kind ≡ kinds.Datagram → ⊥) → (kind ≡ kinds.Limits → ⊥)
    → SaysItem item (words_of kind ++ values) → IsSharedItem item
is_shared (Event (Moment at)) kind values datagram limits says = tt
is_shared (Event (Datagram bytes from)) kind values datagram limits says = absurd (no_datagram kind values _ datagram says.parts)
is_shared (Event (Packet bytes)) kind values datagram limits says = tt
is_shared (Event (Rotate secret)) kind values datagram limits says = tt
is_shared (Event (Limits new)) kind values datagram limits says = absurd (no_limits kind values _ limits says.parts)
is_shared Show kind values datagram limits says = tt
