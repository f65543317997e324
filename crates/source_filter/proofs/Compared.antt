-- The derived order and equality of addresses are those of the definitions.
use Rattle.std.{proofs.Common.{◌≡◌, refl}, specs.{Cmp.{unsigned_ties}, Ordering.{eq_by_cmp}}}
use Rattle.amt_values.specs.contracts.address.IpOrd as ord
use Rattle.amt_values.specs.contracts.address.IpPartialEq as eq
use Rattle.amt_values.specs.{declared.address.Ip.{Ip, TheVariants.{V4, V6}}, Order.{ip_order}}

compared_at : (x y : Ip) → (ord.TheImpl.ghosts).cmp x y ≡ ip_order x y
compared_at (V4 a) (V4 b) = refl
compared_at (V4 a) (V6 b) = refl
compared_at (V6 a) (V4 b) = refl
compared_at (V6 a) (V6 b) = refl

pub compared : (ord.TheImpl.ghosts).cmp ≡ ip_order
compared = λ i x y. compared_at x y i

pub tied : (x y : Ip) → (eq.TheImpl.ghosts).eq x y ≡ eq_by_cmp ip_order x y
tied (V4 a) (V4 b) = unsigned_ties a b
tied (V4 a) (V6 b) = refl
tied (V6 a) (V4 b) = refl
tied (V6 a) (V6 b) = unsigned_ties a b
