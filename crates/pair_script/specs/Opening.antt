-- The words that begin the lines of a pair's script, and the names that a gateway may have.
use Rattle.std.specs.Prelude.{◌≢◌, ℕ, List, codes}
use Rattle.script_lines.specs.Form.{IsName}
use Rattle.pair_script.specs.declared.opening.Opening.{Opening}
use Rattle.pair_script.specs.declared.opening.Opening.TheVariants as openings

-- the word that begins such a line
abbrev pub opening_word : Opening → List ℕ
opening_word openings.Set = codes "set"
opening_word openings.Gateway = codes "gateway"
opening_word openings.Moment = codes "at"
opening_word openings.Secret = codes "secret"
opening_word openings.Packet = codes "mc"
opening_word openings.Show = codes "show"
opening_word openings.Up = codes "up"
opening_word openings.Down = codes "down"

-- it begins a line that says what happens next or what is shown, and gives no setting and no gateway
abbrev pub IsItemOpening : Opening → Type 0
IsItemOpening openings.Set = ⊥
IsItemOpening openings.Gateway = ⊥
IsItemOpening opening = Unit {0}

-- the word begins no such line
abbrev pub IsFree : List ℕ → Type 0
IsFree word = (opening : Opening) → word ≢ opening_word opening

-- a name that a gateway may have
pub record IsGatewayName (name : List ℕ) : Type 0 where
  pub name_is : IsName name
  pub free : IsFree name
