-- What is drawn for a secret.
use Rattle.std.specs.Prelude.{◌≡◌, ℕ, ◌<◌, List, length, Option, Result, Ok, Err}
use Rattle.amt_ports.specs.{Told.{AppendsAll}, declared.fault.Failed.{Failed}}
use Rattle.response_mac.specs.declared.secret.Secret.{Secret}
use Rattle.relay_serving.specs.Events.{secret_by}

-- these words were drawn: all four of the answer, or fewer
abbrev pub AreDrawn : Result (List ℕ) Failed → List ℕ → Type 0
AreDrawn (Ok four) words = (words ≡ four) × (length words ≡ 4)
AreDrawn (Err failed) words = length words < 4

pub record HasDrawn (before after : Option (List ℕ)) (result : Result (List ℕ) Failed) : Type 0 where
  pub words : List ℕ
  pub given : AppendsAll before after words
  pub are : AreDrawn result words

-- the secret is of four words, or fewer were drawn
abbrev pub IsDrawn : Result Secret Failed → List ℕ → Type 0
IsDrawn (Ok secret) words = (secret ≡ secret_by words) × (length words ≡ 4)
IsDrawn (Err failed) words = length words < 4

pub record DrawsSecret (before after : Option (List ℕ)) (result : Result Secret Failed) : Type 0 where
  pub words : List ℕ
  pub given : AppendsAll before after words
  pub are : IsDrawn result words
