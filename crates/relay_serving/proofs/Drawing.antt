-- What the words drawn so far are.
use Rattle.std.proofs.Common.{◌≡◌, ℕ, List, Option, Err, ◌<◌, length, sym, subst}
use Rattle.amt_ports.specs.{Told.{AppendsAll}, declared.fault.Failed.{Failed}}
use Rattle.relay_serving.specs.Drawing.{HasDrawn}

-- after these words none could be drawn
pub HasDrawn-fewer : (before now after : Option (List ℕ)) (words : List ℕ) (failed : Failed) → AppendsAll before now words → after ≡ now → length words < 4
    → HasDrawn before after (Err failed)
HasDrawn-fewer before now after words failed given kept few = record {
  words = words;
  given = subst (λ (told : Option (List ℕ)). AppendsAll before told words) (sym kept) given;
  are = few;
}
