use Rattle.std.proofs.Common.{◌≡◌, None, Some, refl, sym, ◌∙◌}
use Rattle.script_lines.specs.Form.{a_peer}
use Rattle.amt_config.specs.Key.{IsUnfit}
use Rattle.amt_config.proofs.forms.PlaceTextForm.read.Goals as goal

pub returns-in-None-clause-unfit : goal.returns-in-None-clause-unfit
returns-in-None-clause-unfit c =
    let unfit : IsUnfit a_peer c.args.text.now = λ peer names.
    let both : None ≡ Some peer = sym c.in-None.is ∙ c.parse_peer.ensures.only peer names in (cc) in
    (unfit, refl)
