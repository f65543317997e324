use Rattle.gateway_script.proofs.outcome_text.append_outcome.Goals as goal

pub returns-in-Discovering : goal.returns-in-Discovering
returns-in-Discovering c = rw (c.in-Discovering.is, ← c.from.ensures) c.append_numbered.ensures

pub returns-in-Requesting : goal.returns-in-Requesting
returns-in-Requesting c = rw (c.in-Requesting.is, ← c.from-in-Requesting.ensures) c.append_numbered-in-Requesting.ensures
