-- What is written of a run, and of a settings file with a fault.
use Rattle.std.specs.Prelude.{ℕ, List, [], ◌∷◌, ◌++◌, codes}
use Rattle.amt_config.specs.declared.fault.ConfigFault.{ConfigFault}
use Rattle.amt_config.specs.declared.fault.ConfigFault.TheVariants as faults
use Rattle.amt_ports.specs.declared.end.End.{End, TheVariants.{Turns, Closed}}

-- all turns were done, or a device that is heard was closed
abbrev pub IsDone : End → Type 0
IsDone Turns = Unit {0}
IsDone Closed = Unit {0}
IsDone end = ⊥

-- the word of such an end
abbrev pub end_word : End → List ℕ
end_word Turns = codes "turns"
end_word end = codes "closed"

-- how each report begins: `end turns` or `end closed`
abbrev pub end_text : End → List ℕ
end_text end = codes "end " ++ (end_word end ++ (10 ∷ []))

-- `amt: settings: FAULT KEY`
abbrev pub key_line : List ℕ → List ℕ → List ℕ
key_line word key = codes "amt: settings: " ++ (word ++ (codes " " ++ (key ++ (10 ∷ []))))

-- the line of a settings file's fault; octets that are no table have no key, and out of memory there is no line
unfoldable pub settings_line : ConfigFault → List ℕ
settings_line faults.NotToml = codes "amt: settings: toml" ++ (10 ∷ [])
settings_line (faults.Unknown key) = key_line (codes "unknown") key
settings_line (faults.Missing key) = key_line (codes "missing") key
settings_line (faults.Kind key) = key_line (codes "kind") key
settings_line (faults.Address key) = key_line (codes "address") key
settings_line (faults.Range key) = key_line (codes "range") key
settings_line (faults.Loopback key) = key_line (codes "loopback") key
settings_line faults.Memory = []
