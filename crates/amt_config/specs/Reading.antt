-- What the readers of files answer. No public contract says these words.
use Rattle.std.specs.Prelude.{◌≡◌, ◌⊎◌, List, codes}
use Rattle.socket_merge.specs.History.{AcceptedCall}
use Rattle.toml.specs.Data.{Members}
use Rattle.amt_config.specs.{declared.{config.Join.{Join}, fault.ConfigFault.{ConfigFault}}, Join.{MayOpen}, Key.{IsRight, Key}, Table.{FirstOf, IsFaultOf}}
use Rattle.amt_config.specs.declared.fault.ConfigFault.TheVariants as faults

-- the fault of a key, or out of memory
pub record MayFail (table : Members) (key : Key) (fault : ConfigFault) : Type 0 where
  pub is : IsFaultOf table key fault ⊎ (fault ≡ faults.Memory)

-- the same of the first of the keys that has a fault; where none has, this fault, or out of memory
abbrev pub MayFailFirst : List Key → Members → Type 0 → ConfigFault → Type 0
MayFailFirst keys table Else fault =
    FirstOf (λ key. MayFail table key fault) (IsRight table) keys (Else ⊎ (fault ≡ faults.Memory))

-- after these calls the join's socket is refused, or memory ran out
abbrev pub IsRefusedAfter : List AcceptedCall → Join → ConfigFault → Type 0
IsRefusedAfter history join fault =
    ((MayOpen history join → ⊥) × (fault ≡ faults.Range (codes "join"))) ⊎ (fault ≡ faults.Memory)
