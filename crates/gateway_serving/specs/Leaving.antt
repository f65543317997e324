-- Whether all sockets leave their groups at the end of a run.
use Rattle.std.specs.Prelude.{ℕ, Bool, true, false}

-- nobody asked for that; they did; or memory refused it
pub data Leaving : Type 0 where
  Stayed : Leaving
  AllLeft : Leaving
  LeaveRefused : Leaving

-- so it may be where somebody asked for it, or nobody did
abbrev pub IsLeaving : Bool → Leaving → Type 0
IsLeaving true Stayed = ⊥
IsLeaving true AllLeft = Unit {0}
IsLeaving true LeaveRefused = Unit {0}
IsLeaving false Stayed = Unit {0}
IsLeaving false AllLeft = ⊥
IsLeaving false LeaveRefused = ⊥

abbrev pub refused_leave : Leaving → ℕ
refused_leave Stayed = 0
refused_leave AllLeft = 0
refused_leave LeaveRefused = 1
