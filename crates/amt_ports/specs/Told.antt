-- What a device tells of its calls, where it tells it.
use Rattle.std.specs.Prelude.{◌≡◌, List, [], ◌∷◌, ◌++◌, Option, Some, None}

-- where the device still tells its list, it is what it told before, and then these
abbrev pub AppendsAll : {X : Type 0} → Option (List X) → Option (List X) → List X → Type 0
AppendsAll before None more = Unit {0}
AppendsAll before (Some after) more = (earlier : _) × (before ≡ Some earlier) × (after ≡ earlier ++ more)

-- where the device still tells its list, there is this one more
abbrev pub Appends : {X : Type 0} → Option (List X) → Option (List X) → X → Type 0
Appends before after next = AppendsAll before after (next ∷ [])

-- the next answer, and those that come after it: after the last one the device is closed
abbrev pub next_of : {X : Type 0} → X → List X → X × List X
next_of closed [] = (closed, [])
next_of closed (answer ∷ later) = (answer, later)

-- where the device still tells its answers to come, this was the first of them
abbrev pub Answers : {X : Type 0} → X → Option (List X) → Option (List X) → X → Type 0
Answers closed before None answer = Unit {0}
Answers closed before (Some after) answer = (coming : _) × (before ≡ Some coming) × (next_of closed coming ≡ (answer, after))
