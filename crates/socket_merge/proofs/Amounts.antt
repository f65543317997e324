-- Sums over sockets, and the socket of a name among the others.
use Rattle.std.{proofs.{Common.{◌≡◌, ℕ, ◌+◌, ◌≤◌, ◌<◌, zero, suc, get_or, set, Bool, true, false, not, cond, List, [], ◌∷◌, ◌++◌, length, filter, Option, Some, None, refl, sym, ap, ◌∙◌, arith}, lemmas.{List.{Elements.{All-head, All-tail, filter-append}, Filters.{sum_by-filter_both}, Sums.{get_or-le-sum_by, sum_by-append, sum_by-cons, sum_by_push}}, Slice.Eq.{bytes_eq-Decides}}}, specs.List.{All, count_by, find, sum_by}}
use Rattle.amt_values.specs.declared.address.Ip.{Ip}
use Rattle.source_filter.specs.Filter.{FilterValue}
use Rattle.socket_merge.proofs.Wanted.{same_group-itself}
use Rattle.socket_merge.specs.{History.{Change, Close, Socket, same_name, socket_named, sockets_after}, Interface.{on_group, same_group}}

sum_by-cond : {X : Type 0} (f : X → ℕ) (test : Bool) (x : X) (xs : List X) → sum_by f (cond test (x ∷ xs) xs) ≡ cond test (f x) 0 + sum_by f xs
sum_by-cond f true x xs = sum_by-cons f x xs
sum_by-cond f false x xs = omega arith

pub sum_by-filter : {X : Type 0} (f : X → ℕ) (p : X → Bool) (xs : List X) → sum_by f (filter p xs) ≡ sum_by (λ x. cond (p x) (f x) 0) xs
sum_by-filter f p [] = refl
sum_by-filter f p (x ∷ xs) = omega (arith, sum_by-cond f (p x) x (filter p xs), sum_by-filter f p xs, sum_by-cons (λ y. cond (p y) (f y) 0) x xs)

-- how many sources a socket lists
abbrev pub listing : Socket → ℕ
listing socket = length socket.filter.sources

-- what a socket adds to the sum of a group
abbrev pub part : (Socket → ℕ) → Ip → Socket → ℕ
part measure group socket = cond (same_group group socket.group) (measure socket) 0

pub sum_by-on_group : (measure : Socket → ℕ) (group : Ip) (sockets : List Socket) → sum_by measure (on_group group sockets) ≡ sum_by (part measure group) sockets
sum_by-on_group measure group sockets = sum_by-filter measure (λ socket. same_group group socket.group) sockets

-- which is all in its own
pub own_part : (measure : Socket → ℕ) (socket : Socket) → part measure socket.group socket ≡ measure socket
own_part measure socket = ap (λ (test : Bool). cond test (measure socket) 0) (same_group-itself socket.group)

-- the socket has the name
abbrev pub has_name : List ℕ → Socket → Bool
has_name name socket = same_name name socket.name

-- no two sockets have one name
abbrev pub AreApart : List Socket → Type 0
AreApart sockets = (name : List ℕ) → count_by (has_name name) sockets ≤ 1

-- the socket with the filter
abbrev pub with_filter : FilterValue → Socket → Socket
with_filter filter socket = record { name = socket.name; group = socket.group; filter = filter }

pub same_name-exact : (one other : List ℕ) → same_name one other ≡ true → one ≡ other
same_name-exact one other same = (bytes_eq-Decides one other).0 same

pub some_is : {X : Type 0} (one other : X) → Some one ≡ Some other → one ≡ other
some_is one other same = cc

none_first : {X : Type 0} (test : Bool) (x : X) (found : Option X) (rest : ℕ) → (found ≡ None → rest ≡ 0) → cond test (Some x) found ≡ None → cond test 1 0 + rest ≡ 0
none_first true x found rest after none = absurd cc
none_first false x found rest after none = omega (arith, after none)

pub none_passes : {X : Type 0} (p : X → Bool) (xs : List X) → find p xs ≡ None → count_by p xs ≡ 0
none_passes p [] none = refl
none_passes p (x ∷ xs) none = sum_by-cons (λ y. cond (p y) 1 0) x xs ∙ none_first (p x) x (find p xs) (count_by p xs) (none_passes p xs) none

apart_by : (test : Bool) (before : ℕ) → before ≤ 1 → (test ≡ true → before ≡ 0) → before + cond test 1 0 ≤ 1
apart_by true before few none = omega (arith, none refl)
apart_by false before few none = omega arith

-- one more socket, of a new name
pub AreApart-opened : (sockets : List Socket) (socket : Socket) → AreApart sockets → socket_named socket.name sockets ≡ None → AreApart (sockets ++ socket ∷ [])
AreApart-opened sockets socket apart absent name =
    let none : has_name name socket ≡ true → count_by (has_name name) sockets ≡ 0 =
    λ same. ap (λ (one : List ℕ). count_by (has_name one) sockets) (same_name-exact name socket.name same) ∙ none_passes (has_name socket.name) sockets absent in
    let within = apart_by (has_name name socket) (count_by (has_name name) sockets) (apart name) none in
    omega (arith, within, sum_by_push (λ one. cond (has_name name one) 1 0) sockets socket)

pub AreApart-filter : (test : Socket → Bool) (sockets : List Socket) → AreApart sockets → AreApart (filter test sockets)
AreApart-filter test sockets apart name = omega (arith, apart name, sum_by-filter_both test (λ one. not (test one)) (λ _. refl) (λ one. cond (has_name name one) 1 0) sockets)

-- ---- the socket of a name

-- the socket among the others, without it, and with another filter of it
pub record IsAmong (socket : Socket) (sockets closed : List Socket) (changed : FilterValue → List Socket) : Type 0 where
  pub before : List Socket
  pub after : List Socket
  pub whole : sockets ≡ before ++ socket ∷ after
  pub rest : closed ≡ before ++ after
  pub again : (filter : FilterValue) → changed filter ≡ before ++ with_filter filter socket ∷ after

-- the socket of the name, without it, and with another filter of it
abbrev pub HasName : List ℕ → Socket → List Socket → Type 0
HasName name socket sockets = IsAmong socket sockets (sockets_after (Close name) sockets) (λ filter. sockets_after (Change name filter) sockets)

-- where no socket has the name, all stay
pub record AreSame (sockets closed : List Socket) (changed : FilterValue → List Socket) : Type 0 where
  pub rest : closed ≡ sockets
  pub again : (filter : FilterValue) → changed filter ≡ sockets

same_by : (test : Bool) (first : Socket) (more closed : List Socket) (changed : FilterValue → List Socket) (number : ℕ) → (number ≡ 0 → AreSame more closed changed) → cond test 1 0 + number ≡ 0
    → AreSame (first ∷ more) (cond (not test) (first ∷ closed) closed) (λ filter. cond test (with_filter filter first) first ∷ changed filter)
same_by true first more closed changed number same none = absurd (omega arith)
same_by false first more closed changed number same none =
    let is = same (omega arith) in record { rest = ap (λ sockets. first ∷ sockets) is.rest; again = λ filter. ap (λ sockets. first ∷ sockets) (is.again filter) }

pub unnamed : (name : List ℕ) (sockets : List Socket) → count_by (has_name name) sockets ≡ 0
    → AreSame sockets (sockets_after (Close name) sockets) (λ filter. sockets_after (Change name filter) sockets)
unnamed name [] none = record { rest = refl; again = λ filter. refl }
unnamed name (first ∷ more) none =
    same_by (has_name name first) first more (sockets_after (Close name) more) (λ filter. sockets_after (Change name filter) more) (count_by (has_name name) more) (unnamed name more)
    (sym (sum_by-cons (λ one. cond (has_name name one) 1 0) first more) ∙ none)

among_by : (test : Bool) (first socket : Socket) (found : Option Socket) (more closed : List Socket) (changed : FilterValue → List Socket) (number : ℕ) → (number ≡ 0 → AreSame more closed changed)
    → (number ≤ 1 → found ≡ Some socket → IsAmong socket more closed changed) → cond test 1 0 + number ≤ 1 → cond test (Some first) found ≡ Some socket
    → IsAmong socket (first ∷ more) (cond (not test) (first ∷ closed) closed) (λ filter. cond test (with_filter filter first) first ∷ changed filter)
among_by true first socket found more closed changed number same among few is =
    let rest = same (omega arith) in
    let here = some_is first socket is in
    record {
      before = [];
      after = more;
      whole = ap (λ (one : Socket). one ∷ more) here;
      rest = rest.rest;
      again = λ filter. ap (λ (one : Socket). with_filter filter one ∷ changed filter) here ∙ ap (λ (sockets : List Socket). with_filter filter socket ∷ sockets) (rest.again filter);
    }
among_by false first socket found more closed changed number same among few is =
    let later = among (omega arith) is in
    record {
      before = first ∷ later.before;
      after = later.after;
      whole = ap (λ sockets. first ∷ sockets) later.whole;
      rest = ap (λ sockets. first ∷ sockets) later.rest;
      again = λ filter. ap (λ sockets. first ∷ sockets) (later.again filter);
    }

pub HasName-of : (name : List ℕ) (socket : Socket) (sockets : List Socket) → count_by (has_name name) sockets ≤ 1 → socket_named name sockets ≡ Some socket → HasName name socket sockets
HasName-of name socket [] few is = absurd cc
HasName-of name socket (first ∷ more) few is =
    among_by (has_name name first) first socket (socket_named name more) more (sockets_after (Close name) more) (λ filter. sockets_after (Change name filter) more) (count_by (has_name name) more) (unnamed name more)
    (HasName-of name socket more) (omega (arith, few, sum_by-cons (λ one. cond (has_name name one) 1 0) first more)) is

pub none_named : (name : List ℕ) (sockets : List Socket) → All (λ one. has_name name one ≡ false) sockets → count_by (has_name name) sockets ≡ 0
none_named name [] all = refl
none_named name (first ∷ more) all =
    let off = ap {B = ℕ} (λ (test : Bool). cond test 1 0) (All-head (λ one. has_name name one ≡ false) first more all) in
    omega (arith, off, sum_by-cons (λ one. cond (has_name name one) 1 0) first more, none_named name more (All-tail (λ one. has_name name one ≡ false) first more all))

off_by : (test : Bool) (number : ℕ) → 1 ≤ number → cond test 1 0 + number ≤ 1 → test ≡ false
off_by true number some few = absurd (omega arith)
off_by false number some few = refl

-- another filter of the socket at a place, where it is the only one of its name
pub refiltered-at : (name : List ℕ) (filter : FilterValue) (sockets : List Socket) (place : ℕ) (d : Socket) → place < length sockets → has_name name (get_or sockets place d) ≡ true
    → count_by (has_name name) sockets ≤ 1 → set sockets place (with_filter filter (get_or sockets place d)) ≡ sockets_after (Change name filter) sockets
refiltered-at name filter [] place d within is few = absurd (omega arith)
refiltered-at name filter (first ∷ more) zero d within is few =
    let one = ap {B = ℕ} (λ (test : Bool). cond test 1 0) is in
    let rest = (unnamed name more (omega (arith, few, one, sum_by-cons (λ each. cond (has_name name each) 1 0) first more))).again filter in
    rw is (ap (λ sockets. with_filter filter first ∷ sockets) (sym rest))
refiltered-at name filter (first ∷ more) (suc place) d within is few =
    let one = ap {B = ℕ} (λ (test : Bool). cond test 1 0) is in
    let later = get_or-le-sum_by (λ each. cond (has_name name each) 1 0) more place d (omega arith) in
    let count = sum_by-cons (λ each. cond (has_name name each) 1 0) first more in
    let off = off_by (has_name name first) (count_by (has_name name) more) (omega arith) (omega arith) in
    rw off (ap (λ sockets. first ∷ sockets) (refiltered-at name filter more place d (omega arith) is (omega arith)))

module _ (name : List ℕ) (socket : Socket) (sockets : List Socket) (is : HasName name socket sockets) where
  abbrev closed : List Socket
  closed = sockets_after (Close name) sockets

  abbrev changed : FilterValue → List Socket
  changed filter = sockets_after (Change name filter) sockets

  with-sum : (measure : Socket → ℕ) (all : List Socket) (one : Socket) → all ≡ is.before ++ one ∷ is.after → sum_by measure all ≡ sum_by measure closed + measure one
  with-sum measure all one whole =
      let split = ap (sum_by measure) whole in
      let rest = ap (sum_by measure) is.rest in
      omega (arith, split, rest, sum_by-append measure is.before (one ∷ is.after), sum_by-append measure is.before is.after, sum_by-cons measure one is.after)

  -- a sum without the socket, and with another filter of it
  pub sum-closed : (measure : Socket → ℕ) → sum_by measure sockets ≡ sum_by measure closed + measure socket
  sum-closed measure = with-sum measure sockets socket is.whole

  pub sum-changed : (measure : Socket → ℕ) (filter : FilterValue) → sum_by measure (changed filter) ≡ sum_by measure closed + measure (with_filter filter socket)
  sum-changed measure filter = with-sum measure (changed filter) (with_filter filter socket) (is.again filter)

  pub AreApart-changed : (filter : FilterValue) → AreApart sockets → AreApart (changed filter)
  AreApart-changed filter apart other = omega (arith, apart other, sum-closed (λ one. cond (has_name other one) 1 0), sum-changed (λ one. cond (has_name other one) 1 0) filter)

  without : (other : Ip) (one : Socket) → same_group other one.group ≡ false → on_group other (is.before ++ one ∷ is.after) ≡ on_group other closed
  without other one apart =
      let here : Socket → Bool = λ each. same_group other each.group in
      filter-append here is.before (one ∷ is.after)
      ∙ ap (λ (test : Bool). on_group other is.before ++ cond test (one ∷ on_group other is.after) (on_group other is.after)) apart
      ∙ sym (filter-append here is.before is.after) ∙ ap (on_group other) (sym is.rest)

  -- the other groups have the sockets that they had
  pub kept-closed : (other : Ip) → same_group other socket.group ≡ false → on_group other closed ≡ on_group other sockets
  kept-closed other apart = sym (ap (on_group other) is.whole ∙ without other socket apart)

  pub kept-changed : (filter : FilterValue) (other : Ip) → same_group other socket.group ≡ false → on_group other (changed filter) ≡ on_group other sockets
  kept-changed filter other apart =
      ap (on_group other) (is.again filter) ∙ without other (with_filter filter socket) apart ∙ kept-closed other apart
