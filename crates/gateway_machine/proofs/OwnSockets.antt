-- The sockets of a gateway, whose groups are of its family.
use Rattle.std.{proofs.{Common.{◌≡◌, ℕ, Bool, true, List, [], ◌∷◌, Option, Some, subst}, lemmas.{Bool.{cond_both}, List.Elements.{All-head, All-tail}}}, specs.{List.{All, find}, Prelude.{IfSome}}}
use Rattle.source_filter.specs.Filter.{FilterValue}
use Rattle.group_records.specs.{declared.family.Family.{Family}, Written.{is_of_family}}
use Rattle.socket_merge.{specs.{History.{same_name, socket_named}, declared.stored.Socket.{Socket}, Sockets.{AreOfGroup}}, proofs.RawOctets.{family_is}}

-- the socket's group is of this family
abbrev IsOf : Family → Socket → Type 0
IsOf family socket = is_of_family family socket.group ≡ true

-- what holds of all sockets holds of the one that is found
found-all : (P : Socket → Type 0) (test : Socket → Bool) (sockets : List Socket) → All P sockets → IfSome (find test sockets) P
found-all P test [] all = tt
found-all P test (first ∷ more) all =
    cond_both (test first) (Some first) (find test more) (λ found. IfSome found P) (λ _. All-head P first more all) (λ _. found-all P test more (All-tail P first more all))

-- a filter of the family's sources is one for the socket of any name
pub filter-of_socket : (family : Family) (name : List ℕ) (sockets : List Socket) (filter : FilterValue) → All (IsOf family) sockets
    → All (λ source. is_of_family family source ≡ true) filter.sources → (socket : Socket) → socket_named name sockets ≡ Some socket → AreOfGroup socket.group filter
filter-of_socket family name sockets filter are_of sources socket found =
    let named = subst (λ (named : Option Socket). IfSome named (IsOf family)) found (found-all (IsOf family) (λ one. same_name name one.name) sockets are_of) in
    let own = family_is family socket.group named in
    subst (λ (one : Family). All (λ source. is_of_family one source ≡ true) filter.sources) own sources
