use Rattle.std.proofs.Common.{◌≡◌, ℕ, Bool, not, ◌&&◌, max, List, sym, ap, subst, ◌∙◌, arith}
use Rattle.socket_merge.{specs.{FullReport.{is_empty, is_quiet}, History.{AcceptedCall, Socket, moment_read, open_sockets}, Kept.{some_recent}, Sockets.{SocketsHold, SocketsValue}}, proofs.Reports.{some_recent-is}}
use Rattle.socket_merge.proofs.sockets.Sockets.quiet.Goals as goal

pub returns-then-is_empty : goal.returns-then-is_empty
returns-then-is_empty c =
    λ (history : List AcceptedCall) holds.
    let kept = subst (λ (value : SocketsValue). SocketsHold value history) (sym c.self.view_is) holds in
    let read : c.later.result ≡ moment_read c.args.at.now history = c.later.ensures ∙ ap (λ (one : ℕ). max one c.args.at.now) kept.moment in
    ap not c.some_recent.ensures
    ∙ ap (λ (empty : Bool). empty && not (some_recent c.later.result c.args.keep_ms c.self.inside.farewells)) (sym c.if-is_empty.true ∙ c.is_empty.ensures)
    ∙ ap (λ (sockets : List Socket). is_empty sockets && not (some_recent c.later.result c.args.keep_ms c.self.inside.farewells)) kept.sockets
    ∙ ap (λ (some : Bool). is_empty (open_sockets history) && not some)
    (some_recent-is history c.self.inside.named c.self.inside.farewells c.later.result c.args.keep_ms c.self.invariant.back kept.farewells (omega (arith, read)))
    ∙ ap (λ (at : ℕ). is_quiet history at c.args.keep_ms) read
