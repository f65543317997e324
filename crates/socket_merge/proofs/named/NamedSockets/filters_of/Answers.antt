use Rattle.std.proofs.{Common.{◌≡◌, ℕ, ◌+◌, ◌<◌, List, [], ◌∷◌, ◌++◌, cond, filter, get_or, length, map, take, sym, ap, ◌∙◌, arith}, lemmas.List.{map-append, Elements.{filter_more}}}
use Rattle.amt_values.specs.declared.address.Ip.{Ip}
use Rattle.source_filter.specs.Filter.{FilterValue}
use Rattle.socket_merge.specs.{History.{Socket}, Interface.{filters_on, same_group}}
use Rattle.socket_merge.proofs.named.NamedSockets.filters_of.Goals as goal

-- the filters of one socket more
next_filters : (group : Ip) (socket : Socket) (sockets : List Socket) (i : ℕ) → i < length sockets → socket ≡ get_or sockets i socket
    → filters_on group (take (i + 1) sockets) ≡ filters_on group (take i sockets) ++ filters_on group (socket ∷ [])
next_filters group socket sockets i within here =
    let passes = λ (one : Socket). same_group group one.group in
    let read = λ (one : Socket). one.filter in
    ap (map read) (filter_more passes sockets i socket within)
    ∙ map-append read (filter passes (take i sockets)) (cond (passes (get_or sockets i socket)) (get_or sockets i socket ∷ []) [])
    ∙ ap (λ (one : Socket). filters_on group (take i sockets) ++ filters_on group (one ∷ [])) (sym here)

pub loop-socket-preserved : goal.loop-socket-preserved
loop-socket-preserved c =
    c.in_ok-push_filter.ensures ∙ ap (λ (filters : List FilterValue). filters ++ filters_on c.args.group.now (c.socket-item.result ∷ [])) c.loop-socket.invariant
    ∙ sym (next_filters c.args.group.now c.socket-item.result c.as_slice-socket-items.result.now c.loop-socket.socket-index (omega arith) c.socket-item.is)
