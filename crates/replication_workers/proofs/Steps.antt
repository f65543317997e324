-- Each step keeps the rule of the queue.
use Rattle.std.proofs.Common.{◌≡◌, ◌≢◌, ℕ, zero, suc, ◌≤◌, ◌^◌, true, true≢false, List, [], ◌∷◌, ◌++◌, length, set, refl, sym, ap, subst, ◌∙◌, ⊎_elim, append_assoc, arith, length-append}
use mathlib.Core.Option.{some, some-ne-none}
use lib.ListN.{get_elem?}
use Rattle.crossbeam_channel.specs.Fifo.{Forks, Learns, Merges, Pops, Pushes}
use Rattle.atomic_table.proofs.Lists.{at_set, at_snoc}
use Rattle.published_table.specs.declared.view.View.{View}
use Rattle.replication_workers.{proofs.Queues.{jobs_of-append, of_home-first, of_home-later}, specs.{Queue.{AddsUp, AreOfHome, FitsEnd, HasTaken, IsLawful, MayPut, QueueRule, StopIsLast, home_after, jobs_of, joined_end, putting_end, spent_end, taking_end, whole_end, with_put, with_taken}, declared.{job.Job.{Job}, queue.{End.{End}, Item.{Item}}}}}

abbrev Holds : List Item → List End → Type 0
Holds items ends = QueueRule items ends

at_end : (ends : List End) (last known : End) (seat : ℕ) → get_elem? ends seat ≢ some known → get_elem? (ends ++ last ∷ []) seat ≡ some known → seat ≡ length ends
at_end [] last known zero other is = refl
at_end [] last known (suc seat) other is = absurd (some-ne-none known (sym is))
at_end (one ∷ ends) last known zero other is = absurd (other is)
at_end (one ∷ ends) last known (suc seat) other is = ap suc (at_end ends last known seat other is)

abbrev Each : (ℕ → End → Type 0) → List End → Type 0
Each F ends = (seat : ℕ) (known : End) → get_elem? ends seat ≡ some known → F seat known

each_set : (F : ℕ → End → Type 0) (ends : List End) (seat : ℕ) (mine : End) → F seat mine → ((other : ℕ) (known : End) → other ≢ seat → get_elem? ends other ≡ some known → F other known) → Each F (set ends seat mine)
each_set F ends seat mine here others other known is =
    ⊎_elim (λ (same : (other ≡ seat) × (mine ≡ known)). subst (λ (pair : ℕ × End). F pair.0 pair.1) (λ i. (sym same.0 i, same.1 i)) here)
    (λ (apart : (other ≢ seat) × (get_elem? ends other ≡ some known)). others other known apart.0 apart.1) (at_set ends seat other mine known is)

pub begins : QueueRule [] (whole_end ∷ [])
begins = record {
  putter = 0;
  taker = 0;
  home = [];
  put = [];
  taken = [];
  in_order = refl;
  lawful = record { few = omega arith; last = tt; of_home = tt };
  each = each_set (FitsEnd 0 0 [] [] []) (whole_end ∷ []) 0 whole_end (record { putting = λ _. (refl, refl, refl); taking = λ _. (refl, refl, refl) }) (λ seat known other is. absurd (other (at_end [] _ known seat (λ none. some-ne-none known (sym none)) is)));
}

pub puts : (places port : ℕ) (known : End) (item : Item) → MayPut known item → Pushes Holds places port known item (λ after. after ≡ with_put known item)
puts places port known item may items ends _ rule at =
    let mine = rule.each port known at in
    let here = mine.putting may.puts in
    let after : End = with_put known item in
    let home : List View = home_after known.home item in
    let all : known.put ++ item ∷ [] ≡ rule.put ++ item ∷ [] = ap (λ (list : List Item). list ++ item ∷ []) here.2 in (
      after,
      record {
        putter = rule.putter;
        taker = rule.taker;
        home = home;
        put = rule.put ++ item ∷ [];
        taken = rule.taken;
        in_order = ap (λ (list : List Item). list ++ item ∷ []) rule.in_order ∙ append_assoc rule.taken items (item ∷ []);
        lawful = subst (IsLawful home) all (may.lawful (subst (λ (of : List View × List Item). IsLawful of.0 of.1) (λ i. (sym here.1 i, sym here.2 i)) rule.lawful));
        each = each_set (FitsEnd rule.putter rule.taker home (rule.put ++ item ∷ []) rule.taken) ends port after
            (record { putting = λ _. (here.0, refl, all); taking = λ also. ((mine.taking also).0, refl, (mine.taking also).2) })
            (λ other one apart is.
            let theirs = rule.each other one is in
            record {
              putting = λ also. absurd (apart ((theirs.putting also).0 ∙ sym here.0));
              taking = λ also.
                  let its = theirs.taking also in
                  (its.0, its.1 ∙ ⊎_elim (λ same. sym (same ∙ here.1)) (λ takes. absurd (apart (its.0 ∙ sym (mine.taking takes).0))) may.alone, its.2);
            });
      },
      refl,
    )

few_taken : (taken put items : List Item) (item : Item) → put ≡ taken ++ item ∷ items → length (jobs_of put) ≤ 2 ^ 46 → length (jobs_of (taken ++ item ∷ [])) ≤ 2 ^ 46
few_taken taken put items item is few =
    let split : taken ++ item ∷ items ≡ (taken ++ item ∷ []) ++ items = sym (append_assoc taken (item ∷ []) items) in
    let all : length (jobs_of put) ≡ length (jobs_of (taken ++ item ∷ []) ++ jobs_of items) = ap (λ (list : List Item). length (jobs_of list)) (is ∙ split) ∙ ap (λ (jobs : List Job). length jobs) (jobs_of-append (taken ++ item ∷ []) items) in
    omega (arith, few, all, length-append (jobs_of (taken ++ item ∷ [])) (jobs_of items))

of_home_taken : (home : List View) (taken put items : List Item) (item : Item) → put ≡ taken ++ item ∷ items → AreOfHome home (jobs_of put) → AreOfHome home (jobs_of (item ∷ []))
of_home_taken home taken put items item is all =
    let now = subst (AreOfHome home) (ap jobs_of is ∙ jobs_of-append taken (item ∷ items)) all in
    let later = of_home-later home (jobs_of taken) (jobs_of (item ∷ items)) now in
    of_home-first home (jobs_of (item ∷ [])) (jobs_of items) (subst (AreOfHome home) (jobs_of-append (item ∷ []) items) later)

pub takes : (port : ℕ) (known : End) → known.takes ≡ true → Pops Holds port known (λ item after. HasTaken known item after)
takes port known may item items ends rule at =
    let mine = rule.each port known at in
    let here = mine.taking may in
    let after : End = with_taken known item in
    let taken = rule.taken ++ item ∷ [] in
    let same : known.taken ++ item ∷ [] ≡ taken = ap (λ (list : List Item). list ++ item ∷ []) here.2 in (
      after,
      record {
        putter = rule.putter;
        taker = rule.taker;
        home = rule.home;
        put = rule.put;
        taken = taken;
        in_order = rule.in_order ∙ sym (append_assoc rule.taken (item ∷ []) items);
        lawful = rule.lawful;
        each = each_set (FitsEnd rule.putter rule.taker rule.home rule.put taken) ends port after
            (record { putting = mine.putting; taking = λ _. (here.0, here.1, same) })
            (λ other one apart is. record {
              putting = (rule.each other one is).putting;
              taking = λ also. absurd (apart (((rule.each other one is).taking also).0 ∙ sym here.0));
            });
      },
      record {
        after_is = refl;
        few = subst (λ (list : List Item). length (jobs_of list) ≤ 2 ^ 46) (sym same) (few_taken rule.taken rule.put items item rule.in_order rule.lawful.few);
        of_home = subst (λ (home : List View). AreOfHome home (jobs_of (item ∷ []))) (sym here.1) (of_home_taken rule.home rule.taken rule.put items item rule.in_order rule.lawful.of_home);
      },
    )

pub forks : (port : ℕ) (known : End) → known.puts ≡ true → known.takes ≡ true → Forks Holds port known (putting_end known) (taking_end known)
forks port known may_put may_take items ends rule at =
    let mine = rule.each port known at in
    let left : End = putting_end known in
    let right : End = taking_end known in
    let now = set ends port left in
    let puts = mine.putting may_put in
    let takes = mine.taking may_take in
    let Old : ℕ → End → Type 0 = λ seat one. (one.puts ≡ true → (seat ≡ rule.putter) × (one.home ≡ rule.home) × (one.put ≡ rule.put)) × (one.takes ≢ true) in
    let old : Each Old now = each_set Old ends port left ((λ _. puts), λ also. true≢false (sym also))
    (λ other one apart is. ((rule.each other one is).putting, λ also. apart (((rule.each other one is).taking also).0 ∙ sym takes.0))) in
    record {
      putter = rule.putter;
      taker = length now;
      home = rule.home;
      put = rule.put;
      taken = rule.taken;
      in_order = rule.in_order;
      lawful = rule.lawful;
      each = λ seat one is. ⊎_elim
          (λ was. record { putting = (old seat one was).0; taking = λ also. absurd ((old seat one was).1 also) })
          (λ (new : right ≡ one). record {
            putting = λ also. absurd (true≢false (sym (ap (λ (end : End). end.puts) new ∙ also)));
            taking = λ also. (
              at_end now right one seat (λ was. (old seat one was).1 also) is,
              ap (λ (end : End). end.home) (sym new) ∙ takes.1,
              ap (λ (end : End). end.taken) (sym new) ∙ takes.2,
            );
          })
          (at_snoc now right one seat is);
    }

pub merges : (port : ℕ) (known : End) (other : ℕ) (theirs : End) → known.puts ≡ true → theirs.takes ≡ true → Merges Holds port known other theirs (joined_end known theirs) spent_end
merges port known other theirs may_put may_take items ends rule at apart at_other =
    let both : End = joined_end known theirs in
    let puts = (rule.each port known at).putting may_put in
    let now = set ends port both in
    let was : get_elem? ends other ≡ some theirs = ⊎_elim (λ same. absurd (apart same.0)) (λ found. found.1) (at_set ends port other both theirs at_other) in
    let takes = (rule.each other theirs was).taking may_take in
    let Fits : ℕ → End → Type 0 = FitsEnd rule.putter port rule.home rule.put rule.taken in
    let Now : ℕ → End → Type 0 = λ seat one. seat ≢ other → Fits seat one in
    let each : Each Now now = each_set Now ends port both
    (λ _. record { putting = λ _. puts; taking = λ _. (refl, puts.1, takes.2) })
    (λ seat one _ is away. record { putting = (rule.each seat one is).putting; taking = λ also. absurd (away (((rule.each seat one is).taking also).0 ∙ sym takes.0)) }) in
    record {
      putter = rule.putter;
      taker = port;
      home = rule.home;
      put = rule.put;
      taken = rule.taken;
      in_order = rule.in_order;
      lawful = rule.lawful;
      each = each_set Fits now other spent_end (record { putting = λ also. absurd (true≢false (sym also)); taking = λ also. absurd (true≢false (sym also)) }) (λ seat one away is. each seat one is away);
    }

pub totals : (port : ℕ) (known : End) → known.puts ≡ true → known.takes ≡ true → Learns Holds port known (λ items. AddsUp known items)
totals port known may_put may_take items ends rule at =
    let mine = rule.each port known at in
    let puts = mine.putting may_put in (
      puts.2 ∙ rule.in_order ∙ ap (λ (list : List Item). list ++ items) (sym (mine.taking may_take).2),
      subst StopIsLast (sym puts.2) rule.lawful.last,
    )
