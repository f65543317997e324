-- Views that are asked one after the other.
use Rattle.std.proofs.{Common.{◌≡◌, ◌≤◌, ℕ, ◌+◌, Bool, true, false, cond, List, [], ◌∷◌, ◌++◌, count_by, length, reverse, Result, Ok, Err, IsOk, OnOk, refl, sym, ap, subst, ◌∙◌, append_assoc, append-nil, arith, true≢false, if◌then◌else◌}, lemmas.List.{length_push, Elements.{AllZip-push, All-head, All-nil, All-push}, Sums.{sum_by_push}}}
use Rattle.endpoint_membership.specs.declared.change.Change.{Change}
use Rattle.published_table.specs.{Lists.{BeginsWith, BeginsWithEach}, Views.{seen}, declared.view.View.{View}}
use Rattle.relay_serving.{specs.Ending.{AreAsked}, proofs.Starting.{last_first}}

-- of all views, the last one first, these are still to be asked
pub record AskedSoFar (published : List Change) (all rest asked : List View) : Type 0 where
  pub done : List View
  pub all_are : reverse all ≡ done ++ reverse rest
  pub asked_are : AreAsked published done asked

pub asked_first : (published : List Change) (all asked : List View) → asked ≡ [] → AskedSoFar published all all asked
asked_first published all asked none = record {
  done = [];
  all_are = refl;
  asked_are = subst (AreAsked published []) (sym none) (record { further = tt; each = All-nil (λ view. BeginsWith (seen view) published) });
}

pub asked_more : (published : List Change) (all rest fewer asked more : List View) (one other : View) → AskedSoFar published all rest asked
    → rest ≡ fewer ++ one ∷ [] → more ≡ asked ++ other ∷ [] → BeginsWith (seen other) (seen one) → BeginsWith (seen other) published → AskedSoFar published all fewer more
asked_more published all rest fewer asked more one other so_far is long further reached = record {
  done = so_far.done ++ one ∷ [];
  all_are = so_far.all_are ∙ ap (λ (list : List View). so_far.done ++ list) (last_first rest fewer one is) ∙ sym (append_assoc so_far.done (one ∷ []) (reverse fewer));
  asked_are = subst (AreAsked published (so_far.done ++ one ∷ [])) (sym long) (record {
    further = AllZip-push (λ one other. BeginsWith (seen other) (seen one)) so_far.done asked one other so_far.asked_are.further further;
    each = All-push (λ view. BeginsWith (seen view) published) asked other so_far.asked_are.each reached;
  });
}

pub asked_all : (published : List Change) (all rest asked : List View) → AskedSoFar published all rest asked → rest ≡ [] → AreAsked published (reverse all) asked
asked_all published all rest asked so_far none =
    subst (λ (list : List View). AreAsked published list asked)
    (sym (so_far.all_are ∙ ap (λ (list : List View). so_far.done ++ reverse list) none ∙ append-nil so_far.done)) so_far.asked_are

-- the list without the last one that was taken out
pub one_fewer : {A : Type 0} (before after : List A) (one : A) → before ≡ after ++ one ∷ [] → length before ≡ length after + 1
one_fewer before after one is = ap length is ∙ length_push after one

pub of_ok : {T E P : Type 0} (result : Result T E) → IsOk result → OnOk result P → P
of_ok (Ok value) ok holds = holds
of_ok (Err fault) ok holds = absurd (true≢false (sym ok))

-- how many pass, with one more
pub counted_more : {A : Type 0} (test : A → Bool) (list longer : List A) (one : A) (passes : Bool) → longer ≡ list ++ one ∷ [] → test one ≡ passes
    → count_by test longer ≡ count_by test list + cond passes 1 0
counted_more test list longer one passes is same =
    ap (count_by test) is ∙ sum_by_push (λ other. cond (test other) 1 0) list one ∙ ap (λ (passed : Bool). count_by test list + cond passed 1 0) same

-- what was copied inline
pub inline_by : (inline jobs : ℕ) (threaded : Bool) → (threaded ≡ false → inline ≡ jobs) → (threaded ≡ true → inline ≡ 0) → inline ≡ (if threaded then 0 else jobs)
inline_by inline jobs true all none = none refl
inline_by inline jobs false all none = all refl

-- one at most
pub at_most_one : (passes : Bool) → cond passes 1 0 ≤ 1
at_most_one true = omega arith
at_most_one false = omega arith

-- what was told last is reached
pub reached_by : (log named published : List Change) (told others : List (List Change)) → told ≡ named ∷ others → named ≡ published → BeginsWithEach log told → BeginsWith log published
reached_by log named published told others is same each =
    subst (BeginsWith log) same (All-head (BeginsWith log) named others (subst (BeginsWithEach log) is each))
