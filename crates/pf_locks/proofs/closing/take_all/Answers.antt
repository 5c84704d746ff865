use Rattle.std.proofs.Common.{◌≡◌, ℕ, suc, ◌+◌, ◌<◌, ◌++◌, false, List, length, sym, ap, ◌∙◌, subst, arith}
use Rattle.std.specs.Prelude.{slice_index_or, slice_set}
use Rattle.std.proofs.lemmas.List.{get_or-set_same, get_or-set_other, length-map}
use Rattle.std.specs.Slots.{slots_counts, slots_filled, slots_items}
use mathlib.Core.Logic.{dite}
use native.Mathlib.Decide.{ℕ_discrete}
use lib.ListN.{get_elem?}
use Rattle.pf_core_model.specs.declared.sharer.Sharer.{Sharer}
use Rattle.pf_star_model.specs.Copies.{Copy}
use Rattle.pf_locks.specs.Closes.{shown_copy, copies_back, copies_under, list_at}
use Rattle.pf_locks.proofs.Taking.{under_step, under_up, list_is}
use Rattle.pf_locks.proofs.closing.take_all.Goals as goal

pub take-sharers-requires : goal.take-sharers-requires
take-sharers-requires c =
    let inv = c.loop-n.invariant in
    let n = c.loop-n.n in
    let low = c.loop-n-test.true in
    (omega (arith, low, inv.1, c.requires.many), inv.3 n (omega arith) low)

pub put_copies-requires : goal.put_copies-requires
put_copies-requires c =
    let inv = c.loop-n.invariant in
    let n = c.loop-n.n in
    let low = c.loop-n-test.true in
    let f = list_at (slots_items c.args.closed.now.slots) in
    let is : c.take-sharers.result ≡ f n = sym (list_is (slots_items c.args.closed.now.slots) n c.take-sharers.result (ap (λ l. get_elem? l n) (sym inv.0) ∙ c.take-sharers.ensures.value)) in
    let long = ap (λ (l : List Sharer). length l) is in
    let a = ap (λ (l : List Copy). length l) inv.4 in
    let b = length-map c.loop-n.list.items shown_copy in
    let s = under_step f n in
    let u = under_up f c.args.names (n + 1) (omega (arith, low)) in
    omega (arith, c.loop-n.list.ok, long, a, b, s, u, inv.5, c.requires.room)

pub loop-n-preserved : goal.loop-n-preserved
loop-n-preserved c =
    let inv = c.loop-n.invariant in
    let n = c.loop-n.n in
    let low = c.loop-n-test.true in
    let fs = slots_filled c.loop-n.closed.slots in
    let others = c.take-sharers.ensures.others in
    let counts = (slots_counts c.loop-n.closed.slots).1 in
    let near : n < length fs = omega (arith, low, inv.1, c.requires.many, counts) in
    let f = list_at (slots_items c.args.closed.now.slots) in
    let is : c.take-sharers.result ≡ f n = sym (list_is (slots_items c.args.closed.now.slots) n c.take-sharers.result (ap (λ l. get_elem? l n) (sym inv.0) ∙ c.take-sharers.ensures.value)) in (
      others.0 ∙ inv.0,
      others.2 ∙ inv.1,
      (λ k h. ap (λ l. slice_index_or l k false) others.1 ∙ dite (ℕ_discrete k n)
          (λ same. subst (λ (i : ℕ). slice_index_or (slice_set fs n false) i false ≡ false) (sym same) (get_or-set_same fs n false false near))
          (λ ne. get_or-set_other fs n k false false ne ∙ inv.2 k (omega arith))),
      (λ k h l. ap (λ l. slice_index_or l k false) others.1 ∙ get_or-set_other fs n k false false (λ e. absurd (omega arith)) ∙ inv.3 k (omega arith) l),
      c.put_copies.ensures.items ∙ ap (λ (l : List Copy). l ++ copies_back c.take-sharers.result) inv.4 ∙ ap (λ (l : List Sharer). copies_under f n ++ copies_back l) is
          ∙ ap (λ (k : ℕ). copies_under f k) (let z : suc n ≡ n + 1 = omega arith in z),
      c.put_copies.ensures.room ∙ inv.5,
    )
