use Rattle.std.proofs.Common.{◌≡◌, ℕ, suc, ◌+◌, ◌<◌, ◌++◌, false, List, length, sym, ap, ◌∙◌, subst, arith}
use Rattle.std.specs.Prelude.{slice_index_or, slice_set}
use Rattle.std.proofs.lemmas.List.{get_or-set_same, get_or-set_other}
use Rattle.std.specs.Slots.{slots_counts, slots_filled, slots_items}
use mathlib.Core.Logic.{dite}
use native.Mathlib.Decide.{ℕ_discrete}
use lib.ListN.{get_elem?}
use Rattle.pf_model.specs.declared.Site.{Site}
use Rattle.pf_model.specs.declared.Tri.{Tri}
use Rattle.pf_core_model.specs.declared.sharer.Sharer.{Sharer}
use Rattle.pf_core_model.specs.Sharers.{kept_in}
use Rattle.pf_locks.specs.Closes.{list_at}
use Rattle.pf_locks.specs.Ends.{sites_at, tris_at, under, kept_at}
use Rattle.pf_locks.proofs.Taking.{list_is}
use Rattle.pf_locks.proofs.ending.take_nodes.Goals as goal

pub take-sharers-requires : goal.take-sharers-requires
take-sharers-requires c =
    let inv = c.loop-n.invariant in
    let n = c.loop-n.n in
    let low = c.loop-n-test.true in
    (omega (arith, low, inv.1, c.requires.many), inv.3 n (omega arith) low)

pub loop-n-preserved : goal.loop-n-preserved
loop-n-preserved c =
    let inv = c.loop-n.invariant in
    let n = c.loop-n.n in
    let low = c.loop-n-test.true in
    let fs = slots_filled c.loop-n.closed.slots in
    let others = c.take-sharers.ensures.others in
    let counts = (slots_counts c.loop-n.closed.slots).1 in
    let near : n < length fs = omega (arith, low, inv.1, c.requires.many, counts) in
    let ls = slots_items c.args.closed.now.slots in
    let next : suc n ≡ n + 1 = omega arith in
    let is : c.take-sharers.result ≡ list_at ls n = sym (list_is ls n c.take-sharers.result (ap (λ l. get_elem? l n) (sym inv.0) ∙ c.take-sharers.ensures.value)) in (
      others.0 ∙ inv.0,
      others.2 ∙ inv.1,
      (λ k h. ap (λ l. slice_index_or l k false) others.1 ∙ dite (ℕ_discrete k n)
          (λ same. subst (λ (i : ℕ). slice_index_or (slice_set fs n false) i false ≡ false) (sym same) (get_or-set_same fs n false false near))
          (λ ne. get_or-set_other fs n k false false ne ∙ inv.2 k (omega arith))),
      (λ k h l. ap (λ l. slice_index_or l k false) others.1 ∙ get_or-set_other fs n k false false (λ e. absurd (omega arith)) ∙ inv.3 k (omega arith) l),
      (λ t. c.put_node-enough.ensures.sites t ∙ ap (λ (l : List Site). l ++ sites_at (kept_in c.take-sharers.result)) (inv.4 (c.put_node-enough.ensures.enough t))
          ∙ ap (λ (l : List Sharer). under (λ k. sites_at (kept_at ls k)) n ++ sites_at (kept_in l)) is ∙ ap (λ (k : ℕ). under (λ i. sites_at (kept_at ls i)) k) next),
      (λ t. c.put_node-enough.ensures.tris t ∙ ap (λ (l : List Tri). l ++ tris_at (kept_in c.take-sharers.result)) (inv.5 (c.put_node-enough.ensures.enough t))
          ∙ ap (λ (l : List Sharer). under (λ k. tris_at (kept_at ls k)) n ++ tris_at (kept_in l)) is ∙ ap (λ (k : ℕ). under (λ i. tris_at (kept_at ls i)) k) next),
    )
