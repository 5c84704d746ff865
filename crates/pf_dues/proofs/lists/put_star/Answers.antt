use Rattle.std.proofs.Common.{◌≡◌, ◌<◌, ◌≤◌, ◌+◌, ◌-◌, List, ◌∷◌, ◌++◌, true, false, refl, sym, ap, ◌∙◌, set, length, take, drop, subst, suc, arith, rules}
use Rattle.std.specs.Prelude.{Option, Some, None, slice_set, insert, remove}
use Rattle.pf_model.specs.Stars.{Star}
use Rattle.pf_core_model.specs.declared.sharer.Sharer.{Sharer}
use Rattle.pf_core_model.specs.Sharers.{put_copy}
use Rattle.pf_dues.specs.Lists.{index_of, has_copy}
use Rattle.pf_dues.proofs.Copying.{place_low, there_low, set_put, remove_put, insert_put, none_put}
use Rattle.pf_dues.proofs.lists.put_star.Goals as goal

pub index_mut-requires : goal.index_mut-requires
index_mut-requires c =
    let at : c.place-at.result ≡ index_of c.args.chunk c.args.list.now.items = c.place-at.ensures ∙ ap (index_of c.args.chunk) c.deref.ensures.value in
    let there : has_copy c.args.chunk c.args.list.now.items ≡ true = ap (has_copy c.args.chunk) (sym c.deref-2.ensures.value) ∙ sym c.is_there.ensures ∙ c.if-is_there.true in
    let low = there_low c.args.chunk c.args.list.now.items there in
    omega (arith, c.args.list.now.ok)

pub returns-then-is_there-clause-put : goal.returns-then-is_there-clause-put
returns-then-is_there-clause-put c =
    let at : c.place-at.result ≡ index_of c.args.chunk c.args.list.now.items = c.place-at.ensures ∙ ap (index_of c.args.chunk) c.deref.ensures.value in
    let there : has_copy c.args.chunk c.args.list.now.items ≡ true = ap (has_copy c.args.chunk) (sym c.deref-2.ensures.value) ∙ sym c.is_there.ensures ∙ c.if-is_there.true in
    (λ i. slice_set c.args.list.now.items (at i) record { chunk = c.args.chunk; star = c.args.star }) ∙ set_put c.args.chunk c.args.star c.args.list.now.items there

pub insert-requires : goal.insert-requires
insert-requires c =
    let at : c.place-at.result ≡ index_of c.args.chunk c.args.list.now.items = c.place-at.ensures ∙ ap (index_of c.args.chunk) c.deref.ensures.value in
    let low = place_low c.args.chunk c.args.list.now.items in
    omega (arith, c.args.list.now.ok)

pub returns-clause-put : goal.returns-clause-put
returns-clause-put c =
    let at : c.place-at.result ≡ index_of c.args.chunk c.args.list.now.items = c.place-at.ensures ∙ ap (index_of c.args.chunk) c.deref.ensures.value in
    let absent : has_copy c.args.chunk c.args.list.now.items ≡ false = ap (has_copy c.args.chunk) (sym c.deref-2.ensures.value) ∙ sym c.is_there.ensures ∙ c.if-is_there.false in
    let made : insert c.args.list.now.items c.place-at.result (record { chunk = c.args.chunk; star = c.args.star }) ≡ put_copy c.args.chunk (Some c.args.star) c.args.list.now.items
    = (λ i. insert c.args.list.now.items (at i) (record { chunk = c.args.chunk; star = c.args.star })) ∙ insert_put c.args.chunk c.args.star c.args.list.now.items absent in
    let put : c.insert.new.self.items ≡ insert c.args.list.now.items c.place-at.result (record { chunk = c.args.chunk; star = c.args.star }) = search rules in
    put ∙ made
