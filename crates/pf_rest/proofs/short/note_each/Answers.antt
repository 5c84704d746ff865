use Rattle.std.proofs.Common.{◌≡◌, sym, subst, rules}
use Rattle.std.proofs.lemmas.Int.{to_z-of_z}
use mir.Syntax.{w64}
use Rattle.pf_rules.specs.Contract.{AreAround, IsShape, IsStar}
use Rattle.pf_rest.specs.Crossed.{IsUncrossed}
use Rattle.pf_rest.specs.Rest.{IsLimit}
use Rattle.pf_rest.proofs.short.note_each.Goals as goal

pub loop-place-preserved : goal.loop-place-preserved
loop-place-preserved c = λ m ok s b es star around before.
    let items = c.args.lists.now.star.items in
    let at : c.deref.result.now ≡ items = c.deref.ensures.0 in
    let names : AreAround c.deref.result.now c.as_slice.result.now = subst (λ l. AreAround l c.as_slice.result.now) (sym at) (subst (λ l. AreAround items l) (sym c.as_slice.ensures.value) around) in
    let shape : IsShape m c.args.u items c.shape-shape.result = subst (λ l. IsShape m c.args.u l c.shape-shape.result) at (c.shape-shape.ensures.shape m s (c.are_close-close.ensures m c.deref.result.now s (subst (λ l. IsLimit m.bands l) (sym (to_z-of_z w64 c.args.notes.now.limit (search rules))) before.limit) names)) in
    let again : c.deref-2.result.now ≡ items = c.deref-2.ensures.0 in
    let star' : IsStar m c.args.u c.deref-2.result.now = subst (λ l. IsStar m c.args.u l) (sym again) star in
    let names' : AreAround c.deref-2.result.now c.as_slice-2.result.now = subst (λ l. AreAround l c.as_slice-2.result.now) (sym again) (subst (λ l. AreAround items l) (sym c.as_slice-2.ensures.value) around) in
    c.note_onto.ensures m ok s b es star shape around (λ none. subst (λ l. IsUncrossed m c.args.u l) again (c.is_crossed-crossed.ensures m c.args.u ok es star' names' none)) (c.loop-place.invariant m ok s b es star around before)
