use Rattle.std.proofs.Common.{List, ◌∙◌, sym, subst, ap}
use Rattle.std.specs.Prelude.{Some}
use Rattle.pf_star_model.specs.Lent.{Held}
use Rattle.pf_star.specs.Sets.{IsIndexOfPair, IsAt, IsNotAt}
use Rattle.pf_star.proofs.Places.{none-held, all-stay, held-found, without-found}
use Rattle.pf_star.proofs.set.take_pair.Goals as goal

pub returns-then-not-is_at-clause-taken : goal.returns-then-not-is_at-clause-taken
returns-then-not-is_at-clause-taken c =
    let P : List Held → Type 0 = λ l. IsIndexOfPair c.args.n l c.place-at.result in
    let A : List Held → Type 0 = λ l. IsNotAt c.args.n l c.place-at.result in
    sym (none-held c.args.n c.args.pairs.now.items c.place-at.result c.requires (subst P c.deref.ensures.value c.place-at.ensures) (subst A c.deref-2.ensures.value (c.is_at.ensures.absent c.if-not-is_at.true))).1

pub returns-then-not-is_at-clause-others : goal.returns-then-not-is_at-clause-others
returns-then-not-is_at-clause-others c =
    let P : List Held → Type 0 = λ l. IsIndexOfPair c.args.n l c.place-at.result in
    let A : List Held → Type 0 = λ l. IsNotAt c.args.n l c.place-at.result in
    all-stay c.args.n c.args.pairs.now.items c.place-at.result c.requires (subst P c.deref.ensures.value c.place-at.ensures) (subst A c.deref-2.ensures.value (c.is_at.ensures.absent c.if-not-is_at.true))

pub returns-clause-taken : goal.returns-clause-taken
returns-clause-taken c =
    let A : List Held → Type 0 = λ l. IsAt c.args.n l c.place-at.result in
    let at = subst A c.deref-2.ensures.value (c.is_at.ensures.there c.if-not-is_at.false) in
    let x = c.remove.result in
    ap (λ h. Some h) c.remove.ensures.value ∙ sym (held-found c.args.n c.args.pairs.now.items c.place-at.result x c.requires at.within (at.node x)).1

pub returns-clause-others : goal.returns-clause-others
returns-clause-others c =
    let A : List Held → Type 0 = λ l. IsAt c.args.n l c.place-at.result in
    let at = subst A c.deref-2.ensures.value (c.is_at.ensures.there c.if-not-is_at.false) in
    let x = c.remove.result in
    c.remove.ensures.items ∙ without-found c.args.n c.args.pairs.now.items c.place-at.result x c.requires at.within (at.node x)
