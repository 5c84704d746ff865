use Rattle.std.proofs.Common.{List, ◌∙◌, sym, subst}
use Rattle.pf_star_model.specs.Lent.{Held}
use Rattle.pf_star.specs.Sets.{IsIndexOfPair, IsAt, IsNotAt, AreRising}
use Rattle.pf_star.proofs.Places.{put-found, put-between, put-rises}
use Rattle.pf_star.proofs.set.put_pair.Goals as goal

pub returns-then-is_at-clause-put : goal.returns-then-is_at-clause-put
returns-then-is_at-clause-put c =
    let P : List Held → Type 0 = λ l. IsIndexOfPair c.node-n.result l c.place-at.result in
    let A : List Held → Type 0 = λ l. IsAt c.node-n.result l c.place-at.result in
    let p = subst (λ n. IsIndexOfPair n c.args.pairs.now.items c.place-at.result) c.node-n.ensures (subst P c.deref.ensures.value c.place-at.ensures) in
    let at = subst (λ n. IsAt n c.args.pairs.now.items c.place-at.result) c.node-n.ensures (subst A c.deref-2.ensures.value (c.is_at.ensures.there c.if-is_at.true)) in
    put-found c.args.pair c.args.pairs.now.items c.place-at.result c.args.pair p at.within (at.node c.args.pair)

pub returns-clause-put : goal.returns-clause-put
returns-clause-put c =
    let P : List Held → Type 0 = λ l. IsIndexOfPair c.node-n.result l c.place-at.result in
    let A : List Held → Type 0 = λ l. IsNotAt c.node-n.result l c.place-at.result in
    let p = subst (λ n. IsIndexOfPair n c.args.pairs.now.items c.place-at.result) c.node-n.ensures (subst P c.deref.ensures.value c.place-at.ensures) in
    let absent = subst (λ n. IsNotAt n c.args.pairs.now.items c.place-at.result) c.node-n.ensures (subst A c.deref-2.ensures.value (c.is_at.ensures.absent c.if-is_at.false)) in
    c.in_ok-insert_pair.ensures.put ∙ put-between c.args.pair c.args.pairs.now.items c.place-at.result p absent

pub returns-then-is_at-clause-rises : goal.returns-then-is_at-clause-rises
returns-then-is_at-clause-rises c = subst (λ l. AreRising l) (sym (returns-then-is_at-clause-put c)) (put-rises c.args.pair c.args.pairs.now.items c.requires)

pub returns-clause-rises : goal.returns-clause-rises
returns-clause-rises c = subst (λ l. AreRising l) (sym (returns-clause-put c)) (put-rises c.args.pair c.args.pairs.now.items c.requires)
