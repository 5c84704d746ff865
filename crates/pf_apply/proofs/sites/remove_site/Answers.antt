use Rattle.std.proofs.Common.{◌≡◌, ◌≢◌, ◌∙◌, List, sym, ap, subst, arith, length, ◌<◌, ◌≤◌}
use Rattle.pf_model.specs.declared.Site.{Site}
use Rattle.pf_apply.specs.Sites.{IsIndexOfSite}
use Rattle.pf_apply.proofs.SiteLemmas.{without-past, without-other, without-found}
use Rattle.pf_apply.proofs.sites.remove_site.Goals as goal

pub returns-then-at-len-clause-removed : goal.returns-then-at-len-clause-removed
returns-then-at-len-clause-removed c =
    let ss = c.args.sites.now.items in
    let value = c.deref.ensures.value in
    let long : length c.deref.result.now ≡ length ss = ap length value in
    let past : length ss ≤ c.place-at.result = (let a = c.if-at-len.true in let b = c.len.ensures in let d = c.deref.ensures.len in omega (arith, a, b, d, long)) in
    let P : List Site → Type 0 = λ l. IsIndexOfSite c.args.n l c.place-at.result in
    without-past c.args.n ss c.place-at.result (subst P value c.place-at.ensures) past

pub returns-then-index-n-clause-removed : goal.returns-then-index-n-clause-removed
returns-then-index-n-clause-removed c =
    let ss = c.args.sites.now.items in
    let value = c.deref.ensures.value in
    let long : length c.deref.result.now ≡ length ss = ap length value in
    let within : c.place-at.result < length ss = (let a = c.if-at-len.false in let b = c.len.ensures in let d = c.deref.ensures.len in omega (arith, a, b, d, long)) in
    let P : List Site → Type 0 = λ l. IsIndexOfSite c.args.n l c.place-at.result in
    let Q : Site → Type 0 = λ s. s.name ≢ c.args.n in
    without-other c.args.n ss c.place-at.result c.index.result.now c.requires (subst P value c.place-at.ensures) within (subst Q c.index.ensures c.if-index-n.true)

pub returns-clause-removed : goal.returns-clause-removed
returns-clause-removed c =
    let ss = c.args.sites.now.items in
    let value = c.deref.ensures.value in
    let long : length c.deref.result.now ≡ length ss = ap length value in
    let within : c.place-at.result < length ss = (let a = c.if-at-len.false in let b = c.len.ensures in let d = c.deref.ensures.len in omega (arith, a, b, d, long)) in
    c.remove.ensures.items ∙ without-found c.args.n ss c.place-at.result c.index.result.now c.requires within (ap (λ (s : Site). s.name) (sym c.index.ensures) ∙ c.if-index-n.false)
