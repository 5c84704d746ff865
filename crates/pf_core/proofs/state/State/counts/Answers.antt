use Rattle.std.proofs.Common.{◌≡◌, ℕ, ◌<◌, ◌≤◌, ◌+◌, ◌-◌, List, [], ◌∷◌, ◌++◌, Bool, true, false, not, ◌&&◌, ◌==◌, nat_lt, refl, sym, ap, ◌∙◌, set, length, take, drop, subst, suc, arith, rules, add-one, append_assoc}
use Rattle.pf_core.specs.declared.tables.Node.{Node}
use Rattle.pf_core.specs.Part.{count_codes}
use Rattle.pf_core.proofs.Shared.{count_is}
use Rattle.pf_core.proofs.state.State.counts.Goals as goal

pub returns : goal.returns
returns c o s sh =
    let a = c.counts_of.ensures.free ∙ ap (λ (l : List Node). count_codes (λ w. w == 0) l) c.deref.ensures.value ∙ count_is o s c.args.self.now sh (λ w. w == 0) in
    let b = c.counts_of.ensures.held ∙ ap (λ (l : List Node). count_codes (λ w. nat_lt 2 w) l) c.deref.ensures.value ∙ count_is o s c.args.self.now sh (λ w. nat_lt 2 w) in
    let d = c.counts_of.ensures.dead ∙ ap (λ (l : List Node). count_codes (λ w. w == 1) l) c.deref.ensures.value ∙ count_is o s c.args.self.now sh (λ w. w == 1) in
    let e = c.counts_of.ensures.never ∙ ap (λ (l : List Node). count_codes (λ w. w == 2) l) c.deref.ensures.value ∙ count_is o s c.args.self.now sh (λ w. w == 2) in
    λ i. a i ∷ b i ∷ d i ∷ e i ∷ []
