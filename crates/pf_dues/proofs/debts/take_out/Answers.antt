use Rattle.std.proofs.Common.{◌≡◌, ℕ, List, [], ◌∷◌, Bool, true, false, cond, not, refl, ap, ◌∙◌, rules}
use Rattle.std.specs.Prelude.{filter}
use Rattle.std.proofs.lemmas.Fn.{filter_same}
use Rattle.pf_core_model.specs.declared.event.Owed.{Owed}
use Rattle.pf_core_model.specs.State.{is_owed, without_owed}
use Rattle.pf_dues.proofs.debts.take_out.Goals as goal

kept : (chunk n : ℕ) (ds : List Owed) → filter (λ (d : Owed). not (is_owed chunk n d)) ds ≡ without_owed chunk n ds
kept chunk n [] = refl
kept chunk n (d ∷ ds) = go (is_owed chunk n d) (kept chunk n ds)
  where
    go : (b : Bool) → filter (λ (x : Owed). not (is_owed chunk n x)) ds ≡ without_owed chunk n ds
        → cond (not b) (d ∷ filter (λ (x : Owed). not (is_owed chunk n x)) ds) (filter (λ (x : Owed). not (is_owed chunk n x)) ds) ≡ cond b (without_owed chunk n ds) (d ∷ without_owed chunk n ds)
    go true e = e
    go false e = ap (λ (l : List Owed). d ∷ l) e

pub returns : goal.returns
returns c = filter_same _ (λ (d : Owed). not (is_owed c.args.chunk c.args.node d)) _ (λ x b f' k. search rules) _ _ c.retain.ensures.filtered ∙ kept c.args.chunk c.args.node c.args.list.now.items
