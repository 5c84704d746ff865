use Rattle.std.proofs.Common.{◌≡◌, ◌||◌, ◌==◌, ◌∙◌, ◌<◌, ℕ, List, length, get_or, inl, inr, sym, subst, ap, arith}
use Rattle.std.specs.Prelude.{Contains}
use Rattle.std.proofs.lemmas.List.Folds.{list_any_more}
use Rattle.pf_star_model.specs.Lent.{Held, is_held, star_held}
use Rattle.pf_star.proofs.Chosen.{put-means, put-holds}
use Rattle.pf_star.proofs.set.chosen.Goals as goal

pub loop-n-preserved : goal.loop-n-preserved
loop-n-preserved c =
    let nodes = c.args.nodes.now in
    let i = c.loop-n.n-index in
    let n : ℕ = get_or nodes i 0 in
    let old : List Held = c.loop-n.pairs.items in
    let inv = c.loop-n.invariant in
    let x : Held = record { node = n; star = c.in_ok-star.star } in
    let put = c.in_ok-put_pair.ensures.put in
    let within : i < length nodes = omega arith in
    let star : c.in_ok-star.star ≡ star_held c.args.all.now n = c.in_ok-star.ensures ∙ c.find_ring.ensures in (
      c.put_pair.ensures.rises,
      (λ h k. elim (put-means x old h (subst (λ (l : List Held). Contains l h) put k)) [ inl e ↦ subst (λ (w : Held). w.star ≡ star_held c.args.all.now w.node) (sym e) star | inr j ↦ inv.1 h j ]),
      λ k. ap (λ l. is_held l k) put ∙ (put-holds x old k ∙ (ap (λ b. b || n == k) (inv.2 k) ∙ sym (list_any_more (λ j. j == k) nodes i 0 within))),
    )
