use Rattle.std.proofs.Common.{◌≡◌, ◌∙◌, ℕ, ◌<◌, List, length, ap, arith, Bool, not, ◌||◌, ◌&&◌, ◌==◌, Vec, Global}
use Rattle.std.specs.List.{list_any}
use Rattle.pf_assemble.specs.Placed.{row_at}
use Rattle.pf_assemble.specs.Rows.{marked, AreTaken}
use Rattle.pf_assemble.proofs.Filling.{row-taken}
use Rattle.pf_assemble.proofs.Places.{taken-other, near-corners}
use Rattle.pf_assemble.proofs.ghosts.mark_near.Goals as goal

-- whether one of the chunks at a name, but the own one, is w
near : (sharers : List (Vec ℕ Global)) (s : ℕ → ℕ → Bool) (n own w name : ℕ) (d : Vec ℕ Global) (row : List ℕ) → AreTaken sharers s n → name < length sharers → w < n → row ≡ row_at sharers name → list_any (λ k. not (k == own) && k == w) row ≡ (not (own == w) && s name w)
near sharers s n own w name d row h within low is = ap (list_any (λ k. not (k == own) && k == w)) (is ∙ row-taken sharers s n name d h within) ∙ taken-other (s name) n own w low

pub returns-clause-marked : goal.returns-clause-marked
returns-clause-marked c = λ s p q hs h w d l.
    let t = c.args.t in
    let all = c.args.sharers.now in
    let n = length c.args.rows.now.items in
    let len1 = c.mark_others.ensures.len in
    let len2 = c.mark_others-2.ensures.len in
    let len3 = c.mark_others-3.ensures.len in
    let low : w < n = omega (arith, l, len1, len2, len3) in
    let at_a = near all s n t.owner w t.a d c.row_of-3.result.now hs c.requires.a low c.row_of-3.ensures in
    let at_b = near all s n t.owner w t.b d c.row_of-2.result.now hs c.requires.b low c.row_of-2.ensures in
    let at_c = near all s n t.owner w t.c d c.row_of.result.now hs c.requires.c low c.row_of.ensures in
    c.in_ok-mark_others-3.ensures.marked p _ (c.in_ok-mark_others-2.ensures.marked p _ (c.in_ok-mark_others.ensures.marked p q h)) w d l
    ∙ ap (marked (p w) c.args.place) ((λ i. at_a i || (at_b i || (at_c i || q w))) ∙ near-corners (not (t.owner == w)) (s t.a w) (s t.b w) (s t.c w) (q w))
