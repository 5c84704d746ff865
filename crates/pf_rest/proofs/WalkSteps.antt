-- A walk by its moves, and a list by its parts.
use Rattle.std.proofs.Common.{◌≡◌, ℕ, zero, suc, ◌-◌, ◌<◌, List, [], ◌++◌, append_assoc, refl, ◌∙◌, ap, arith}
use Rattle.std.specs.Prelude.{Some, None}
use Rattle.pf_model.specs.Mesh.{Undivided}
use Rattle.pf_model.specs.Lengths.{Edge}
use Rattle.pf_model.specs.Wishes.{next_longer, walked}

-- a walk that goes on
pub walked-on : (most : ℕ) (m : Undivided) (e f : Edge) → 0 < most → next_longer m e ≡ Some f → walked most m e ≡ walked (most - 1) m f
walked-on zero m e f l h = absurd (omega arith)
walked-on (suc most) m e f l h =
    let one : suc most - 1 ≡ most = omega arith in
    rw one (ap (λ o. elim o [ None ↦ e | Some g ↦ walked most m g ]) h)

-- a walk that has ended
pub walked-ends : (most : ℕ) (m : Undivided) (e : Edge) → next_longer m e ≡ None → walked most m e ≡ e
walked-ends zero m e h = refl
walked-ends (suc most) m e h = ap (λ o. elim o [ None ↦ e | Some g ↦ walked most m g ]) h

-- a list that is written in three parts
pub three_parts : {X : Type 0} (a b c d f g h : List X) → a ≡ [] → b ≡ a ++ f → c ≡ b ++ g → d ≡ c ++ h → d ≡ f ++ (g ++ h)
three_parts a b c d f g h p q r s = s ∙ ap (λ l. l ++ h) (r ∙ ap (λ l. l ++ g) (q ∙ ap (λ l. l ++ f) p)) ∙ append_assoc f g h
