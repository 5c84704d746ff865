-- What held pairs tell of each mesh that agrees with them.
use Rattle.std.proofs.Common.{◌≡◌, ℕ, List, [], ◌∷◌, ◌++◌, refl, sym, ◌∙◌, ap, subst, Bool, true, false, cond, ◌⊎◌, inl, inr, arith}
use Rattle.std.specs.Prelude.{Contains, Option, Some, None, is_some, min, max, ◌==◌, ◌||◌}
use Rattle.std.proofs.lemmas.Bool.Decides.{nat_tests}
use Rattle.std.proofs.lemmas.Bool.{or_cases}
use Rattle.pf_model.specs.declared.Band.{Band}
use Rattle.pf_model.specs.declared.Spoke.{Spoke}
use Rattle.pf_model.specs.declared.Op.{Op}
use Rattle.pf_model.specs.declared.Op.TheVariants.{Flip, Bisect, Contract}
use Rattle.pf_model.specs.declared.Cond.{Cond}
use Rattle.pf_model.specs.Ends.{first_end, second_end}
use Rattle.pf_model.specs.Mesh.{Undivided}
use Rattle.pf_model.specs.Stars.{Star, star_of, is_neighbour}
use Rattle.pf_model.proofs.Kept.{any-means}
use Rattle.pf_model.specs.Conforming.{IsConforming}
use Rattle.pf_model.specs.Conditions.{first_failing, neighbours}
use Rattle.pf_model.proofs.Members.{nowhere, here, there, cases}
use Rattle.pf_model.proofs.ContractClauses.{right_is_neighbour, left_is_neighbour}
use Rattle.pf_star_model.specs.Lent.{spokes_in}
use Rattle.pf_star_model.specs.Judged.{judged, ends_failing}
use Rattle.pf_star_model.specs.Cavity.{PassesAtEnds}
use Rattle.pf_star_model.specs.Laws.{AreEndsShown}
use Rattle.pf_star_model.proofs.Judging.{or_else, ends_judged, flip_failing, judged_is_first_failing}
use Rattle.pf_star_model.specs.Lent.{Held}
use Rattle.pf_core_model.specs.Lists.{In}
use Rattle.pf_core_model.specs.Core.{nodes_in}
use Rattle.pf_star_model.specs.Lent.{star_held}
use Rattle.pf_holder.specs.Facts.{won_pair, IsSeen, IsJudged, IsNearLent}
use Rattle.pf_holder.specs.Answers.{HoldsStar}
use Rattle.pf_holder.proofs.Held.{eq_holds, differs, held_shown, star_node}
use Rattle.pf_attempt.specs.Stages.{judged_first, AreLive, EndsPass}

-- where each pair has a star, a node that is held is lent
pub held_lent : (ps : List Held) → AreLive ps → (n : ℕ) → In n (nodes_in ps) → is_some (star_held ps n) ≡ true
held_lent [] live n h = absurd h
held_lent (p ∷ ps) live n h = go (p.node == n) refl h (held_lent ps (λ q i. live q (inr i)) n)
  where
    go : (b : Bool) → (p.node == n) ≡ b → (n ≡ p.node) ⊎ In n (nodes_in ps) → (In n (nodes_in ps) → is_some (star_held ps n) ≡ true) → is_some (cond b p.star (star_held ps n)) ≡ true
    go true e k ih = live p (inl refl)
    go false e (inl f) ih = absurd (differs p.node n e (sym f))
    go false e (inr i) ih = ih i

pub ends_shown : (bands : List Band) (ps : List Held) (op : Op) → HoldsStar ps (first_end op) → HoldsStar ps (second_end op) → (m : Undivided) → IsSeen bands ps m → AreEndsShown (star_held ps) m op
ends_shown bands ps op first second m s = (held_shown m ps s.shown (first_end op) (star_node ps (first_end op) first), held_shown m ps s.shown (second_end op) (star_node ps (second_end op) second))

-- what is judged first, on a mesh
abbrev firsts : Undivided → ℕ → Op → Option Cond
firsts m chunk (Flip a b) = ends_failing m chunk a b
firsts m chunk (Bisect a b) = first_failing m chunk (Bisect a b)
firsts m chunk (Contract u v) = first_failing m chunk (Contract u v)

first_told : (bands : List Band) (lent : ℕ → Option Star) (chunk : ℕ) (op : Op) (m : Undivided) → m.bands ≡ bands → IsConforming m → AreEndsShown lent m op → judged_first lent bands chunk op ≡ firsts m chunk op
first_told bands lent chunk (Flip a b) m e ok s = ends_judged m ok lent chunk a b s.0 s.1
first_told bands lent chunk (Bisect a b) m e ok s = judged_is_first_failing m lent bands chunk (Bisect a b) ok (sym e) s.0 s.1 tt
first_told bands lent chunk (Contract u v) m e ok s = judged_is_first_failing m lent bands chunk (Contract u v) ok (sym e) s.0 s.1 tt

first_fails : (m : Undivided) (chunk : ℕ) (op : Op) (why : Cond) → firsts m chunk op ≡ Some why → first_failing m chunk op ≡ Some why
first_fails m chunk (Flip a b) why h = flip_failing m chunk a b ∙ some_first (ends_failing m chunk a b) _ h
  where
    some_first : (o d : Option Cond) → o ≡ Some why → or_else o d ≡ Some why
    some_first None d e = absurd (let k : None ≡ Some why = e in cc)
    some_first (Some c) d e = e
first_fails m chunk (Bisect a b) why h = h
first_fails m chunk (Contract u v) why h = h

first_passes : (m : Undivided) (chunk : ℕ) (op : Op) → firsts m chunk op ≡ None → PassesAtEnds m chunk op
first_passes m chunk (Flip a b) h = h
first_passes m chunk (Bisect a b) h = h
first_passes m chunk (Contract u v) h = h

-- what fails as judged from the ends fails on each mesh that agrees
pub judged_fails : (bands : List Band) (ps : List Held) (chunk : ℕ) (op : Op) (why : Cond) → HoldsStar ps (first_end op) → HoldsStar ps (second_end op) → judged_first (star_held ps) bands chunk op ≡ Some why → IsJudged bands ps chunk op (Some why)
judged_fails bands ps chunk op why first second h m s = first_fails m chunk op why (sym (first_told bands (star_held ps) chunk op m s.banded s.conforming (ends_shown bands ps op first second m s)) ∙ h)

-- what passes there passes there on each
pub judged_passes : (bands : List Band) (ps : List Held) (chunk : ℕ) (op : Op) → HoldsStar ps (first_end op) → HoldsStar ps (second_end op) → judged_first (star_held ps) bands chunk op ≡ None → EndsPass bands ps chunk op
judged_passes bands ps chunk op first second h m s = first_passes m chunk op (sym (first_told bands (star_held ps) chunk op m s.banded s.conforming (ends_shown bands ps op first second m s)) ∙ h)

-- a neighbour in the star that is lent of a node is near
near_listed : (n : ℕ) (ss : List Spoke) → is_neighbour n ss ≡ true → Contains (neighbours ss) n
near_listed n ss h =
    let r = any-means (λ s. s.right == n || s.left == n) ss h in
    elim (or_cases (r.0.right == n) (r.0.left == n) r.2) [
      | inl e ↦ subst (λ (k : ℕ). Contains (neighbours ss) k) (eq_holds r.0.right n e) (right_is_neighbour ss r.0 r.1)
      | inr e ↦ subst (λ (k : ℕ). Contains (neighbours ss) k) (eq_holds r.0.left n e) (left_is_neighbour ss r.0 r.1)
    ]

pub near_at : (lent : ℕ → Option Star) (k n : ℕ) → is_neighbour n (spokes_in (lent k)) ≡ true → IsNearLent lent n
near_at lent k n h = go (lent k) refl h
  where
    go : (o : Option Star) → lent k ≡ o → is_neighbour n (spokes_in o) ≡ true → IsNearLent lent n
    go None e i = absurd (let z : false ≡ true = i in cc)
    go (Some s) e i = record { at = k; star = s; lends = e; near = near_listed n s.spokes i }
