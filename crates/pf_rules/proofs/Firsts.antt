-- The first clause that comes of two lists, one after the other.
use Rattle.std.proofs.Common.{◌≡◌, ℕ, List, [], ◌∷◌, ◌++◌, refl, sym, Some, None}
use Rattle.std.specs.Prelude.{Option}
use Rattle.pf_model.specs.declared.Side.{Side}
use Rattle.pf_model.specs.declared.Spoke.{Spoke}
use Rattle.pf_model.specs.declared.Cond.{Cond}
use Rattle.pf_model.specs.declared.Cond.TheVariants.{Corner, OffBoundary, LinkNode}
use Rattle.pf_model.specs.Clauses.{when, when_some, first_of}
use Rattle.pf_model.specs.Mesh.{Undivided}
use Rattle.pf_model.specs.Rows.{is_corner, is_off_boundary, is_link_node, inverted, least_that, neighbours}
use Rattle.pf_model.proofs.ReadClauses.{first_of-none}
use Rattle.pf_rules.specs.Contract.{shape_rows}

-- it is the first list's, where that has one
pub first-before : {X : Type 0} (xs ys : List (Option X)) (x : X) → Some x ≡ first_of xs → Some x ≡ first_of (xs ++ ys)
first-before [] ys x h = absurd (let e : Some x ≡ None = h in cc)
first-before (Some y ∷ xs) ys x h = h
first-before (None ∷ xs) ys x h = first-before xs ys x h

-- and the second one's, where it has none
pub first-after : {X : Type 0} (xs ys : List (Option X)) → None ≡ first_of xs → first_of ys ≡ first_of (xs ++ ys)
first-after [] ys h = refl
first-after (Some y ∷ xs) ys h = absurd (let e : None ≡ Some y = h in cc)
first-after (None ∷ xs) ys h = first-after xs ys h

-- a last clause
pub first-last : {X : Type 0} (o : Option X) → o ≡ first_of (o ∷ [])
first-last None = refl
first-last (Some x) = refl

when_some-none : {X Y : Type 0} (o : Option X) (f : X → Y) → when_some o f ≡ None → o ≡ None
when_some-none None f h = refl
when_some-none (Some x) f h = absurd (let e : Some (f x) ≡ None = h in cc)

-- a contraction whose rows but the last pass has no link node
pub no-link : (m : Undivided) (u v : ℕ) (l r : Option Side) (us vs : List Spoke) → None ≡ first_of (shape_rows m u v l r us vs) → least_that (is_link_node l r vs) (neighbours us) ≡ None
no-link m u v l r us vs h =
    let link : Option Cond = when_some (least_that (is_link_node l r vs) (neighbours us)) (λ x. LinkNode x) in
    let last : List (Option Cond) = inverted m v us ∷ [] in
    let one = first_of-none (when (is_corner m u us) Corner) (when (is_off_boundary v us) OffBoundary ∷ link ∷ last) (sym h) in
    let two = first_of-none (when (is_off_boundary v us) OffBoundary) (link ∷ last) one.1 in
    let three = first_of-none link last two.1 in
    when_some-none (least_that (is_link_node l r vs) (neighbours us)) (λ x. LinkNode x) three.0
