-- Nodes that a seat gives back.
use Rattle.std.proofs.Common.{◌≡◌, ◌≢◌, ℕ, Bool, true, false, cond, ◌==◌, List, [], ◌∷◌, length, refl, sym, ap, ◌∙◌, subst, inl, inr, arith}
use Rattle.std.specs.Prelude.{Option, Some, None}
use Rattle.pf_model.specs.Stars.{Star, star_of}
use Rattle.pf_star_model.specs.Lent.{Held}
use Rattle.pf_core_model.specs.declared.sharer.Sharer.{Sharer}
use Rattle.pf_core_model.specs.declared.view.View.{View}
use Rattle.pf_core_model.specs.Lists.{In}
use Rattle.pf_core_model.specs.Sharers.{sharers_in, kept_in}
use Rattle.pf_core_model.specs.Moves.{released, without}
use Rattle.pf_core_model.specs.Core.{Opening, nodes_of}
use Rattle.pf_core_model.specs.Seats.{Knows}
use Rattle.pf_core_model.proofs.Lists.{in_mapped, times_in, in_times}
use Rattle.pf_core_model.proofs.Sharing.{none_due, kept_is, star_shared}
use Rattle.pf_locks.specs.declared.kept.Kept.{Kept}
use Rattle.pf_locks.specs.Lists.{names_in, list_in, lent_in}
use Rattle.pf_locks.specs.Seats.{IsShaped}
use Rattle.board_tests.specs.Holding.{PaidBy}
use Rattle.board_tests.proofs.Lending.{unmet}

-- a node that is kept is held
pub node_held : (n : ℕ) (hand : List (ℕ × List Sharer)) (held : List ℕ) (ks : List Kept) (cap : ℕ) → IsShaped hand held ks cap → In n (names_in ks) → In n held
node_held n hand held ks cap h i = in_times n held (let a = times_in n (names_in ks) i in let b = h.names n in omega (arith, a, b))

-- what is held after a node is given back was held before, and isn't that node
in_without : (n : ℕ) (p : Held) (ps : List Held) → In p (without n ps) → In p ps × (n ≡ p.node → ⊥)
in_without n p [] h = absurd h
in_without n p (q ∷ qs) h = go (q.node == n) refl h (in_without n p qs)
  where
    go : (b : Bool) → (q.node == n) ≡ b → In p (cond b (without n qs) (q ∷ without n qs)) → (In p (without n qs) → In p qs × (n ≡ p.node → ⊥)) → In p (q ∷ qs) × (n ≡ p.node → ⊥)
    go true e i ih = (let r = ih i in (inr r.0, r.1))
    go false e (inl f) ih = (inl f, λ z. unmet q.node n e (sym (ap (λ (x : Held). x.node) f) ∙ sym z))
    go false e (inr i) ih = (let r = ih i in (inr r.0, r.1))

pub back_paid : (n : ℕ) (v : View) (ks js : List Kept) → PaidBy v ks → ((k : ℕ) → k ≢ n → (list_in js k ≡ list_in ks k) × (lent_in js k ≡ lent_in ks k)) → PaidBy (released v n) js
back_paid n v ks js l drops = record { clear = l.clear; due = λ p i. (let r = in_without n p v.held i in (drops p.node (λ e. r.1 (sym e))).0 ∙ l.due p r.0) }

-- the star of a node with copies, and none of one without
some_there : (o : Opening) (v : View) (p : Held) → Knows o v → In p v.held → sharers_in v.chunks p.star ≡ [] → p.star ≡ None
some_there o v p k i e = go p.star refl
  where
    go : (x : Option Star) → p.star ≡ x → p.star ≡ None
    go None f = f
    go (Some s) f =
        let is : star_of k.0.mesh p.node ≡ Some s = sym (k.0.shown.pairs p i) ∙ f in
        let r = star_shared k.0.mesh p.node s k.0.shown.conforming is in
        let has : kept_in (sharers_in k.0.mesh.chunks (Some s)) ≡ Some s = kept_is k.0.mesh.chunks r.0 s r.1 r.2 in
        let none : sharers_in k.0.mesh.chunks (Some s) ≡ [] = ap (λ (c : ℕ). sharers_in c (Some s)) k.0.shown.chunks ∙ ap (λ (x : Option Star). sharers_in v.chunks x) (sym f) ∙ e in
        absurd (let z : None ≡ Some s = sym (ap kept_in none) ∙ has in cc (z))

empty_list : (l : List Sharer) → length l ≡ 0 → l ≡ []
empty_list [] e = refl
empty_list (x ∷ xs) e = absurd (omega (arith, e))

pub buried : (o : Opening) (v : View) (ks : List Kept) (n : ℕ) → Knows o v → PaidBy v ks → In n (nodes_of v) → length (list_in ks n) ≡ 0 → In (record { node = n; star = None }) v.held × (list_in ks n ≡ [])
buried o v ks n k l i e =
    let r = in_mapped (λ (p : Held). p.node) n v.held i in
    let none : list_in ks n ≡ [] = empty_list (list_in ks n) e in
    let star : r.0.star ≡ None = some_there o v r.0 k r.1 (sym (l.due r.0 r.1) ∙ ap (λ (j : ℕ). list_in ks j) (sym r.2) ∙ none) in
    (subst (λ (p : Held). In p v.held) (λ j. record { node = sym r.2 j; star = star j }) r.1, none)

pub put_back : (v : View) (ks : List Kept) (n : ℕ) → PaidBy v ks → In n (nodes_of v) → (length (list_in ks n) ≡ 0 → ⊥) → (star : Star) × In (record { node = n; star = Some star }) v.held × (list_in ks n ≡ sharers_in v.chunks (Some star))
put_back v ks n l i e = go r.0.star refl
  where
    r : (p : Held) × In p v.held × (n ≡ p.node)
    r = in_mapped (λ (p : Held). p.node) n v.held i

    is : list_in ks n ≡ sharers_in v.chunks r.0.star
    is = ap (λ (j : ℕ). list_in ks j) r.2 ∙ l.due r.0 r.1

    go : (x : Option Star) → r.0.star ≡ x → (star : Star) × In (record { node = n; star = Some star }) v.held × (list_in ks n ≡ sharers_in v.chunks (Some star))
    go None f = absurd (e (ap (λ (z : List Sharer). length z) (is ∙ ap (λ (x : Option Star). sharers_in v.chunks x) f ∙ none_due 0 v.chunks)))
    go (Some s) f = (s, subst (λ (p : Held). In p v.held) (λ j. record { node = sym r.2 j; star = f j }) r.1, is ∙ ap (λ (x : Option Star). sharers_in v.chunks x) f)
