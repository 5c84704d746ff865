-- What held pairs tell of each mesh that agrees with them.
use Rattle.std.proofs.Common.{◌≡◌, ℕ, List, [], ◌∷◌, refl, sym, ◌∙◌, ap, subst, Bool, true, false, cond, ◌⊎◌, inl, inr, arith}
use Rattle.std.specs.Prelude.{Contains, Option, Some, None, is_some, ◌==◌}
use Rattle.std.proofs.lemmas.Bool.Decides.{nat_tests}
use Rattle.pf_model.specs.declared.Op.{Op}
use Rattle.pf_model.specs.declared.Op.TheVariants.{Flip, Bisect, Contract}
use Rattle.pf_model.specs.Mesh.{Undivided}
use Rattle.pf_model.specs.Stars.{Star, star_of}
use Rattle.pf_model.proofs.Members.{nowhere, here, there, cases}
use Rattle.pf_star_model.specs.Lent.{Held, star_held}
use Rattle.pf_star_model.specs.Cavity.{cavity_of}
use Rattle.pf_core_model.specs.Lists.{In}
use Rattle.pf_core_model.specs.Core.{nodes_in}
use Rattle.pf_core_model.specs.Right.{IsEnd}
use Rattle.pf_holder.specs.Facts.{won_pair}
use Rattle.pf_holder.specs.Answers.{HoldsStar}

pub has_in : {A : Type 0} (x : A) (xs : List A) → In x xs → Contains xs x
has_in x [] h = absurd h
has_in x (y ∷ ys) (inl e) = subst (λ w. Contains (w ∷ ys) x) e (here x ys)
has_in x (y ∷ ys) (inr h) = there x y ys (has_in x ys h)

pub in_has : {A : Type 0} (x : A) (xs : List A) → Contains xs x → In x xs
in_has x [] h = nowhere x h
in_has x (y ∷ ys) h = elim (cases x y ys h) [ inl e ↦ inl e | inr i ↦ inr (in_has x ys i) ]

pub eq_holds : (a b : ℕ) → (a == b) ≡ true → a ≡ b
eq_holds a b h = grind (arith, nat_tests)

pub differs : (a b : ℕ) → (a == b) ≡ false → a ≡ b → ⊥
differs a b e f = grind (arith, nat_tests)

-- what is held of a node is its star in a mesh that agrees
pub held_shown : (m : Undivided) (ps : List Held) → ((p : Held) → In p ps → p.star ≡ star_of m p.node) → (n : ℕ) → In n (nodes_in ps) → star_held ps n ≡ star_of m n
held_shown m [] all n h = absurd h
held_shown m (p ∷ ps) all n h = go (p.node == n) refl h (held_shown m ps (λ q i. all q (inr i)) n)
  where
    go : (b : Bool) → (p.node == n) ≡ b → (n ≡ p.node) ⊎ In n (nodes_in ps) → (In n (nodes_in ps) → star_held ps n ≡ star_of m n) → cond b p.star (star_held ps n) ≡ star_of m n
    go true e k ih = all p (inl refl) ∙ ap (star_of m) (eq_holds p.node n e)
    go false e (inl f) ih = absurd (differs p.node n e (sym f))
    go false e (inr i) ih = ih i

-- a node whose star is held is held
pub held_node : (ps : List Held) (p : Held) → In p ps → In p.node (nodes_in ps)
held_node [] p h = absurd h
held_node (q ∷ qs) p (inl e) = inl (ap (λ w. w.node) e)
held_node (q ∷ qs) p (inr h) = inr (held_node qs p h)

pub star_node : (ps : List Held) (n : ℕ) → HoldsStar ps n → In n (nodes_in ps)
star_node ps n h = held_node ps (won_pair n h.0) h.1

-- a node that is lent is held
pub lent_held : (ps : List Held) (n : ℕ) → is_some (star_held ps n) ≡ true → In n (nodes_in ps)
lent_held [] n h = absurd (let e : false ≡ true = h in cc)
lent_held (p ∷ ps) n h = go (p.node == n) refl h (lent_held ps n)
  where
    go : (b : Bool) → (p.node == n) ≡ b → is_some (cond b p.star (star_held ps n)) ≡ true → (is_some (star_held ps n) ≡ true → In n (nodes_in ps)) → (n ≡ p.node) ⊎ In n (nodes_in ps)
    go true e k ih = inl (sym (eq_holds p.node n e))
    go false e k ih = inr (ih k)

-- both ends are in the cavity
pub end_within : (m : Undivided) (chunk : ℕ) (op : Op) (n : ℕ) → IsEnd n op → Contains (cavity_of m chunk op) n
end_within m chunk (Flip a b) n e = go n a b _ e
  where
    go : (n a b : ℕ) (xs : List ℕ) → (n ≡ a) ⊎ (n ≡ b) → Contains (a ∷ b ∷ xs) n
    go n a b xs e = has_in n (a ∷ b ∷ xs) (elim e [ inl f ↦ inl f | inr f ↦ inr (inl f) ])
end_within m chunk (Bisect a b) n e = go n a b _ e
  where
    go : (n a b : ℕ) (xs : List ℕ) → (n ≡ a) ⊎ (n ≡ b) → Contains (a ∷ b ∷ xs) n
    go n a b xs e = has_in n (a ∷ b ∷ xs) (elim e [ inl f ↦ inl f | inr f ↦ inr (inl f) ])
end_within m chunk (Contract u v) n e = go n u v _ e
  where
    go : (n a b : ℕ) (xs : List ℕ) → (n ≡ a) ⊎ (n ≡ b) → Contains (a ∷ b ∷ xs) n
    go n a b xs e = has_in n (a ∷ b ∷ xs) (elim e [ inl f ↦ inl f | inr f ↦ inr (inl f) ])
