-- Lists that are put one after another.
use Rattle.std.proofs.Common.{◌≡◌, ℕ, cond, ◌==◌, List, [], ◌∷◌, ◌++◌, length, refl, arith, sym, ap, ◌∙◌, subst, ⊎_elim}
use Rattle.std.specs.Prelude.{Contains}
use Rattle.pf_model.proofs.Members.{nowhere, cases, here, there}
use Rattle.pf_core_model.specs.declared.sharer.Sharer.{Sharer}
use Rattle.pf_ghost.specs.declared.ready.Listed.{Listed}
use Rattle.pf_ghost.specs.Spread.{named_node, named_list, spread_at}

-- the last list is put first
spread_last : (name : ℕ) (ls : List Listed) (l : Listed) (f g : ℕ → List Sharer) (n : ℕ) → g n ≡ cond (n == named_node name l) (named_list name l) (f n) → spread_at name ls g n ≡ spread_at name (ls ++ l ∷ []) f n
spread_last name [] l f g n e = e
spread_last name (k ∷ ks) l f g n e = ap (λ (x : List Sharer). cond (n == named_node name k) (named_list name k) x) (spread_last name ks l f g n e)

-- a list is put, and the others are left
pub one_put : (name : ℕ) (all ls : List Listed) (l : Listed) (f g : ℕ → List Sharer) (whole : ℕ → List Sharer) → all ≡ ls ++ l ∷ [] → ((n : ℕ) → g n ≡ cond (n == named_node name l) (named_list name l) (f n)) → ((n : ℕ) → spread_at name all f n ≡ whole n) → (n : ℕ) → spread_at name ls g n ≡ whole n
one_put name all ls l f g whole is put kept n = spread_last name ls l f g n (put n) ∙ ap (λ (x : List Listed). spread_at name x f n) (sym is) ∙ kept n

pub in_front : (l : Listed) (ls : List Listed) (k : Listed) → Contains ls k → Contains (ls ++ l ∷ []) k
in_front l [] k h = absurd (nowhere k h)
in_front l (x ∷ xs) k h = ⊎_elim (λ (e : k ≡ x). subst (λ (z : Listed). Contains (z ∷ (xs ++ l ∷ [])) k) e (here k (xs ++ l ∷ []))) (λ (j : Contains xs k). there k x (xs ++ l ∷ []) (in_front l xs k j)) (cases k x xs h)

pub at_end : (l : Listed) (ls : List Listed) → Contains (ls ++ l ∷ []) l
at_end l [] = here l []
at_end l (x ∷ xs) = there l x (xs ++ l ∷ []) (at_end l xs)

pub no_lists : (ls : List Listed) → length ls ≡ 0 → ls ≡ []
no_lists [] e = refl
no_lists (l ∷ ls) e = absurd (omega (arith, e))
