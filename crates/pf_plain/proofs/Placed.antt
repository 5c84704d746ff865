-- Stars that are put one after another, each at its name.
use Rattle.std.proofs.Common.{◌≡◌, ◌≢◌, ℕ, ◌<◌, Bool, true, false, cond, ◌==◌, List, [], ◌∷◌, ◌++◌, length, set, refl, sym, ap, ◌∙◌, subst, ⊎_elim, arith}
use Rattle.std.specs.Prelude.{Option, Some, None, Contains}
use Rattle.std.proofs.lemmas.Bool.Decides.{nat_tests}
use Rattle.std.proofs.lemmas.List.{get_or-set_same, get_or-set_other}
use mathlib.Core.Logic.{dite}
use native.Mathlib.Decide.{ℕ_discrete}
use Rattle.pf_model.specs.Stars.{Star}
use Rattle.pf_model.proofs.Members.{nowhere, cases, here, there}
use Rattle.pf_core_model.specs.declared.sharer.Sharer.{Sharer}
use Rattle.pf_core_model.specs.Sharers.{kept_in}
use Rattle.pf_ghost.specs.declared.ready.Listed.{Listed}
use Rattle.pf_ghost.specs.Spread.{named_node, named_list, spread_at}
use Rattle.pf_plain.specs.Stars.{star_by, placed, spread_by}

pub eq_true : (a b : ℕ) → a ≡ b → (a == b) ≡ true
eq_true a b e = grind (arith, nat_tests)

pub eq_false : (a b : ℕ) → a ≢ b → (a == b) ≡ false
eq_false a b e = grind (arith, nat_tests)

-- a star that is put at its name
pub put_by : (stars : List (Option Star)) (k : ℕ) (x : Option Star) → k < length stars → (n : ℕ) → star_by (set stars k x) n ≡ cond (n == k) x (star_by stars n)
put_by stars k x low n = dite (ℕ_discrete n k)
    (λ e. ap (star_by (set stars k x)) e ∙ get_or-set_same stars k x None low ∙ sym (ap (λ (b : Bool). cond b x (star_by stars n)) (eq_true n k e)))
    (λ ne. get_or-set_other stars k n x None ne ∙ sym (ap (λ (b : Bool). cond b x (star_by stars n)) (eq_false n k ne)))

-- what is put over the same stars gives the same, and the last is put first
placed_last : (ss : List Star) (s : Star) (f g : ℕ → Option Star) (n : ℕ) → g n ≡ cond (n == s.node) (Some s) (f n) → placed ss g n ≡ placed (ss ++ s ∷ []) f n
placed_last [] s f g n e = e
placed_last (x ∷ xs) s f g n e = ap (λ (y : Option Star). cond (n == x.node) (Some x) y) (placed_last xs s f g n e)

pub one_placed : (all ss : List Star) (s : Star) (f g whole : ℕ → Option Star) → all ≡ ss ++ s ∷ [] → ((n : ℕ) → g n ≡ cond (n == s.node) (Some s) (f n)) → ((n : ℕ) → placed all f n ≡ whole n) → (n : ℕ) → placed ss g n ≡ whole n
one_placed all ss s f g whole is put kept n = placed_last ss s f g n (put n) ∙ ap (λ (x : List Star). placed x f n) (sym is) ∙ kept n

spread_last : (name : ℕ) (ls : List Listed) (l : Listed) (f g : ℕ → Option Star) (n : ℕ) → g n ≡ cond (n == named_node name l) (kept_in (named_list name l)) (f n) → spread_by name ls g n ≡ spread_by name (ls ++ l ∷ []) f n
spread_last name [] l f g n e = e
spread_last name (k ∷ ks) l f g n e = ap (λ (x : Option Star). cond (n == named_node name k) (kept_in (named_list name k)) x) (spread_last name ks l f g n e)

pub one_spread : (name : ℕ) (all ls : List Listed) (l : Listed) (f g whole : ℕ → Option Star) → all ≡ ls ++ l ∷ [] → ((n : ℕ) → g n ≡ cond (n == named_node name l) (kept_in (named_list name l)) (f n)) → ((n : ℕ) → spread_by name all f n ≡ whole n) → (n : ℕ) → spread_by name ls g n ≡ whole n
one_spread name all ls l f g whole is put kept n = spread_last name ls l f g n (put n) ∙ ap (λ (x : List Listed). spread_by name x f n) (sym is) ∙ kept n

pub in_front : {A : Type 0} (l : A) (ls : List A) (k : A) → Contains ls k → Contains (ls ++ l ∷ []) k
in_front l [] k h = absurd (nowhere k h)
in_front {A} l (x ∷ xs) k h = ⊎_elim (λ (e : k ≡ x). subst (λ (z : A). Contains (z ∷ (xs ++ l ∷ [])) k) e (here k (xs ++ l ∷ []))) (λ (j : Contains xs k). there k x (xs ++ l ∷ []) (in_front l xs k j)) (cases k x xs h)

pub at_end : {A : Type 0} (l : A) (ls : List A) → Contains (ls ++ l ∷ []) l
at_end l [] = here l []
at_end l (x ∷ xs) = there l x (xs ++ l ∷ []) (at_end l xs)

-- what is kept of lists that are spread over lists of copies
pub spread_kept : (name : ℕ) (ls : List Listed) (copies : ℕ → List Sharer) (f : ℕ → Option Star) (n : ℕ) → f n ≡ kept_in (copies n) → spread_by name ls f n ≡ kept_in (spread_at name ls copies n)
spread_kept name [] copies f n e = e
spread_kept name (l ∷ ls) copies f n e = go (n == named_node name l) (spread_kept name ls copies f n e)
  where
    go : (b : Bool) → spread_by name ls f n ≡ kept_in (spread_at name ls copies n) → cond b (kept_in (named_list name l)) (spread_by name ls f n) ≡ kept_in (cond b (named_list name l) (spread_at name ls copies n))
    go true ih = refl
    go false ih = ih
