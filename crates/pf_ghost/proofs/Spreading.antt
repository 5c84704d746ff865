-- Lists that are put one after another, each at a node of its own.
use Rattle.std.proofs.Common.{◌≡◌, ◌≢◌, ℕ, zero, suc, Bool, true, false, cond, ◌==◌, ◌||◌, List, [], ◌∷◌, ◌++◌, refl, sym, ap, ◌∙◌, subst, ⊎_elim, arith}
use Rattle.std.specs.Prelude.{Option, Some, None, map, Contains}
use Rattle.std.specs.Option.{option_map}
use Rattle.std.proofs.lemmas.Bool.Decides.{nat_tests}
use Rattle.pf_model.specs.declared.Spoke.{Spoke}
use Rattle.pf_model.specs.Rising.{AreDifferent}
use Rattle.pf_model.specs.Stars.{Star, is_sharer}
use Rattle.pf_model.proofs.Members.{nowhere, cases, here, there}
use Rattle.pf_model.proofs.Totals.{map-in}
use Rattle.pf_star_model.specs.Lent.{Held}
use Rattle.pf_star_model.specs.Patched.{renamed, renamed_spoke, renamed_star}
use Rattle.pf_core_model.specs.declared.sharer.Sharer.{Sharer}
use Rattle.pf_core_model.specs.Sharers.{sharer_list, sharers_from, sharers_in}
use Rattle.pf_ghost.specs.Renamed.{renamed_sharer}
use Rattle.pf_ghost.specs.declared.ready.Listed.{Listed}
use Rattle.pf_ghost.specs.Prepared.{ready_of, listed_of}
use Rattle.pf_ghost.specs.Spread.{later_name, named_node, named_list, spread_at, SpreadPutsDue}

-- a chunk shares a star under any names
shares-renamed : (old new c : ℕ) (ss : List Spoke) → is_sharer c (map (renamed_spoke old new) ss) ≡ is_sharer c ss
shares-renamed old new c [] = refl
shares-renamed old new c (s ∷ ss) = ap (λ (b : Bool). (s.owner == c) || b) (shares-renamed old new c ss)

-- the copies of a renamed star
sharers-renamed : (old new c n : ℕ) (star : Option Star) → map (renamed_sharer old new) (sharers_from c n star) ≡ sharers_from c n (option_map (renamed_star old new) star)
sharers-renamed old new c zero star = refl
sharers-renamed old new c (suc n) None = sharers-renamed old new (suc c) n None
sharers-renamed old new c (suc n) (Some s) = go (is_sharer c s.spokes) refl (sharers-renamed old new (suc c) n (Some s))
  where
    go : (b : Bool) → is_sharer c s.spokes ≡ b → map (renamed_sharer old new) (sharers_from (suc c) n (Some s)) ≡ sharers_from (suc c) n (Some (renamed_star old new s))
        → map (renamed_sharer old new) (sharer_list c (cond b (Some s) None) ++ sharers_from (suc c) n (Some s)) ≡ sharers_from c (suc n) (Some (renamed_star old new s))
    go true e ih = (λ i. record { chunk = c; star = renamed_star old new s } ∷ ih i) ∙ ap (λ (b : Bool). sharer_list c (cond b (Some (renamed_star old new s)) None) ++ sharers_from (suc c) n (Some (renamed_star old new s))) (sym (shares-renamed old new c s.spokes ∙ e))
    go false e ih = ih ∙ ap (λ (b : Bool). sharer_list c (cond b (Some (renamed_star old new s)) None) ++ sharers_from (suc c) n (Some (renamed_star old new s))) (sym (shares-renamed old new c s.spokes ∙ e))

-- what is put over the same copies gives the same
spread-same : (name : ℕ) (ls : List Listed) (f g : ℕ → List Sharer) (n : ℕ) → f n ≡ g n → spread_at name ls f n ≡ spread_at name ls g n
spread-same name [] f g n e = e
spread-same name (l ∷ ls) f g n e = ap (λ (x : List Sharer). cond (n == named_node name l) (named_list name l) x) (spread-same name ls f g n e)

-- the last list is put first
spread-last : (name : ℕ) (ls : List Listed) (l : Listed) (f g : ℕ → List Sharer) (n : ℕ) → g n ≡ cond (n == named_node name l) (named_list name l) (f n) → spread_at name ls g n ≡ spread_at name (ls ++ l ∷ []) f n
spread-last name [] l f g n e = e
spread-last name (k ∷ ks) l f g n e = ap (λ (x : List Sharer). cond (n == named_node name k) (named_list name k) x) (spread-last name ks l f g n e)

-- a list is put, and the others are left
pub one_put : (name : ℕ) (all ls : List Listed) (l : Listed) (f g : ℕ → List Sharer) (whole : ℕ → List Sharer) → all ≡ ls ++ l ∷ [] → ((n : ℕ) → g n ≡ cond (n == named_node name l) (named_list name l) (f n)) → ((n : ℕ) → spread_at name all f n ≡ whole n) → (n : ℕ) → spread_at name ls g n ≡ whole n
one_put name all ls l f g whole is put kept n = spread-last name ls l f g n (put n) ∙ ap (λ (x : List Listed). spread_at name x f n) (sym is) ∙ kept n

pub in_front : (l : Listed) (ls : List Listed) (k : Listed) → Contains ls k → Contains (ls ++ l ∷ []) k
in_front l [] k h = absurd (nowhere k h)
in_front l (x ∷ xs) k h = ⊎_elim (λ (e : k ≡ x). subst (λ (z : Listed). Contains (z ∷ (xs ++ l ∷ [])) k) e (here k (xs ++ l ∷ []))) (λ (j : Contains xs k). there k x (xs ++ l ∷ []) (in_front l xs k j)) (cases k x xs h)

pub at_end : (l : Listed) (ls : List Listed) → Contains (ls ++ l ∷ []) l
at_end l [] = here l []
at_end l (x ∷ xs) = there l x (xs ++ l ∷ []) (at_end l xs)

module _ (chunks name : ℕ) where
  abbrev at : Held → ℕ
  at h = renamed later_name name h.node

  elsewhere : (fresh : List Held) (f : ℕ → List Sharer) (n : ℕ) → ((h : Held) → Contains fresh h → at h ≢ n) → spread_at name (ready_of chunks fresh) f n ≡ f n
  elsewhere [] f n out = refl
  elsewhere (h ∷ hs) f n out =
      let far : (n == at h) ≡ false = let z : at h ≢ n = out h (here h hs) in let y : n ≢ at h = λ e. z (sym e) in grind (arith, nat_tests) in
      ap (λ (b : Bool). cond b (named_list name (listed_of chunks h)) (spread_at name (ready_of chunks hs) f n)) far ∙ elsewhere hs f n (λ k i. out k (there k h hs i))

  inside : (fresh : List Held) (f : ℕ → List Sharer) → AreDifferent (map at fresh) → (h : Held) → Contains fresh h → spread_at name (ready_of chunks fresh) f (at h) ≡ sharers_in chunks (option_map (renamed_star later_name name) h.star)
  inside [] f d h i = absurd (nowhere h i)
  inside (k ∷ ks) f d h i = ⊎_elim
      (λ (e : h ≡ k). subst (λ (x : Held). spread_at name (ready_of chunks (k ∷ ks)) f (at x) ≡ sharers_in chunks (option_map (renamed_star later_name name) x.star)) (sym e) first)
      (λ (j : Contains ks h).
      let far : (at h == at k) ≡ false = let z : at k ≢ at h = d.0 (at h) (map-in at ks h j) in let y : at h ≢ at k = λ e. z (sym e) in grind (arith, nat_tests) in
      ap (λ (b : Bool). cond b (named_list name (listed_of chunks k)) (spread_at name (ready_of chunks ks) f (at h))) far ∙ inside ks f d.1 h j)
      (cases h k ks i)
    where
      first : spread_at name (ready_of chunks (k ∷ ks)) f (at k) ≡ sharers_in chunks (option_map (renamed_star later_name name) k.star)
      first =
          let same : (at k == at k) ≡ true = grind (arith, nat_tests) in
          ap (λ (b : Bool). cond b (named_list name (listed_of chunks k)) (spread_at name (ready_of chunks ks) f (at k))) same
          ∙ sharers-renamed later_name name 0 chunks k.star

pub spread_puts_due : SpreadPutsDue
spread_puts_due chunks name fresh copies apart = record { changed = λ h i. inside chunks name fresh copies apart h i; others = λ n out. elsewhere chunks name fresh copies n out }
