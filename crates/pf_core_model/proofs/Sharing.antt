-- The list of a node's copies: which copy each chunk has in it, and what a put makes of it.
use Rattle.std.proofs.Common.{◌≡◌, ◌≢◌, ℕ, zero, suc, ◌+◌, ◌<◌, ◌≤◌, Bool, true, false, cond, ◌==◌, List, [], ◌∷◌, ◌++◌, refl, sym, ap, ◌∙◌, subst, arith}
use Rattle.std.specs.Prelude.{Option, Some, None, is_some, nat_lt, Contains}
use Rattle.std.proofs.lemmas.Bool.Decides.{nat_tests}
use mathlib.Core.Logic.{dite}
use native.Mathlib.Decide.{dec_le, ℕ_discrete}
use Rattle.pf_model.specs.Mesh.{Undivided, has_corner, tri_of, point_of, place_of}
use Rattle.pf_model.specs.Conforming.{IsConforming}
use Rattle.pf_model.specs.Stars.{Star, star_of, spokes_of, spoke_of, spoke_lt, is_sharer}
use Rattle.pf_model.proofs.Kept.{any-from, any-means}
use Rattle.pf_model.proofs.Members.{insert_all_by-new}
use Rattle.pf_model.proofs.Spokes.{spoke_of-there, filter_map-in, spokes-means}
use Rattle.pf_model.proofs.Triangles.{tri_of-owner}
use Rattle.pf_star_model.specs.Lent.{spokes_in}
use Rattle.pf_star_model.specs.Copies.{due_copy}
use Rattle.pf_core_model.specs.declared.sharer.Sharer.{Sharer}
use Rattle.pf_core_model.specs.Sharers.{sharer_list, sharers_from, sharers_in, copy_in, kept_in, put_copy, IsListFrom}

-- the copies from a chunk on have none of a chunk before
copy_below : (c n : ℕ) (star : Option Star) (k : ℕ) → k < c → copy_in (sharers_from c n star) k ≡ None
copy_below c zero star k h = refl
copy_below c (suc n) star k h = go (due_copy c star) (copy_below (suc c) n star k (omega arith))
  where
    go : (x : Option Star) → copy_in (sharers_from (suc c) n star) k ≡ None → copy_in (sharer_list c x ++ sharers_from (suc c) n star) k ≡ None
    go None e = e
    go (Some s) e = let far : (c == k) ≡ false = grind (arith, nat_tests) in ap (λ (b : Bool). cond b (Some s) (copy_in (sharers_from (suc c) n star) k)) far ∙ e

copy_from : (c n : ℕ) (star : Option Star) (i : ℕ) → i < n → copy_in (sharers_from c n star) (c + i) ≡ due_copy (c + i) star
copy_from c zero star i h = absurd (omega arith)
copy_from c (suc n) star zero h = here (due_copy c star) refl
  where
    at : c + 0 ≡ c
    at = omega arith

    here : (x : Option Star) → due_copy c star ≡ x → copy_in (sharer_list c x ++ sharers_from (suc c) n star) (c + 0) ≡ due_copy (c + 0) star
    here None e = copy_below (suc c) n star (c + 0) (omega arith) ∙ sym e ∙ ap (λ (k : ℕ). due_copy k star) (sym at)
    here (Some s) e = let same : (c == c + 0) ≡ true = grind (arith, nat_tests) in ap (λ (b : Bool). cond b (Some s) (copy_in (sharers_from (suc c) n star) (c + 0))) same ∙ sym e ∙ ap (λ (k : ℕ). due_copy k star) (sym at)
copy_from c (suc n) star (suc i) h = go (due_copy c star) (copy_from (suc c) n star i (omega arith))
  where
    at : suc c + i ≡ c + suc i
    at = omega arith

    go : (x : Option Star) → copy_in (sharers_from (suc c) n star) (suc c + i) ≡ due_copy (suc c + i) star → copy_in (sharer_list c x ++ sharers_from (suc c) n star) (c + suc i) ≡ due_copy (c + suc i) star
    go None e = ap (λ (k : ℕ). copy_in (sharers_from (suc c) n star) k) (sym at) ∙ e ∙ ap (λ (k : ℕ). due_copy k star) at
    go (Some s) e =
        let far : (c == c + suc i) ≡ false = grind (arith, nat_tests) in
        ap (λ (b : Bool). cond b (Some s) (copy_in (sharers_from (suc c) n star) (c + suc i))) far
        ∙ ap (λ (k : ℕ). copy_in (sharers_from (suc c) n star) k) (sym at) ∙ e ∙ ap (λ (k : ℕ). due_copy k star) at

-- the copies of a node: each chunk has the copy that it is due, and no more
pub sharers_due : (chunks : ℕ) (star : Option Star) (i : ℕ) → i < chunks → copy_in (sharers_in chunks star) i ≡ due_copy i star
sharers_due chunks star i h = ap (λ (k : ℕ). copy_in (sharers_in chunks star) k) at ∙ copy_from 0 chunks star i h ∙ ap (λ (k : ℕ). due_copy k star) (sym at)
  where
    at : i ≡ 0 + i
    at = omega arith

pub none_due : (c n : ℕ) → sharers_from c n None ≡ []
none_due c zero = refl
none_due c (suc n) = none_due (suc c) n

kept_from : (c n k : ℕ) (star : Star) → c ≤ k → k < c + n → is_sharer k star.spokes ≡ true → kept_in (sharers_from c n (Some star)) ≡ Some star
kept_from c zero k star low high shares = absurd (omega arith)
kept_from c (suc n) k star low high shares = go (is_sharer c star.spokes) refl (λ ne. kept_from (suc c) n k star (omega arith) (omega arith) shares)
  where
    go : (b : Bool) → is_sharer c star.spokes ≡ b → (c ≢ k → kept_in (sharers_from (suc c) n (Some star)) ≡ Some star) → kept_in (sharer_list c (cond b (Some star) None) ++ sharers_from (suc c) n (Some star)) ≡ Some star
    go true e more = refl
    go false e more = more (λ same. let z : true ≡ false = sym shares ∙ ap (λ (x : ℕ). is_sharer x star.spokes) (sym same) ∙ e in absurd (cc (z)))

-- the keeper's copy is the star, where some chunk shares the node
pub kept_is : (chunks k : ℕ) (star : Star) → k < chunks → is_sharer k star.spokes ≡ true → kept_in (sharers_in chunks (Some star)) ≡ Some star
kept_is chunks k star h shares = kept_from 0 chunks k star (omega arith) (omega arith) shares

-- a list whose chunks begin later has no copy of this one
pub copy_before : (first chunks i : ℕ) (l : List Sharer) → IsListFrom first chunks l → i < first → copy_in l i ≡ None
copy_before first chunks i [] h low = refl
copy_before first chunks i (s ∷ ss) h low =
    let z = h.0 in
    let out : (s.chunk == i) ≡ false = grind (arith, nat_tests) in
    ap (λ (b : Bool). cond b (Some s.star) (copy_in ss i)) out ∙ copy_before (suc s.chunk) chunks i ss h.2 (omega arith)

pub list_lower : (first low chunks : ℕ) (l : List Sharer) → low ≤ first → IsListFrom first chunks l → IsListFrom low chunks l
list_lower first low chunks [] le h = tt
list_lower first low chunks (s ∷ ss) le h = (let z = h.0 in omega arith, h.1, h.2)

-- a copy that is put stands at its chunk
copy_first : (chunk chunks : ℕ) (c : Option Star) (l : List Sharer) → IsListFrom (suc chunk) chunks l → copy_in (sharer_list chunk c ++ l) chunk ≡ c
copy_first chunk chunks None l h = copy_before (suc chunk) chunks chunk l h (omega arith)
copy_first chunk chunks (Some s) l h = let same : (chunk == chunk) ≡ true = grind (arith, nat_tests) in ap (λ (b : Bool). cond b (Some s) (copy_in l chunk)) same

copy_other : (chunk k : ℕ) (c : Option Star) (l : List Sharer) → k ≢ chunk → copy_in (sharer_list chunk c ++ l) k ≡ copy_in l k
copy_other chunk k None l ne = refl
copy_other chunk k (Some s) l ne = let far : (chunk == k) ≡ false = let z : chunk ≢ k = λ e. ne (sym e) in grind (arith, nat_tests) in ap (λ (b : Bool). cond b (Some s) (copy_in l k)) far

list_first : (first chunk chunks : ℕ) (c : Option Star) (l : List Sharer) → first ≤ chunk → chunk < chunks → IsListFrom (suc chunk) chunks l → IsListFrom first chunks (sharer_list chunk c ++ l)
list_first first chunk chunks None l low high h = list_lower (suc chunk) first chunks l (omega arith) h
list_first first chunk chunks (Some s) l low high h = (low, high, h)

-- where a copy is put: behind the first member, in its place, or in front of it
data PutAt (chunk : ℕ) (c : Option Star) (s : Sharer) (ss : List Sharer) : Type 0 where
  behind : s.chunk < chunk → put_copy chunk c (s ∷ ss) ≡ s ∷ put_copy chunk c ss → PutAt chunk c s ss
  instead : s.chunk ≡ chunk → put_copy chunk c (s ∷ ss) ≡ sharer_list chunk c ++ ss → PutAt chunk c s ss
  before : chunk < s.chunk → put_copy chunk c (s ∷ ss) ≡ sharer_list chunk c ++ s ∷ ss → PutAt chunk c s ss

put_at : (chunk : ℕ) (c : Option Star) (s : Sharer) (ss : List Sharer) → PutAt chunk c s ss
put_at chunk c s ss = dite (dec_le (suc s.chunk) chunk)
    (λ (low : s.chunk < chunk). let is : nat_lt s.chunk chunk ≡ true = grind (arith, nat_tests) in
    behind low (ap (λ (b : Bool). cond b (s ∷ put_copy chunk c ss) (sharer_list chunk c ++ cond (s.chunk == chunk) ss (s ∷ ss))) is))
    (λ out. let is : nat_lt s.chunk chunk ≡ false = grind (arith, nat_tests) in
    dite (ℕ_discrete s.chunk chunk)
    (λ e. let same : (s.chunk == chunk) ≡ true = grind (arith, nat_tests) in
    instead e ((λ i. cond (is i) (s ∷ put_copy chunk c ss) (sharer_list chunk c ++ cond (same i) ss (s ∷ ss)))))
    (λ ne. let far : (s.chunk == chunk) ≡ false = grind (arith, nat_tests) in
    before (let z : chunk < s.chunk = omega arith in z) ((λ i. cond (is i) (s ∷ put_copy chunk c ss) (sharer_list chunk c ++ cond (far i) ss (s ∷ ss))))))

pub put_here : (first chunks chunk : ℕ) (c : Option Star) (l : List Sharer) → IsListFrom first chunks l → copy_in (put_copy chunk c l) chunk ≡ c
put_here first chunks chunk None [] h = refl
put_here first chunks chunk (Some s) [] h = copy_first chunk chunks (Some s) [] tt
put_here first chunks chunk c (s ∷ ss) h = elim (put_at chunk c s ss) [
  | behind low e ↦ (let far : (s.chunk == chunk) ≡ false = grind (arith, nat_tests) in
      ap (λ (l : List Sharer). copy_in l chunk) e ∙ ap (λ (b : Bool). cond b (Some s.star) (copy_in (put_copy chunk c ss) chunk)) far ∙ put_here (suc s.chunk) chunks chunk c ss h.2)
  | instead same e ↦ ap (λ (l : List Sharer). copy_in l chunk) e ∙ copy_first chunk chunks c ss (subst (λ (k : ℕ). IsListFrom (suc k) chunks ss) same h.2)
  | before low e ↦ ap (λ (l : List Sharer). copy_in l chunk) e ∙ copy_first chunk chunks c (s ∷ ss) (omega arith, h.1, h.2)
]

pub put_else : (chunk k : ℕ) (c : Option Star) (l : List Sharer) → k ≢ chunk → copy_in (put_copy chunk c l) k ≡ copy_in l k
put_else chunk k None [] ne = refl
put_else chunk k (Some s) [] ne = copy_other chunk k (Some s) [] ne
put_else chunk k c (s ∷ ss) ne = elim (put_at chunk c s ss) [
  | behind low e ↦ ap (λ (l : List Sharer). copy_in l k) e ∙ ap (λ (x : Option Star). cond (s.chunk == k) (Some s.star) x) (put_else chunk k c ss ne)
  | instead same e ↦ (let far : (s.chunk == k) ≡ false = let z : s.chunk ≢ k = λ x. ne (sym x ∙ same) in grind (arith, nat_tests) in
      ap (λ (l : List Sharer). copy_in l k) e ∙ copy_other chunk k c ss ne ∙ sym (ap (λ (b : Bool). cond b (Some s.star) (copy_in ss k)) far))
  | before low e ↦ ap (λ (l : List Sharer). copy_in l k) e ∙ copy_other chunk k c (s ∷ ss) ne
]

pub put_listed : (first chunks chunk : ℕ) (c : Option Star) (l : List Sharer) → first ≤ chunk → chunk < chunks → IsListFrom first chunks l → IsListFrom first chunks (put_copy chunk c l)
put_listed first chunks chunk None [] low high h = tt
put_listed first chunks chunk (Some s) [] low high h = (low, high, tt)
put_listed first chunks chunk c (s ∷ ss) low high h = elim (put_at chunk c s ss) [
  | behind less e ↦ subst (λ (l : List Sharer). IsListFrom first chunks l) (sym e) (h.0, h.1, put_listed (suc s.chunk) chunks chunk c ss (omega arith) high h.2)
  | instead same e ↦ subst (λ (l : List Sharer). IsListFrom first chunks l) (sym e) (list_first first chunk chunks c ss low high (subst (λ (k : ℕ). IsListFrom (suc k) chunks ss) same h.2))
  | before less e ↦ subst (λ (l : List Sharer). IsListFrom first chunks l) (sym e) (list_first first chunk chunks c (s ∷ ss) low high (omega arith, h.1, h.2))
]

-- a live node of a conforming mesh has a spoke, whose owner is a chunk
pub star_shared : (m : Undivided) (n : ℕ) (star : Star) → IsConforming m → star_of m n ≡ Some star → (k : ℕ) × (k < m.chunks) × (is_sharer k star.spokes ≡ true)
star_shared m n star ok e = go (is_some (point_of m.sites n)) refl e
  where
    go : (b : Bool) → is_some (point_of m.sites n) ≡ b → cond b (Some record { node = n; at = place_of m n; spokes = spokes_of m n }) None ≡ Some star → (k : ℕ) × (k < m.chunks) × (is_sharer k star.spokes ≡ true)
    go false live is = absurd (let z : false ≡ true = ap is_some is in cc (z))
    go true live is =
        let t = any-means (has_corner n) m.tris (ok.used n live) in
        let s = spoke_of-there m n t.0 t.2 in
        let inside : Contains (spokes_of m n) s.0 = insert_all_by-new spoke_lt s.0 _ [] (filter_map-in (spoke_of m n) m.tris t.0 s.0 t.1 s.1) in
        let owned = ok.owned (tri_of n s.0.right s.0.left s.0.owner) (spokes-means m ok n s.0 inside) in
        let owner = tri_of-owner n s.0.right s.0.left s.0.owner in
        let shares : is_sharer s.0.owner (spokes_of m n) ≡ true = any-from (λ r. r.owner == s.0.owner) s.0 (spokes_of m n) inside (let z : (s.0.owner == s.0.owner) ≡ true = grind (arith, nat_tests) in z) in
        (s.0.owner, omega arith, subst (λ (x : Option Star). is_sharer s.0.owner (spokes_in x) ≡ true) is shares)

-- the spokes of a live node's star
pub spokes_are_of : (m : Undivided) (n : ℕ) (star : Star) → star_of m n ≡ Some star → spokes_in (star_of m n) ≡ spokes_of m n
spokes_are_of m n star e = go (is_some (point_of m.sites n)) e
  where
    go : (b : Bool) → cond b (Some record { node = n; at = place_of m n; spokes = spokes_of m n }) None ≡ Some star → spokes_in (cond b (Some record { node = n; at = place_of m n; spokes = spokes_of m n }) None) ≡ spokes_of m n
    go true k = refl
    go false k = absurd (let z : false ≡ true = ap is_some k in cc (z))
