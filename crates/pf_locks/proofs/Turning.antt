-- Slots that are turned.
use Rattle.std.proofs.Common.{◌≡◌, ℕ, zero, suc, ◌+◌, ◌-◌, ◌<◌, ◌≤◌, List, [], ◌∷◌, ◌++◌, length, take, drop, refl, sym, ap, ◌∙◌, arith, append_assoc, length-append}
use Rattle.std.specs.Prelude.{slice_index_or, remove}
use Rattle.std.proofs.lemmas.List.{append-nil}
use Rattle.atomic_table.specs.Table.{turned}
use Rattle.pf_core_model.specs.declared.sharer.Sharer.{Sharer}
use Rattle.pf_locks.specs.Turned.{rotated}

abbrev pub Hand : Type 0
Hand = List (ℕ × List Sharer)

at_some : (l : Hand) (i : ℕ) → i < length l → (p : ℕ × List Sharer) × (drop i l ≡ p ∷ drop (suc i) l) × (take i l ++ p ∷ [] ≡ take (suc i) l)
at_some [] i h = absurd (omega arith)
at_some (x ∷ xs) zero h = (x, refl, refl)
at_some (x ∷ xs) (suc i) h = let r = at_some xs i (omega arith) in (r.0, r.1, ap (λ l. x ∷ l) r.2)

pub rotates : (l : Hand) (i : ℕ) → i ≤ length l → rotated i l ≡ drop i l ++ take i l
rotates l zero h = sym (append-nil l)
rotates l (suc i) h =
    let a = at_some l i (omega arith) in
    ap turned (rotates l i (omega arith) ∙ ap (λ xs. xs ++ take i l) a.1)
    ∙ append_assoc (drop (suc i) l) (take i l) (a.0 ∷ []) ∙ ap (λ xs. drop (suc i) l ++ xs) a.2

seam_drop : (xs ys : Hand) → drop (length xs) (xs ++ ys) ≡ ys
seam_drop [] ys = refl
seam_drop (x ∷ xs) ys = seam_drop xs ys

seam_take : (xs ys : Hand) → take (length xs) (xs ++ ys) ≡ xs
seam_take [] ys = refl
seam_take (x ∷ xs) ys = ap (λ l. x ∷ l) (seam_take xs ys)

long_drop : (l : Hand) (i : ℕ) → i < length l → length (drop (suc i) l) + suc i ≡ length l
long_drop [] i h = absurd (omega arith)
long_drop (x ∷ xs) zero h = omega arith
long_drop (x ∷ xs) (suc i) h = let r = long_drop xs i (omega arith) in omega arith

-- the i-th slot is in front after i turns
pub comes_first : (l : Hand) (i : ℕ) (d : ℕ × List Sharer) → i < length l → rotated i l ≡ slice_index_or l i d ∷ (drop (suc i) l ++ take i l)
comes_first l i d h = rotates l i (omega arith) ∙ ap (λ xs. xs ++ take i l) (here l i d h)
  where
    here : (l : Hand) (i : ℕ) (d : ℕ × List Sharer) → i < length l → drop i l ≡ slice_index_or l i d ∷ drop (suc i) l
    here [] i d h = absurd (omega arith)
    here (x ∷ xs) zero d h = refl
    here (x ∷ xs) (suc i) d h = here xs i d (omega arith)

-- when it is gone, the other turns bring back the order
pub goes_back : (l : Hand) (i : ℕ) → i < length l → rotated (length l - 1 - i) (drop (suc i) l ++ take i l) ≡ remove l i
goes_back l i h =
    let xs : Hand = drop (suc i) l in
    let ys : Hand = take i l in
    let n : length l - 1 - i ≡ length xs = let r = long_drop l i h in omega arith in
    let fits : length xs ≤ length (xs ++ ys) = omega (arith, length-append xs ys) in
    ap (λ k. rotated k (xs ++ ys)) n ∙ rotates (xs ++ ys) (length xs) fits ∙ ap (λ zs. zs ++ take (length xs) (xs ++ ys)) (seam_drop xs ys) ∙ ap (λ zs. ys ++ zs) (seam_take xs ys)
