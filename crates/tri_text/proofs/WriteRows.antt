-- The texts as the loops write them, and the places of names among sites that rise.
use Rattle.std.proofs.Common.{◌≡◌, ℕ, zero, suc, ◌+◌, ◌<◌, ◌≤◌, Bool, true, false, cond, List, [], ◌∷◌, ◌++◌, length, get_or, drop, map, ap, sym, ◌∙◌, arith, inl, inr}
use Rattle.std.specs.Prelude.{count_by, nat_lt, AllPairs}
use Rattle.std.specs.List.{AllWithin}
use Rattle.std.specs.List.Sorted.{IsNonDecreasingBy, IsPartitionPoint}
use Rattle.std.proofs.lemmas.Bool.{cases_lt, lt-ltb, le-ltb}
use Rattle.std.proofs.lemmas.List.{get_or_default}
use Rattle.std.proofs.lemmas.List.Sums.{sum_by-cons}
use Rattle.pf_model.specs.declared.Site.{Site}
use Rattle.pf_model.specs.declared.Tri.{Tri}
use Rattle.pf_model.specs.Texts.{lines_text, node_lines, ele_lines, place_among, renumbered}

-- ---- nodes

-- the text is what was written and the lines of the sites that are left
pub record NodesLeft (out : List ℕ) (base place : ℕ) (sites : List Site) (target : List ℕ) : Type 0 where
  pub text : out ++ lines_text (node_lines (base + place) (map (λ s. s.at) (drop place sites))) ≡ target

-- ---- triangles

-- the text is what was written and the lines of the triangles that are left
pub record TrianglesLeft (out : List ℕ) (base place : ℕ) (sites : List Site) (ts : List Tri) (target : List ℕ) : Type 0 where
  pub text : out ++ lines_text (ele_lines base (base + place) (map (renumbered sites) (drop place ts))) ≡ target

-- ---- places among sites that rise

-- where all that pass stand in front, their number is where they end
count_to : {X : Type 0} (p : X → Bool) (xs : List X) (i : ℕ) → i ≤ length xs → AllWithin (λ x. p x ≡ true) xs 0 i → AllWithin (λ x. p x ≡ false) xs i (length xs) → count_by p xs ≡ i
count_to p [] i h before after = omega arith
count_to p (x ∷ xs) zero h before after =
    let first : p x ≡ false = after 0 x (omega arith) (omega arith) in
    let others = count_to p xs zero (omega arith) (λ k d low high. absurd (omega arith)) (λ k d low high. after (suc k) d (omega arith) (omega arith)) in
    rw (sum_by-cons (λ y. cond (p y) 1 0) x xs, first) (omega (arith, others))
count_to p (x ∷ xs) (suc i) h before after =
    let first : p x ≡ true = before 0 x (omega arith) (omega arith) in
    let others = count_to p xs i (omega arith) (λ k d low high. before (suc k) d (omega arith) (omega arith)) (λ k d low high. after (suc k) d (omega arith) (omega arith)) in
    rw (sum_by-cons (λ y. cond (p y) 1 0) x xs, first) (omega (arith, others))

-- names rise
abbrev pub NamesRise : List Site → Type 0
NamesRise sites = AllPairs (λ r s. r.name < s.name) sites

-- a live name's place is where it stands
pub place_where : (sites : List Site) (i n : ℕ) (s : Site) → NamesRise sites → i < length sites → s ≡ get_or sites i s → s.name ≡ n → place_among sites n ≡ i
place_where sites i n s rise there is named =
    let named_at : (d : Site) → (get_or sites i d).name ≡ n = λ d. ap (λ (r : Site). r.name) (get_or_default sites i d s there ∙ sym is) ∙ named in
    count_to (λ r. nat_lt r.name n) sites i (omega arith)
    (λ k d low high. lt-ltb _ _ (omega (arith, rise k i d high there, named_at d)))
    (λ k d low high. le-ltb _ _ (not_below k d low high (named_at d)))
  where
    not_below : (k : ℕ) (d : Site) → i ≤ k → k < length sites → (get_or sites i d).name ≡ n → n ≤ (get_or sites k d).name
    not_below k d low high at =
        elim (cases_lt i k) [
          | inl lt ↦ omega (arith, rise i k d lt high)
          | inr le ↦ (let same : k ≡ i = omega arith in rw same (omega arith))
        ]

-- a name's place is where the names that are below it end
pub place_from : (sites : List Site) (i n : ℕ) → i ≤ length sites → IsPartitionPoint (λ r. nat_lt r.name n ≡ true) (λ r. nat_lt r.name n ≡ false) sites i → place_among sites n ≡ i
place_from sites i n within point = count_to (λ r. nat_lt r.name n) sites i within point.0 point.1

-- names that rise don't fall
pub names_stay : (sites : List Site) → NamesRise sites → IsNonDecreasingBy (λ r. r.name) sites
names_stay sites rise i j d le high =
    elim (cases_lt i j) [
      | inl lt ↦ omega (arith, rise i j d lt high)
      | inr ge ↦ (let same : j ≡ i = omega arith in rw same (omega arith))
    ]
