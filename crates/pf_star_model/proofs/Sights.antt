-- Two meshes with the same bands, and the same points at some names: their lengths, turns and bands there are the same.
use Rattle.std.proofs.Common.{◌≡◌, ℕ, ◌≤◌, List, [], ◌∷◌, refl, ◌∙◌, ap, subst, Bool, true, false, cond, ◌⊎◌, inl, inr, arith}
use Rattle.std.specs.Prelude.{ℤ, pos, find, int_lt, Contains, Option, Some, None, min, max, filter, fold, not, ◌&&◌, ◌||◌, ◌==◌}
use Rattle.pf_geom.specs.declared.Point.{Point}
use Rattle.pf_geom.specs.Plane.{len2_of}
use Rattle.pf_model.specs.declared.Band.{Band}
use Rattle.pf_model.specs.declared.Spoke.{Spoke}
use Rattle.pf_model.specs.declared.Cond.TheVariants.{Inverts}
use Rattle.pf_model.specs.declared.Side.{Side}
use Rattle.pf_model.specs.Mesh.{Undivided, place_of, turn_at, len2_at}
use Rattle.pf_model.specs.Lengths.{Edge, edge_of, holds_middle, is_longer, longer_of, longest_of, min2_of, is_long}
use Rattle.pf_model.specs.Conditions.{not_longest, least_that, lesser, inverted, is_positive}
use Rattle.pf_model.proofs.Members.{here, there}

-- the name stands at one point in both
abbrev pub IsAlike : Undivided → Undivided → ℕ → Type 0
IsAlike w m n = place_of w n ≡ place_of m n

pub min_or_max : (P : ℕ → Type 0) (p q : ℕ) → P p → P q → P (min p q) × P (max p q)
min_or_max P p q hp hq = go (order p q)
  where
    order : (x y : ℕ) → (x ≤ y) ⊎ (y ≤ x)
    order x y = grind arith

    go : (p ≤ q) ⊎ (q ≤ p) → P (min p q) × P (max p q)
    go (inl l) = let e : p ≡ min p q = omega arith in let f : q ≡ max p q = omega arith in (subst P e hp, subst P f hq)
    go (inr l) = let e : q ≡ min p q = omega arith in let f : p ≡ max p q = omega arith in (subst P e hq, subst P f hp)

-- both ends of an edge do
abbrev AreAlike : Undivided → Undivided → Edge → Type 0
AreAlike w m e = IsAlike w m e.lo × IsAlike w m e.hi

edge_of-alike : (w m : Undivided) (p q : ℕ) → IsAlike w m p → IsAlike w m q → AreAlike w m (edge_of p q)
edge_of-alike w m p q hp hq = min_or_max (λ n. IsAlike w m n) p q hp hq

pub turn_at-alike : (w m : Undivided) (p q z : ℕ) → IsAlike w m p → IsAlike w m q → IsAlike w m z → turn_at w p q z ≡ turn_at m p q z
turn_at-alike w m p q z hp hq hz = rw (hp, hq, hz) refl

pub len2_at-alike : (w m : Undivided) (p q : ℕ) → IsAlike w m p → IsAlike w m q → len2_at w p q ≡ len2_at m p q
len2_at-alike w m p q hp hq = rw (hp, hq) refl

is_longer-alike : (w m : Undivided) (e f : Edge) → AreAlike w m e → AreAlike w m f → is_longer w e f ≡ is_longer m e f
is_longer-alike w m e f he hf = rw (he.0, he.1, hf.0, hf.1) refl

longer_of-alike : (w m : Undivided) (e f : Edge) → AreAlike w m e → AreAlike w m f → (longer_of w e f ≡ longer_of m e f) × AreAlike w m (longer_of m e f)
longer_of-alike w m e f he hf = (ap (λ b. cond b f e) (is_longer-alike w m e f he hf), go (is_longer m e f))
  where
    go : (b : Bool) → AreAlike w m (cond b f e)
    go true = hf
    go false = he

pub longest_of-alike : (w m : Undivided) (p q z : ℕ) → IsAlike w m p → IsAlike w m q → IsAlike w m z → longest_of w p q z ≡ longest_of m p q z
longest_of-alike w m p q z hp hq hz =
    let a = longer_of-alike w m (edge_of p q) (edge_of q z) (edge_of-alike w m p q hp hq) (edge_of-alike w m q z hq hz) in
    let b = longer_of-alike w m (longer_of m (edge_of p q) (edge_of q z)) (edge_of z p) a.1 (edge_of-alike w m z p hz hp) in
    ap (λ e. longer_of w e (edge_of z p)) a.0 ∙ b.0

pub not_longest-alike : (w m : Undivided) (p q : ℕ) (s : Option Side) → IsAlike w m p → IsAlike w m q → ((x : Side) → s ≡ Some x → IsAlike w m x.apex) → not_longest w p q s ≡ not_longest m p q s
not_longest-alike w m p q None hp hq hs = refl
not_longest-alike w m p q (Some s) hp hq hs = rw (longest_of-alike w m p q s.apex hp hq (hs s refl)) refl

abbrev min2_by : List Band → Point → Point → ℤ
min2_by bands p q = elim (find (holds_middle p q) bands) [ None ↦ pos 0 | Some row ↦ row.min2 ]

pub min2_of-alike : (w m : Undivided) (p q : ℕ) → w.bands ≡ m.bands → IsAlike w m p → IsAlike w m q → min2_of w p q ≡ min2_of m p q
min2_of-alike w m p q b hp hq = ap (λ k. min2_by k (place_of w p) (place_of w q)) b ∙ (ap (λ k. min2_by m.bands k (place_of w q)) hp ∙ ap (λ k. min2_by m.bands (place_of m p) k) hq)

abbrev is_long_by : List Band → Point → Point → Bool
is_long_by bands p q = elim (find (holds_middle p q) bands) [ None ↦ false | Some row ↦ int_lt row.max2 (len2_of p q) ]

pub is_long-alike : (w m : Undivided) (p q : ℕ) → w.bands ≡ m.bands → IsAlike w m p → IsAlike w m q → is_long w p q ≡ is_long m p q
is_long-alike w m p q b hp hq = ap (λ k. is_long_by k (place_of w p) (place_of w q)) b ∙ (ap (λ k. is_long_by m.bands k (place_of w q)) hp ∙ ap (λ k. is_long_by m.bands (place_of m p) k) hq)

pub inverted-alike : (w m : Undivided) (v : ℕ) (ss : List Spoke) → IsAlike w m v → ((s : Spoke) → Contains ss s → IsAlike w m s.right × IsAlike w m s.left) → inverted w v ss ≡ inverted m v ss
inverted-alike w m v [] hv hs = refl
inverted-alike w m v (s ∷ ss) hv hs =
    let k = hs s (here s ss) in
    let ih = inverted-alike w m v ss hv (λ r h. hs r (there r s ss h)) in
    ap (λ z. cond (not (s.right == v || s.left == v) && not (is_positive z)) (Some (Inverts s.right s.left)) (inverted w v ss)) (turn_at-alike w m v s.right s.left hv k.0 k.1) ∙ ap (λ o. cond (not (s.right == v || s.left == v) && not (is_positive (turn_at m v s.right s.left))) (Some (Inverts s.right s.left)) o) ih

filter-agree : (p q : ℕ → Bool) (ns : List ℕ) → ((n : ℕ) → Contains ns n → p n ≡ q n) → filter p ns ≡ filter q ns
filter-agree p q [] h = refl
filter-agree p q (n ∷ ns) h = ap (λ b. cond b (n ∷ filter p ns) (filter p ns)) (h n (here n ns)) ∙ ap (λ l. cond (q n) (n ∷ l) l) (filter-agree p q ns (λ k i. h k (there k n ns i)))

pub least_that-agree : (p q : ℕ → Bool) (ns : List ℕ) → ((n : ℕ) → Contains ns n → p n ≡ q n) → least_that p ns ≡ least_that q ns
least_that-agree p q ns h = ap (λ l. fold lesser None l) (filter-agree p q ns h)
