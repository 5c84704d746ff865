-- What a plan puts in, and where its corners stand: as the star of a node of a conforming mesh shows it.
use Rattle.std.proofs.Common.{◌≡◌, ◌≢◌, ℕ, List, [], ◌∷◌, ◌++◌, refl, sym, ◌∙◌, ap, subst, Bool, true, false, cond, inl, inr, arith, ◌||◌}
use Rattle.std.specs.Prelude.{Contains, Option, Some, None, is_some, filter, map, not, ◌==◌}
use Rattle.std.specs.Option.{option_map}
use Rattle.std.proofs.lemmas.Bool.Decides.{nat_tests}
use Rattle.std.proofs.lemmas.List.Elements.{Contains-append_cases}
use Rattle.pf_geom.specs.declared.Point.{Point}
use Rattle.pf_model.specs.declared.Spoke.{Spoke}
use Rattle.pf_model.specs.Mesh.{Undivided, tri_of, side_of, place_of}
use Rattle.pf_model.specs.Conforming.{IsConforming}
use Rattle.pf_model.specs.Applied.{flip_added, halves_of}
use Rattle.pf_model.specs.Stars.{spokes_of}
use Rattle.pf_model.proofs.Members.{nowhere, here, there, cases, filter-out}
use Rattle.pf_model.proofs.Spokes.{spokes-means}
use Rattle.pf_model.proofs.FlipKeeps.{corners_of}
use Rattle.pf_model.proofs.Totals.{map-means}
use Rattle.pf_model.proofs.Turns.{AreDistinct}
use Rattle.pf_star_model.specs.Lent.{side_to, side_from, has_name, tri_at}
use Rattle.pf_star_model.specs.Patched.{moved_seen}
use Rattle.pf_star_model.proofs.Shown.{IsSeen, spokes-placed, side_to-shown, side_from-shown}
use Rattle.pf_rings.specs.Points.{first_to, first_from, left_side, right_side}
use Rattle.pf_patch.specs.declared.tris.Corner.{Corner}
use Rattle.pf_patch.specs.declared.tris.NewTri.{NewTri}
use Rattle.pf_patch.specs.Tris.{IsStanding, tri_value}
use Rattle.pf_patch.specs.Plans.{corner, right_of, left_of, flip_triangles, halves, left_halves, right_halves, cut, end_at, moved, moved_one}

eq_holds : (a b : ℕ) → (a == b) ≡ true → a ≡ b
eq_holds a b h = grind (arith, nat_tests)

some_same : {X : Type 0} {a b : X} → Some a ≡ Some b → a ≡ b
some_same q = cc

-- the first spoke with a right, or with a left
pub first_to-side : (n : ℕ) (ss : List Spoke) → option_map left_side (first_to n ss) ≡ side_to n ss
first_to-side n [] = refl
first_to-side n (s ∷ ss) = go (s.right == n) (first_to-side n ss)
  where
    go : (b : Bool) → option_map left_side (first_to n ss) ≡ side_to n ss → option_map left_side (cond b (Some s) (first_to n ss)) ≡ cond b (Some (left_side s)) (side_to n ss)
    go true ih = refl
    go false ih = ih

pub first_from-side : (n : ℕ) (ss : List Spoke) → option_map right_side (first_from n ss) ≡ side_from n ss
first_from-side n [] = refl
first_from-side n (s ∷ ss) = go (s.left == n) (first_from-side n ss)
  where
    go : (b : Bool) → option_map right_side (first_from n ss) ≡ side_from n ss → option_map right_side (cond b (Some s) (first_from n ss)) ≡ cond b (Some (right_side s)) (side_from n ss)
    go true ih = refl
    go false ih = ih

pub first_to-some : (n : ℕ) (ss : List Spoke) (s : Spoke) → first_to n ss ≡ Some s → Contains ss s × (s.right ≡ n)
first_to-some n [] s h = absurd (let e : None ≡ Some s = h in cc)
first_to-some n (x ∷ xs) s h = go (x.right == n) refl h (λ e. first_to-some n xs s e)
  where
    go : (b : Bool) → (x.right == n) ≡ b → cond b (Some x) (first_to n xs) ≡ Some s → (first_to n xs ≡ Some s → Contains xs s × (s.right ≡ n)) → Contains (x ∷ xs) s × (s.right ≡ n)
    go true e f ih = let q : x ≡ s = some_same f in (subst (λ w. Contains (w ∷ xs) s) (sym q) (here s xs), ap (λ w. w.right) (sym q) ∙ eq_holds x.right n e)
    go false e f ih = let r = ih f in (there s x xs r.0, r.1)

pub first_from-some : (n : ℕ) (ss : List Spoke) (s : Spoke) → first_from n ss ≡ Some s → Contains ss s × (s.left ≡ n)
first_from-some n [] s h = absurd (let e : None ≡ Some s = h in cc)
first_from-some n (x ∷ xs) s h = go (x.left == n) refl h (λ e. first_from-some n xs s e)
  where
    go : (b : Bool) → (x.left == n) ≡ b → cond b (Some x) (first_from n xs) ≡ Some s → (first_from n xs ≡ Some s → Contains xs s × (s.left ≡ n)) → Contains (x ∷ xs) s × (s.left ≡ n)
    go true e f ih = let q : x ≡ s = some_same f in (subst (λ w. Contains (w ∷ xs) s) (sym q) (here s xs), ap (λ w. w.left) (sym q) ∙ eq_holds x.left n e)
    go false e f ih = let r = ih f in (there s x xs r.0, r.1)

-- the triangles that a flip puts in
pub turned-tris : (lo hi : Corner) (l r : Option Spoke) → ((s : Spoke) → l ≡ Some s → s.right ≡ hi.name) → map tri_value (flip_triangles lo l r) ≡ flip_added lo.name hi.name (option_map left_side l) (option_map right_side r)
turned-tris lo hi None r h = refl
turned-tris lo hi (Some l) None h = refl
turned-tris lo hi (Some l) (Some r) h = ap (λ q. tri_of lo.name r.right l.left l.owner ∷ tri_of q l.left r.right r.owner ∷ []) (h l refl)

map-append : (xs ys : List NewTri) → map tri_value (xs ++ ys) ≡ map tri_value xs ++ map tri_value ys
map-append [] ys = refl
map-append (x ∷ xs) ys = ap (λ l. tri_value x ∷ l) (map-append xs ys)

left_halves-tris : (n lo hi : Corner) (l : Option Spoke) → map tri_value (left_halves n lo hi l) ≡ halves_of n.name lo.name hi.name (option_map left_side l)
left_halves-tris n lo hi None = refl
left_halves-tris n lo hi (Some l) = refl

right_halves-tris : (n lo hi : Corner) (r : Option Spoke) → map tri_value (right_halves n lo hi r) ≡ halves_of n.name hi.name lo.name (option_map right_side r)
right_halves-tris n lo hi None = refl
right_halves-tris n lo hi (Some r) = refl

-- those that a bisection puts in
pub cut-tris : (n lo hi : Corner) (l r : Option Spoke) → map tri_value (cut n lo hi l r) ≡ halves_of n.name lo.name hi.name (option_map left_side l) ++ halves_of n.name hi.name lo.name (option_map right_side r)
cut-tris n lo hi l r = map-append (left_halves n lo hi l) (right_halves n lo hi r) ∙ (λ i. left_halves-tris n lo hi l i ++ right_halves-tris n lo hi r i)

-- those that a contraction puts in
pub moved-tris : (v : Corner) (us : List Spoke) → map tri_value (moved v us) ≡ moved_seen v.name us
moved-tris v us = go (filter (λ s. not (has_name v.name s)) us)
  where
    go : (ss : List Spoke) → map tri_value (map (moved_one v) ss) ≡ map (tri_at v.name) ss
    go [] = refl
    go (s ∷ ss) = ap (λ l. tri_of v.name s.right s.left s.owner ∷ l) (go ss)

-- corners by name and point
pub record StandsIn (w : Undivided) (c : Corner) : Type 0 where
  pub at : c.at ≡ place_of w c.name

stands : (w : Undivided) (p q z : Corner) (o : ℕ) → StandsIn w p → StandsIn w q → StandsIn w z → AreDistinct p.name q.name z.name → IsStanding w record { p = p; q = q; z = z; owner = o }
stands w p q z o hp hq hz d = record { first = hp.at; second = hq.at; third = hz.at; one = d.one; two = d.two; three = d.three }

module _ (m : Undivided) (ok : IsConforming m) (n : ℕ) (w : Undivided) (shows : (x : ℕ) → IsSeen m n x → place_of w x ≡ place_of m x) where
  abbrev ss : List Spoke
  ss = spokes_of m n

  own-stands : StandsIn w (corner n (place_of m n))
  own-stands = record { at = sym (shows n (inl refl)) }

  right-stands : (s : Spoke) → Contains ss s → StandsIn w (right_of s)
  right-stands s h = record { at = (spokes-placed m n s h).right ∙ sym (shows s.right (inr (s, h, inl refl))) }

  left-stands : (s : Spoke) → Contains ss s → StandsIn w (left_of s)
  left-stands s h = record { at = (spokes-placed m n s h).left ∙ sym (shows s.left (inr (s, h, inr refl))) }

  distinct : (s : Spoke) → Contains ss s → AreDistinct n s.right s.left
  distinct s h = (corners_of m ok n s.right s.left s.owner (spokes-means m ok n s h)).distinct

  -- what a flip puts in stands
  pub turned-stand : (hi : ℕ) (l r : Option Spoke) → ((s : Spoke) → l ≡ Some s → Contains ss s × (s.right ≡ hi)) → ((s : Spoke) → r ≡ Some s → Contains ss s × (s.left ≡ hi)) → ((a b : Spoke) → l ≡ Some a → r ≡ Some b → AreDistinct n b.right a.left × AreDistinct hi a.left b.right) → (t : NewTri) → Contains (flip_triangles (corner n (place_of m n)) l r) t → IsStanding w t
  turned-stand hi None r hl hr d t h = absurd (nowhere t h)
  turned-stand hi (Some l) None hl hr d t h = absurd (nowhere t h)
  turned-stand hi (Some l) (Some r) hl hr d t h =
      let kl = hl l refl in
      let kr = hr r refl in
      let k = d l r refl refl in
      let one : NewTri = record { p = corner n (place_of m n); q = right_of r; z = left_of l; owner = l.owner } in
      let two : NewTri = record { p = right_of l; q = left_of l; z = right_of r; owner = r.owner } in
      elim (cases t one (two ∷ []) h) [
        | inl e ↦ subst (IsStanding w) (sym e) (stands w (corner n (place_of m n)) (right_of r) (left_of l) l.owner own-stands (right-stands r kr.0) (left-stands l kl.0) k.0)
        | inr i ↦ elim (cases t two [] i) [
          | inl e ↦ subst (IsStanding w) (sym e) (stands w (right_of l) (left_of l) (right_of r) r.owner (right-stands l kl.0) (left-stands l kl.0) (right-stands r kr.0) (subst (λ q. AreDistinct q l.left r.right) (sym kl.1) k.1))
          | inr z ↦ absurd (nowhere t z)
        ]
      ]

  -- halves stand
  halves-stand : (new p q apex : Corner) (o : ℕ) → StandsIn w new → StandsIn w p → StandsIn w q → StandsIn w apex → (p.name ≢ new.name) → (q.name ≢ new.name) → (apex.name ≢ new.name) → (p.name ≢ apex.name) → (q.name ≢ apex.name) → (t : NewTri) → Contains (halves new p q apex o) t → IsStanding w t
  halves-stand new p q apex o hn hp hq ha dp dq da ep eq t h =
      let one : NewTri = record { p = p; q = new; z = apex; owner = o } in
      let two : NewTri = record { p = new; q = q; z = apex; owner = o } in
      elim (cases t one (two ∷ []) h) [
        | inl e ↦ subst (IsStanding w) (sym e) (stands w p new apex o hp hn ha record { one = dp; two = λ e. da (sym e); three = λ e. ep (sym e) })
        | inr i ↦ elim (cases t two [] i) [
          | inl e ↦ subst (IsStanding w) (sym e) (stands w new q apex o hn hq ha record { one = λ e. dq (sym e); two = eq; three = da })
          | inr z ↦ absurd (nowhere t z)
        ]
      ]

  -- what a bisection puts in stands
  pub cut-stand : (new : Corner) (hi : ℕ) (p : Point) (l r : Option Spoke) → StandsIn w new → StandsIn w (corner hi p) → ((x : ℕ) → IsSeen m n x → x ≢ new.name) → ((s : Spoke) → l ≡ Some s → Contains ss s × (s.right ≡ hi)) → ((s : Spoke) → r ≡ Some s → Contains ss s × (s.left ≡ hi)) → (t : NewTri) → Contains (cut new (corner n (place_of m n)) (corner hi p) l r) t → IsStanding w t
  cut-stand new hi p l r hn hh fresh hl hr t h = elim (Contains-append_cases (left_halves new lo end l) (right_halves new lo end r) t h) [ inl i ↦ on_left l hl i | inr i ↦ on_right r hr i ]
    where
      lo : Corner
      lo = corner n (place_of m n)

      end : Corner
      end = corner hi p

      on_left : (o : Option Spoke) → ((s : Spoke) → o ≡ Some s → Contains ss s × (s.right ≡ hi)) → Contains (left_halves new lo end o) t → IsStanding w t
      on_left None k i = absurd (nowhere t i)
      on_left (Some s) k i =
          let c = k s refl in
          let d = distinct s c.0 in
          halves-stand new lo end (left_of s) s.owner hn own-stands hh (left-stands s c.0) (fresh n (inl refl)) (subst (λ q. q ≢ new.name) c.1 (fresh s.right (inr (s, c.0, inl refl)))) (fresh s.left (inr (s, c.0, inr refl))) (λ e. d.three (sym e)) (subst (λ q. q ≢ s.left) c.1 d.two) t i

      on_right : (o : Option Spoke) → ((s : Spoke) → o ≡ Some s → Contains ss s × (s.left ≡ hi)) → Contains (right_halves new lo end o) t → IsStanding w t
      on_right None k i = absurd (nowhere t i)
      on_right (Some s) k i =
          let c = k s refl in
          let d = distinct s c.0 in
          halves-stand new end lo (right_of s) s.owner hn hh own-stands (right-stands s c.0) (subst (λ q. q ≢ new.name) c.1 (fresh s.left (inr (s, c.0, inr refl)))) (fresh n (inl refl)) (fresh s.right (inr (s, c.0, inl refl))) (subst (λ q. q ≢ s.right) c.1 (λ e. d.two (sym e))) d.one t i

  -- what a contraction puts in stands
  pub moved-stand : (v : ℕ) (p : Point) → StandsIn w (corner v p) → (t : NewTri) → Contains (moved (corner v p) ss) t → IsStanding w t
  moved-stand v p hv t h =
      let r = map-means (moved_one (corner v p)) (filter (λ s. not (has_name v s)) ss) t h in
      let s = r.0 in
      let o = filter-out (λ k. not (has_name v k)) s ss r.1 in
      let d = distinct s o.0 in
      let a = apart s.right s.left o.1 in
      subst (IsStanding w) r.2 (stands w (corner v p) (right_of s) (left_of s) s.owner hv (right-stands s o.0) (left-stands s o.0) record { one = a.0; two = d.two; three = a.1 })
    where
      one : (x y : ℕ) → not (x == v || y == v) ≡ true → v ≢ x
      one x y k = grind (arith, nat_tests)

      two : (x y : ℕ) → not (x == v || y == v) ≡ true → y ≢ v
      two x y k = grind (arith, nat_tests)

      apart : (x y : ℕ) → not (x == v || y == v) ≡ true → (v ≢ x) × (y ≢ v)
      apart x y k = (one x y k, two x y k)

  -- where the other end of an edge stands
  pub end-stands : (q : ℕ) → (is_some (side_of m.tris n q) || is_some (side_of m.tris q n)) ≡ true → end_at (first_to q ss) (first_from q ss) ≡ place_of m q
  end-stands q h = go (first_to q ss) refl (first_from q ss) refl
    where
      left_none : first_to q ss ≡ None → side_of m.tris n q ≡ None
      left_none e = sym (side_to-shown m ok n q) ∙ (sym (first_to-side q ss) ∙ ap (option_map left_side) e)

      right_none : first_from q ss ≡ None → side_of m.tris q n ≡ None
      right_none e = sym (side_from-shown m ok n q) ∙ (sym (first_from-side q ss) ∙ ap (option_map right_side) e)

      go : (a : Option Spoke) → first_to q ss ≡ a → (b : Option Spoke) → first_from q ss ≡ b → end_at a b ≡ place_of m q
      go (Some l) e b f = let c = first_to-some q ss l e in (spokes-placed m n l c.0).right ∙ ap (place_of m) c.1
      go None e (Some r) f = let c = first_from-some q ss r f in (spokes-placed m n r c.0).left ∙ ap (place_of m) c.1
      go None e None f = absurd (let z : false ≡ true = sym (λ i. is_some (left_none e i) || is_some (right_none f i)) ∙ h in cc)
