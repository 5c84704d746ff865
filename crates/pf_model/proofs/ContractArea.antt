-- A contraction that passes keeps twice the area.
-- Assumes `IsConforming m` and that `first_failing` is None.
use Rattle.std.proofs.Common.{◌≡◌, ℕ, List, [], ◌∷◌, refl, sym, ◌∙◌, ap, subst, Bool, true, false, cond, inl, inr, arith, ◌&&◌, ◌||◌}
use Rattle.std.specs.Prelude.{Contains, filter, filter_map, not, Some, None, is_some, unwrap_or, ℤ, pos, ◌+ℤ◌, ◌-ℤ◌, ◌==◌}
use Rattle.std.specs.List.{cons_option}
use Rattle.std.proofs.lemmas.Int.{ints}
use Rattle.std.proofs.lemmas.Bool.{not-true, or_cases}
use Rattle.pf_model.specs.declared.Tri.{Tri}
use Rattle.pf_model.specs.declared.Spoke.{Spoke}
use Rattle.pf_model.specs.declared.Op.TheVariants.{Contract}
use Rattle.pf_model.specs.Mesh.{Undivided, tri_of, tri_lt, has_corner, side_of, place_of, turn_at}
use Rattle.pf_model.specs.Conforming.{IsConforming}
use Rattle.pf_model.specs.Applied.{applied, moved_of}
use Rattle.pf_model.specs.Conditions.{first_failing}
use Rattle.pf_model.specs.Stars.{spoke_of, spoke_lt, spokes_of, is_on_boundary, path_start, path_end}
use Rattle.pf_model.specs.Sums.{total, cross_of, area2_of}
use Rattle.pf_model.proofs.Members.{here, there, filter-out}
use Rattle.pf_model.proofs.Triangles.{tri_of-corners, tri_of-turned, least_first}
use Rattle.pf_model.proofs.Turns.{turn_at-tri_of, turn_at-turned, orient_of-over}
use Rattle.pf_geom.proofs.Orientations.{orient_of-twice, orient_of-swapped}
use Rattle.pf_model.proofs.Kept.{side_of-stands}
use Rattle.pf_model.proofs.Totals.{total-insert_all_by, total-filter, total-flat_map, total-agree}
use Rattle.pf_model.proofs.Shares.{share}
use Rattle.pf_model.proofs.FanEnds.{ring_sum, path_sum}
use Rattle.pf_model.proofs.Spokes.{spoke_of-some, spoke_of-there, spokes-simple, spokes-has, apex_same}
use Rattle.pf_model.proofs.ReadClauses.{is_some-holds}
use Rattle.pf_model.proofs.ContractClauses.{ContractPasses, contract_passes}
use Rattle.pf_model.proofs.FlipKeeps.{corners_of}
use Rattle.pf_model.proofs.ContractKeeps.{corner_at, moved-none, added, after, turn_after, added-means, no_corner}

spoke_of-not : (m : Undivided) (n : ℕ) (t : Tri) → has_corner n t ≡ false → spoke_of m n t ≡ None
spoke_of-not m n t h = go (t.a == n) (t.b == n) (t.c == n) h
  where
    s1 : Spoke
    s1 = record { right = t.b; right_at = place_of m t.b; left = t.c; left_at = place_of m t.c; owner = t.owner }

    s2 : Spoke
    s2 = record { right = t.c; right_at = place_of m t.c; left = t.a; left_at = place_of m t.a; owner = t.owner }

    s3 : Spoke
    s3 = record { right = t.a; right_at = place_of m t.a; left = t.b; left_at = place_of m t.b; owner = t.owner }

    go : (a b c : Bool) → (a || (b || c)) ≡ false → cond a (Some s1) (cond b (Some s2) (cond c (Some s3) None)) ≡ None
    go true b c k = absurd (let z : true ≡ false = k in cc)
    go false true c k = absurd (let z : true ≡ false = k in cc)
    go false false true k = absurd (let z : true ≡ false = k in cc)
    go false false false k = refl

-- sums of two sums
total-plus : {X : Type 0} (f g k : X → ℤ) (xs : List X) → ((x : X) → f x ≡ g x +ℤ k x) → total f xs ≡ total g xs +ℤ total k xs
total-plus f g k [] e = omega (arith, ints)
total-plus f g k (x ∷ xs) e = let a = e x in let b = total-plus f g k xs e in omega (arith, ints, a, b)

module _ (m : Undivided) (ok : IsConforming m) (u v : ℕ) (p : ContractPasses m u v) where
  abbrev turn_in : Tri → ℤ
  turn_in t = turn_at m t.a t.b t.c

  abbrev turn_about : ℕ → Spoke → ℤ
  turn_about n s = turn_at m n s.right s.left

  spoke_turn : (t : Tri) (s : Spoke) → Contains m.tris t → spoke_of m u t ≡ Some s → turn_in t ≡ turn_about u s
  spoke_turn t s h e = let i = spoke_of-some m u t s (least_first m ok t h) e in subst (λ w. turn_at m w.a w.b w.c ≡ turn_about u s) i (turn_at-tri_of m u s.right s.left s.owner)

  gone_sum : (ts : List Tri) → ((t : Tri) → Contains ts t → Contains m.tris t) → total turn_in (filter (has_corner u) ts) ≡ total (turn_about u) (filter_map (spoke_of m u) ts)
  gone_sum [] sub = refl
  gone_sum (t ∷ ts) sub = go (has_corner u t) refl (gone_sum ts (λ z h. sub z (there z t ts h)))
    where
      go : (b : Bool) → has_corner u t ≡ b → total turn_in (filter (has_corner u) ts) ≡ total (turn_about u) (filter_map (spoke_of m u) ts) → total turn_in (cond b (t ∷ filter (has_corner u) ts) (filter (has_corner u) ts)) ≡ total (turn_about u) (cons_option (spoke_of m u t) (filter_map (spoke_of m u) ts))
      go true e ih =
          let s = spoke_of-there m u t e in
          let a = spoke_turn t s.0 (sub t (here t ts)) s.1 in
          let b : total (turn_about u) (cons_option (spoke_of m u t) (filter_map (spoke_of m u) ts)) ≡ turn_about u s.0 +ℤ total (turn_about u) (filter_map (spoke_of m u) ts) = ap (λ o. total (turn_about u) (cons_option o (filter_map (spoke_of m u) ts))) s.1 in
          sums a b ih
        where
          sums : {x y z w r : ℤ} → x ≡ y → r ≡ y +ℤ z → w ≡ z → x +ℤ w ≡ r
          sums a b c = omega (arith, ints, a, b, c)
      go false e ih = ih ∙ sym (ap (λ o. total (turn_about u) (cons_option o (filter_map (spoke_of m u) ts))) (spoke_of-not m u t e))

  -- the triangle added for t turns as its spoke does about v
  moved_turn : (t : Tri) (s : Spoke) → Contains m.tris t → has_corner u t ≡ true → spoke_of m u t ≡ Some s → total turn_in (moved_of u v t) ≡ turn_about v s
  moved_turn t s h c e = go (has_corner v t) refl
    where
      is : tri_of u s.right s.left s.owner ≡ t
      is = spoke_of-some m u t s (least_first m ok t h) e

      st : Contains m.tris (tri_of u s.right s.left s.owner)
      st = subst (λ w. Contains m.tris w) (sym is) h

      plus_none : (x : ℤ) → x +ℤ pos 0 ≡ x
      plus_none x = omega (arith, ints)

      go : (b : Bool) → has_corner v t ≡ b → total turn_in (moved_of u v t) ≡ turn_about v s
      go false n =
          let i = corner_at u v t (least_first m ok t h) c in
          let same = apex_same m ok u i.x i.y t.owner s.right s.left s.owner (subst (λ w. Contains m.tris w) (sym i.is) h) st (i.is ∙ sym is) in
          ap (total turn_in) (i.moved n) ∙ (plus_none (turn_in (tri_of v i.x i.y t.owner)) ∙ (turn_at-tri_of m v i.x i.y t.owner ∙ (ap (λ k. turn_at m v k i.y) same.0 ∙ ap (λ k. turn_at m v s.right k) same.1)))
      go true n =
          ap (total turn_in) (moved-none u v t (ap (λ k. k && not (has_corner v t)) c ∙ ap not n))
          ∙ sym (elim (tri_of-corners v u s.right s.left s.owner (subst (λ w. has_corner v w ≡ true) (sym is) n)) [
            | inl x ↦ absurd (p.apart x)
            | inr y ↦ elim y [
              | inl x ↦ subst (λ w. turn_at m v w s.left ≡ pos 0) (sym x) (orient_of-twice (place_of m v) (place_of m s.left))
              | inr x ↦ subst (λ w. turn_at m v s.right w ≡ pos 0) (sym x) (turn_at-turned m v s.right v ∙ (turn_at-turned m s.right v v ∙ orient_of-twice (place_of m v) (place_of m s.right)))
            ]
          ])

  added_sum : (ts : List Tri) → ((t : Tri) → Contains ts t → Contains m.tris t) → total (λ t. total turn_in (moved_of u v t)) ts ≡ total (turn_about v) (filter_map (spoke_of m u) ts)
  added_sum [] sub = refl
  added_sum (t ∷ ts) sub = go (has_corner u t) refl (added_sum ts (λ z h. sub z (there z t ts h)))
    where
      go : (b : Bool) → has_corner u t ≡ b → total (λ t. total turn_in (moved_of u v t)) ts ≡ total (turn_about v) (filter_map (spoke_of m u) ts) → total turn_in (moved_of u v t) +ℤ total (λ t. total turn_in (moved_of u v t)) ts ≡ total (turn_about v) (cons_option (spoke_of m u t) (filter_map (spoke_of m u) ts))
      go true e ih =
          let s = spoke_of-there m u t e in
          let a = moved_turn t s.0 (sub t (here t ts)) e s.1 in
          let b : total (turn_about v) (cons_option (spoke_of m u t) (filter_map (spoke_of m u) ts)) ≡ turn_about v s.0 +ℤ total (turn_about v) (filter_map (spoke_of m u) ts) = ap (λ o. total (turn_about v) (cons_option o (filter_map (spoke_of m u) ts))) s.1 in
          sums a b ih
        where
          sums : {x y z w r : ℤ} → x ≡ y → r ≡ y +ℤ z → w ≡ z → x +ℤ w ≡ r
          sums a b c = omega (arith, ints, a, b, c)
      go false e ih =
          let a : total turn_in (moved_of u v t) ≡ pos 0 = ap (total turn_in) (moved-none u v t (ap (λ k. k && not (has_corner v t)) e)) in
          let b = ap (λ o. total (turn_about v) (cons_option o (filter_map (spoke_of m u) ts))) (spoke_of-not m u t e) in
          sums a b ih
        where
          sums : {x w r z : ℤ} → x ≡ pos 0 → r ≡ z → w ≡ z → x +ℤ w ≡ r
          sums a b c = omega (arith, ints, a, b, c)

  -- what belongs to a neighbour
  belongs : ℕ → ℤ
  belongs w = cross_of (place_of m u) (place_of m w) -ℤ cross_of (place_of m v) (place_of m w)

  some_spoke : (s : Spoke) × Contains (spokes_of m u) s
  some_spoke = elim (or_cases (is_some (side_of m.tris u v)) (is_some (side_of m.tris v u)) p.edge) [
    | inl a ↦ (let s = is_some-holds _ a in let r = spokes-has m ok u v s.0.apex s.0.owner (side_of-stands m.tris (least_first m ok) u v s.0 s.1) in (r.0, r.1))
    | inr a ↦ (let s = is_some-holds _ a in
        let st = side_of-stands m.tris (least_first m ok) v u s.0 s.1 in
        let d = (corners_of m ok v u s.0.apex s.0.owner st).distinct in
        let r = spokes-has m ok u s.0.apex v s.0.owner (subst (λ w. Contains m.tris w) (tri_of-turned v u s.0.apex s.0.owner d.one d.two d.three) st) in (r.0, r.1))
  ]

  shares_cancel : total (share belongs) (spokes_of m u) ≡ pos 0
  unfolding belongs
  shares_cancel = go (is_on_boundary (spokes_of m u)) refl
    where
      start : ℕ
      start = unwrap_or (path_start (spokes_of m u) (spokes_of m u)) 0

      stop : ℕ
      stop = unwrap_or (path_end (spokes_of m u) (spokes_of m u)) 0

      go : (b : Bool) → is_on_boundary (spokes_of m u) ≡ b → total (share belongs) (spokes_of m u) ≡ pos 0
      go false e = ring_sum (spokes_of m u) (spokes-simple m ok u) p.fan some_spoke e belongs
      go true e =
          let a = path_sum (spokes_of m u) (spokes-simple m ok u) p.fan some_spoke e belongs in
          let over = orient_of-over (place_of m u) (place_of m v) (place_of m start) (place_of m stop) in
          let straight : turn_at m start u stop ≡ pos 0 = p.straight e in
          let swapped = orient_of-swapped (place_of m u) (place_of m start) (place_of m stop) in
          let none : turn_at m v start stop ≡ pos 0 = elim (p.onto e) [
            | inl x ↦ subst (λ w. turn_at m w start stop ≡ pos 0) x (orient_of-twice (place_of m start) (place_of m stop))
            | inr x ↦ subst (λ w. turn_at m w start stop ≡ pos 0) x (turn_at-turned m stop start stop ∙ (turn_at-turned m start stop stop ∙ orient_of-twice (place_of m stop) (place_of m start)))
          ] in
          sums a over straight swapped none
        where
          sums : {x y z w k : ℤ} → x ≡ y → z ≡ w +ℤ y → k ≡ pos 0 → z +ℤ k ≡ pos 0 → w ≡ pos 0 → x ≡ pos 0
          sums a b c d e' = omega (arith, ints, a, b, c, d, e')

  -- what is removed has the area of what is added
  pub patch_area : total turn_in (filter (has_corner u) m.tris) ≡ total turn_in (added m ok u v p)
  unfolding belongs
  patch_area =
      let fm = filter_map (spoke_of m u) m.tris in
      let a = gone_sum m.tris (λ t h. h) in
      let b = total-flat_map turn_in (moved_of u v) m.tris ∙ added_sum m.tris (λ t h. h) in
      let c = total-insert_all_by (turn_about u) spoke_lt (filter_map (spoke_of m u) m.tris) [] in
      let d = total-insert_all_by (turn_about v) spoke_lt (filter_map (spoke_of m u) m.tris) [] in
      let e = total-plus (turn_about u) (turn_about v) (share belongs) (spokes_of m u) (λ s. orient_of-over (place_of m u) (place_of m v) (place_of m s.right) (place_of m s.left)) in
      sums a b c d e shares_cancel
    where
      sums : {g n gu gv fu fv k : ℤ} → g ≡ fu → n ≡ fv → gu ≡ fu +ℤ pos 0 → gv ≡ fv +ℤ pos 0 → gu ≡ gv +ℤ k → k ≡ pos 0 → g ≡ n
      sums a b c d e f = omega (arith, ints, a, b, c, d, e, f)

  pub contract_area : area2_of (after m ok u v p) ≡ area2_of m
  contract_area =
      let kept = filter (λ t. not (has_corner u t)) m.tris in
      let a = total-insert_all_by turn_then tri_lt (added m ok u v p) (filter (λ t. not (has_corner u t)) m.tris) in
      let b = total-agree turn_then turn_in (added m ok u v p) new_same in
      let c = total-agree turn_then turn_in (filter (λ t. not (has_corner u t)) m.tris) kept_same in
      let d = total-filter turn_in (has_corner u) m.tris in
      sums a b c d patch_area
    where
      turn_then : Tri → ℤ
      turn_then t = turn_at (after m ok u v p) t.a t.b t.c

      same : (t : Tri) → has_corner u t ≡ false → turn_at (after m ok u v p) t.a t.b t.c ≡ turn_in t
      same t e = turn_after m ok u v p t.a t.b t.c (no_corner m ok u v p t t.a e (inl refl)) (no_corner m ok u v p t t.b e (inr (inl refl))) (no_corner m ok u v p t t.c e (inr (inr refl)))

      kept_same : (t : Tri) → Contains (filter (λ t. not (has_corner u t)) m.tris) t → turn_then t ≡ turn_in t
      kept_same t h = same t (not-true (has_corner u t) (filter-out (λ t. not (has_corner u t)) t m.tris h).1)

      new_same : (t : Tri) → Contains (added m ok u v p) t → turn_then t ≡ turn_in t
      new_same t h = same t (no_u (has_corner u t) refl)
        where
          no_u : (b : Bool) → has_corner u t ≡ b → b ≡ false
          no_u false e = refl
          no_u true e =
              let r = (added-means m ok u v p t h).2 in
              let d = (corners_of m ok u r.x r.y r.o r.stands).distinct in
              absurd (elim (tri_of-corners u v r.x r.y r.o (subst (λ w. has_corner u w ≡ true) r.is e)) [ inl k ↦ p.apart (sym k) | inr k ↦ elim k [ inl k' ↦ d.one (sym k') | inr k' ↦ d.three k' ] ])

      sums : {x y z n k g t : ℤ} → x ≡ y +ℤ z → y ≡ n → z ≡ k → g +ℤ k ≡ t → g ≡ n → x ≡ t
      sums a b c d e = omega (arith, ints, a, b, c, d, e)

-- a contraction that passes keeps twice the area
pub contract_keeps_area : (m : Undivided) (chunk u v ticket : ℕ) → IsConforming m → first_failing m chunk (Contract u v) ≡ None → area2_of (applied m record { ticket = ticket; chunk = chunk; op = Contract u v }) ≡ area2_of m
contract_keeps_area m chunk u v ticket ok h = contract_area m ok u v (contract_passes m chunk u v h)
