-- What is judged from held stars is the first condition that fails on the mesh.
-- Assumes `IsConforming m`, and that the stars of the ends are shown.
use Rattle.std.proofs.Common.{◌≡◌, ℕ, ◌≤◌, List, [], ◌∷◌, ◌++◌, refl, sym, ◌∙◌, ap, subst, Bool, true, false, ◌⊎◌, inl, inr, arith, ◌&&◌, ◌||◌}
use Rattle.std.specs.Prelude.{Contains, Option, Some, None, is_some, unwrap_or, min, max, not, pos, ◌==◌, length, nat_lt, map}
use Rattle.std.specs.Ordering.{int_eq}
use Rattle.std.proofs.lemmas.List.Elements.{Contains-append_cases}
use Rattle.pf_model.specs.declared.Band.{Band}
use Rattle.pf_model.specs.declared.Spoke.{Spoke}
use Rattle.pf_model.specs.declared.Op.{Op}
use Rattle.pf_model.specs.declared.Op.TheVariants.{Flip, Bisect, Contract}
use Rattle.pf_model.specs.declared.Cond.{Cond}
use Rattle.pf_model.specs.declared.Cond.TheVariants.{NoEdge, Foreign, EdgeThere, TooWide, Pinched}
use Rattle.pf_model.specs.Clauses.{when, first_of}
use Rattle.pf_model.specs.Ends.{first_end, second_end}
use Rattle.pf_model.specs.declared.Side.{Side}
use Rattle.pf_model.specs.Mesh.{Undivided, side_of, is_edge, turn_at}
use Rattle.pf_model.specs.Conforming.{IsConforming, IsLive}
use Rattle.pf_model.specs.Stars.{Star, star_of, spokes_of, is_neighbour, is_one_fan, path_start, path_end}
use Rattle.pf_model.specs.Rows.{edge_rows, flip_rows, there_row, bisect_rows, contract_rows, is_owned, apex_or, neighbours, least_that, inverted, is_corner, is_too_long}
use Rattle.pf_model.specs.Conditions.{first_failing, edge_clauses, flip_clauses_at, bisect_clauses}
use Rattle.pf_model.proofs.Triangles.{tri_of-turned, least_first}
use Rattle.pf_model.proofs.Totals.{map-means}
use Rattle.pf_model.proofs.ReadClauses.{when-none, first_of-none, not-false, or-false}
use Rattle.pf_model.proofs.Kept.{side_of-stands}
use Rattle.pf_model.proofs.Spokes.{spokes-has, spokes-simple}
use Rattle.pf_model.proofs.Fans.{path_start-some, path_end-some}
use Rattle.pf_model.proofs.FanEnds.{fan_ends}
use Rattle.pf_model.proofs.FlipKeeps.{corners_of}
use Rattle.pf_star_model.specs.Lent.{IsShown, spokes_in, side_to, side_from, sight_of}
use Rattle.pf_star_model.specs.Judged.{left_seen, right_seen, judged_ends, judged, ends_failing, AreBandsShown, IsApexShown}
use Rattle.pf_star_model.proofs.Shown.{IsSeen, place-shown, side_to-shown, side_from-shown, spokes-shown, edge-shown}
use Rattle.pf_star_model.proofs.Sights.{IsAlike, min_or_max, turn_at-alike, len2_at-alike, not_longest-alike, min2_of-alike, is_long-alike, inverted-alike, least_that-agree}

-- lists of clauses
abbrev pub or_else : Option Cond → Option Cond → Option Cond
or_else None d = d
or_else (Some c) d = Some c

pub first_of-append : (xs ys : List (Option Cond)) → first_of (xs ++ ys) ≡ or_else (first_of xs) (first_of ys)
first_of-append [] ys = refl
first_of-append (None ∷ xs) ys = first_of-append xs ys
first_of-append (Some c ∷ xs) ys = refl

-- two tables whose first clauses are the same, and the others where the first doesn't come
pub first_of-same : (c d : Option Cond) (cs ds : List (Option Cond)) → c ≡ d → (d ≡ None → first_of cs ≡ first_of ds) → first_of (c ∷ cs) ≡ first_of (d ∷ ds)
first_of-same c d cs ds e f = ap (λ o. first_of (o ∷ cs)) e ∙ go d refl
  where
    go : (o : Option Cond) → d ≡ o → first_of (o ∷ cs) ≡ first_of (o ∷ ds)
    go None k = f k
    go (Some x) k = refl

-- two tables with the same beginning
pub first_of-after : (es cs ds : List (Option Cond)) → (first_of es ≡ None → first_of cs ≡ first_of ds) → first_of (es ++ cs) ≡ first_of (es ++ ds)
first_of-after es cs ds f = first_of-append es cs ∙ (go (first_of es) refl ∙ sym (first_of-append es ds))
  where
    go : (o : Option Cond) → first_of es ≡ o → or_else o (first_of cs) ≡ or_else o (first_of ds)
    go None k = f k
    go (Some x) k = refl

-- where no clause of a table comes, none of its first ones does
pub first_of-front : (xs ys : List (Option Cond)) → first_of (xs ++ ys) ≡ None → first_of xs ≡ None
first_of-front [] ys h = refl
first_of-front (None ∷ xs) ys h = first_of-front xs ys h
first_of-front (Some c ∷ xs) ys h = absurd (let e : Some c ≡ None = h in cc)

or-swapped : (a b : Bool) → (a || b) ≡ (b || a)
or-swapped true true = refl
or-swapped true false = refl
or-swapped false true = refl
or-swapped false false = refl

-- the clauses at an edge, by its lower and its higher name
pub edge_rows-sorted : (m : Undivided) (chunk a b : ℕ) → edge_rows chunk a b (side_of m.tris (min a b) (max a b)) (side_of m.tris (max a b) (min a b)) ≡ edge_clauses m chunk a b
edge_rows-sorted m chunk a b = go (order a b)
  where
    order : (x y : ℕ) → (x ≤ y) ⊎ (y ≤ x)
    order x y = grind arith

    swapped : (l r : Option Side) → edge_rows chunk a b l r ≡ edge_rows chunk a b r l
    swapped l r = ap (λ k. when (a == b || not k) NoEdge ∷ when (not (is_owned chunk l || is_owned chunk r)) Foreign ∷ []) (or-swapped (is_some l) (is_some r)) ∙ ap (λ k. when (a == b || not (is_some r || is_some l)) NoEdge ∷ when (not k) Foreign ∷ []) (or-swapped (is_owned chunk l) (is_owned chunk r))

    go : (a ≤ b) ⊎ (b ≤ a) → edge_rows chunk a b (side_of m.tris (min a b) (max a b)) (side_of m.tris (max a b) (min a b)) ≡ edge_clauses m chunk a b
    go (inl l) = let e : min a b ≡ a = omega arith in let f : max a b ≡ b = omega arith in rw (e, f) refl
    go (inr l) = let e : min a b ≡ b = omega arith in let f : max a b ≡ a = omega arith in rw (e, f) (swapped (side_of m.tris b a) (side_of m.tris a b))

-- where no clause at the edge comes, one of its sides is there
pub edge_rows-none : (chunk a b : ℕ) (l r : Option Side) → first_of (edge_rows chunk a b l r) ≡ None → (is_some l || is_some r) ≡ true
edge_rows-none chunk a b l r h =
    let one = first_of-none (when (a == b || not (is_some l || is_some r)) NoEdge) (when (not (is_owned chunk l || is_owned chunk r)) Foreign ∷ []) h in
    not-false (is_some l || is_some r) (or-false (a == b) (not (is_some l || is_some r)) (when-none (a == b || not (is_some l || is_some r)) NoEdge one.0)).1

-- what the star of p shows of the edge p, q
pub record IsEdgeSeen (m : Undivided) (p q : ℕ) : Type 0 where
  pub live : IsLive m p
  pub other : IsSeen m p q
  pub left : (s : Side) → side_of m.tris p q ≡ Some s → IsSeen m p s.apex
  pub right : (s : Side) → side_of m.tris q p ≡ Some s → IsSeen m p s.apex

left_spoke : (m : Undivided) → IsConforming m → (p q : ℕ) (s : Side) → side_of m.tris p q ≡ Some s → IsLive m p × IsSeen m p q × IsSeen m p s.apex
left_spoke m ok p q s e =
    let h = side_of-stands m.tris (least_first m ok) p q s e in
    let k = spokes-has m ok p q s.apex s.owner h in
    ((corners_of m ok p q s.apex s.owner h).live_p, inr (k.0, k.1, inl k.2), inr (k.0, k.1, inr k.3))

right_spoke : (m : Undivided) → IsConforming m → (p q : ℕ) (s : Side) → side_of m.tris q p ≡ Some s → IsLive m p × IsSeen m p q × IsSeen m p s.apex
right_spoke m ok p q s e =
    let h = side_of-stands m.tris (least_first m ok) q p s e in
    let c = corners_of m ok q p s.apex s.owner h in
    let h' = subst (λ w. Contains m.tris w) (tri_of-turned q p s.apex s.owner c.distinct.one c.distinct.two c.distinct.three) h in
    let k = spokes-has m ok p s.apex q s.owner h' in
    (c.live_q, inr (k.0, k.1, inr k.3), inr (k.0, k.1, inl k.2))

pub edge_seen : (m : Undivided) → IsConforming m → (p q : ℕ) → (is_some (side_of m.tris p q) || is_some (side_of m.tris q p)) ≡ true → IsEdgeSeen m p q
edge_seen m ok p q h = go (side_of m.tris p q) refl (side_of m.tris q p) refl h
  where
    from : IsLive m p → IsSeen m p q → IsEdgeSeen m p q
    from l i = record { live = l; other = i; left = λ s e. (left_spoke m ok p q s e).2; right = λ s e. (right_spoke m ok p q s e).2 }

    go : (x : Option Side) → side_of m.tris p q ≡ x → (y : Option Side) → side_of m.tris q p ≡ y → (is_some x || is_some y) ≡ true → IsEdgeSeen m p q
    go (Some s) e y f k = let r = left_spoke m ok p q s e in from r.0 r.1
    go None e (Some s) f k = let r = right_spoke m ok p q s f in from r.0 r.1
    go None e None f k = absurd (let z : false ≡ true = k in cc)

-- sides that the star of a shows
pub left_seen-shown : (m : Undivided) → IsConforming m → (lent : ℕ → Option Star) (a b : ℕ) → IsShown lent m a → left_seen lent a b ≡ side_of m.tris a b
left_seen-shown m ok lent a b h = ap (λ o. side_to b (spokes_in o)) h ∙ (ap (side_to b) (spokes-shown m ok a) ∙ side_to-shown m ok a b)

pub right_seen-shown : (m : Undivided) → IsConforming m → (lent : ℕ → Option Star) (a b : ℕ) → IsShown lent m a → right_seen lent a b ≡ side_of m.tris b a
right_seen-shown m ok lent a b h = ap (λ o. side_from b (spokes_in o)) h ∙ (ap (side_from b) (spokes-shown m ok a) ∙ side_from-shown m ok a b)

module _ (m : Undivided) (ok : IsConforming m) (bands : List Band) (n : ℕ) (live : IsLive m n) where
  abbrev sight : Undivided
  sight = sight_of bands (star_of m n)

  pub alike : (x : ℕ) → IsSeen m n x → IsAlike sight m x
  alike x i = place-shown m bands n x live i

  -- the rows of a flip at the edge n, q
  flip_rows-alike : (q : ℕ) → IsEdgeSeen m n q → (l r : Option Side) → side_of m.tris n q ≡ l → side_of m.tris q n ≡ r → first_of (flip_rows sight n q l r) ≡ first_of (flip_rows m n q l r)
  flip_rows-alike q i None r e f = refl
  flip_rows-alike q i (Some l) None e f = refl
  flip_rows-alike q i (Some l) (Some r) e f =
      let hn = alike n (inl refl) in
      let hq = alike q i.other in
      let hl = alike l.apex (i.left l e) in
      let hr = alike r.apex (i.right r f) in
      rw (turn_at-alike sight m n r.apex l.apex hn hr hl, turn_at-alike sight m q l.apex r.apex hq hl hr, len2_at-alike sight m l.apex r.apex hl hr, len2_at-alike sight m n q hn hq) refl

  -- the rows of a bisection
  bisect_rows-alike : bands ≡ m.bands → (q : ℕ) → IsEdgeSeen m n q → bisect_rows sight n q (side_of m.tris n q) (side_of m.tris q n) ≡ bisect_rows m n q (side_of m.tris n q) (side_of m.tris q n)
  bisect_rows-alike eb q i =
      let hn = alike n (inl refl) in
      let hq = alike q i.other in
      rw (len2_at-alike sight m n q hn hq, min2_of-alike sight m n q eb hn hq, not_longest-alike sight m n q (side_of m.tris n q) hn hq (λ s e. alike s.apex (i.left s e)), not_longest-alike sight m q n (side_of m.tris q n) hq hn (λ s e. alike s.apex (i.right s e)), hn, hq) refl

  -- the neighbours are seen
  pub neighbour_seen : (x : ℕ) → Contains (neighbours (spokes_of m n)) x → IsSeen m n x
  neighbour_seen x h = elim (Contains-append_cases (map (λ s. s.right) (spokes_of m n)) (map (λ s. s.left) (spokes_of m n)) x h) [ inl a ↦ (let r = map-means (λ s. s.right) (spokes_of m n) x a in inr (r.0, r.1, inl r.2)) | inr a ↦ (let r = map-means (λ s. s.left) (spokes_of m n) x a in inr (r.0, r.1, inr r.2)) ]

  -- where the spokes are one fan with an end, the ends are seen
  corner-alike : is_one_fan (spokes_of m n) ≡ true → is_corner sight n (spokes_of m n) ≡ is_corner m n (spokes_of m n)
  corner-alike fan = go (path_start (spokes_of m n) (spokes_of m n)) refl
    where
      at_ends : (p q : ℕ) → IsSeen m n p → IsSeen m n q → turn_at sight p n q ≡ turn_at m p n q
      at_ends p q hp hq = turn_at-alike sight m p n q (alike p hp) (alike n (inl refl)) (alike q hq)

      go : (o : Option ℕ) → path_start (spokes_of m n) (spokes_of m n) ≡ o → (is_some o && not (int_eq (turn_at sight (unwrap_or o 0) n (unwrap_or (path_end (spokes_of m n) (spokes_of m n)) 0)) (pos 0))) ≡ (is_some o && not (int_eq (turn_at m (unwrap_or o 0) n (unwrap_or (path_end (spokes_of m n) (spokes_of m n)) 0)) (pos 0)))
      go None e = refl
      go (Some p) e =
          let i = path_start-some (spokes_of m n) (spokes_of m n) p e in
          let q = fan_ends (spokes_of m n) (spokes-simple m ok n) fan (i.0.0, i.0.1) (ap is_some e) in
          let j = path_end-some (spokes_of m n) (spokes_of m n) q.0 q.1 in
          ap (λ z. true && not (int_eq z (pos 0))) (at_ends p (unwrap_or (path_end (spokes_of m n) (spokes_of m n)) 0) (inr (i.0.0, i.0.1, inl i.0.2)) (subst (λ w. IsSeen m n w) (sym (ap (λ w. unwrap_or w 0) q.1)) (inr (j.0.0, j.0.1, inr j.0.2))))

  -- the rows of a contraction onto v
  contract_rows-alike : bands ≡ m.bands → (v : ℕ) → IsEdgeSeen m n v → (l r : Option Side) (vs : List Spoke) → first_of (contract_rows sight n v l r (spokes_of m n) vs) ≡ first_of (contract_rows m n v l r (spokes_of m n) vs)
  contract_rows-alike eb v i l r vs =
      first_of-same (when (nat_lt 60 (length (spokes_of m n))) TooWide) (when (nat_lt 60 (length (spokes_of m n))) TooWide) _ _ refl (λ wide.
      first_of-same (when (not (is_one_fan (spokes_of m n))) Pinched) (when (not (is_one_fan (spokes_of m n))) Pinched) _ _ refl (λ pinched.
      rw (corner-alike (not-false (is_one_fan (spokes_of m n)) (when-none (not (is_one_fan (spokes_of m n))) Pinched pinched)), turned, long) refl))
    where
      hv : IsAlike sight m v
      hv = alike v i.other

      turned : inverted sight v (spokes_of m n) ≡ inverted m v (spokes_of m n)
      turned = inverted-alike sight m v (spokes_of m n) hv (λ s h. (alike s.right (inr (s, h, inl refl)), alike s.left (inr (s, h, inr refl))))

      long : least_that (is_too_long sight v vs) (neighbours (spokes_of m n)) ≡ least_that (is_too_long m v vs) (neighbours (spokes_of m n))
      long = least_that-agree (is_too_long sight v vs) (is_too_long m v vs) (neighbours (spokes_of m n)) (λ x h. ap (λ b. not (x == v) && (not (is_neighbour x vs) && b)) (is_long-alike sight m v x eb hv (alike x (neighbour_seen x h))))

-- the lower and the higher end are shown
pub shown_sorted : (m : Undivided) (lent : ℕ → Option Star) (a b : ℕ) → IsShown lent m a → IsShown lent m b → IsShown lent m (min a b) × IsShown lent m (max a b)
shown_sorted m lent a b ha hb = min_or_max (λ n. IsShown lent m n) a b ha hb

-- a table of an edge's sides and a star, with the sides and the star of the mesh
pub seen_is_shown : {X : Type 0} (f : Option Star → Option Side → Option Side → X) (m : Undivided) → IsConforming m → (lent : ℕ → Option Star) (p q : ℕ) → IsShown lent m p → f (lent p) (left_seen lent p q) (right_seen lent p q) ≡ f (star_of m p) (side_of m.tris p q) (side_of m.tris q p)
seen_is_shown f m ok lent p q h = ap (λ l. f (lent p) l (right_seen lent p q)) (left_seen-shown m ok lent p q h) ∙ (ap (λ r. f (lent p) (side_of m.tris p q) r) (right_seen-shown m ok lent p q h) ∙ ap (λ o. f o (side_of m.tris p q) (side_of m.tris q p)) h)

-- the conditions of a flip that are judged from its ends
pub ends_judged : (m : Undivided) → IsConforming m → (lent : ℕ → Option Star) (chunk a b : ℕ) → IsShown lent m a → IsShown lent m b → judged_ends lent chunk a b ≡ ends_failing m chunk a b
ends_judged m ok lent chunk a b ha hb =
    seen_is_shown (λ o l r. first_of (edge_rows chunk a b l r ++ flip_rows (sight_of [] o) (min a b) (max a b) l r)) m ok lent (min a b) (max a b) (shown_sorted m lent a b ha hb).0
    ∙ first_of-after (edge_rows chunk a b (side_of m.tris (min a b) (max a b)) (side_of m.tris (max a b) (min a b))) _ _ (λ h.
    let i = edge_seen m ok (min a b) (max a b) (edge_rows-none chunk a b _ _ h) in
    flip_rows-alike m ok [] (min a b) i.live (max a b) i _ _ refl refl)

-- the first condition of a flip, by the first five
pub flip_failing : (m : Undivided) (chunk a b : ℕ) → first_failing m chunk (Flip a b) ≡ or_else (ends_failing m chunk a b) (when (is_edge m.tris (apex_or (side_of m.tris (min a b) (max a b))) (apex_or (side_of m.tris (max a b) (min a b)))) (EdgeThere (apex_or (side_of m.tris (min a b) (max a b))) (apex_or (side_of m.tris (max a b) (min a b)))))
flip_failing m chunk a b =
    let l = side_of m.tris (min a b) (max a b) in
    let r = side_of m.tris (max a b) (min a b) in
    ap (λ es. first_of (es ++ flip_clauses_at m (min a b) (max a b) l r)) (sym (edge_rows-sorted m chunk a b))
    ∙ (first_of-append (edge_rows chunk a b l r ++ flip_rows m (min a b) (max a b) l r) (when (is_edge m.tris (apex_or l) (apex_or r)) (EdgeThere (apex_or l) (apex_or r)) ∷ [])
    ∙ ap (λ o. or_else (ends_failing m chunk a b) o) (alone (when (is_edge m.tris (apex_or l) (apex_or r)) (EdgeThere (apex_or l) (apex_or r)))))
  where
    alone : (o : Option Cond) → first_of (o ∷ []) ≡ o
    alone None = refl
    alone (Some c) = refl

pub flip_judged : (m : Undivided) → IsConforming m → (lent : ℕ → Option Star) (chunk a b : ℕ) → IsShown lent m a → IsShown lent m b → IsApexShown lent m chunk (Flip a b) → (bands : List Band) → judged lent bands chunk (Flip a b) ≡ first_failing m chunk (Flip a b)
flip_judged m ok lent chunk a b ha hb hc bands =
    first_of-append (edge_rows chunk a b (left_seen lent (min a b) (max a b)) (right_seen lent (min a b) (max a b)) ++ flip_rows (sight_of [] (lent (min a b))) (min a b) (max a b) (left_seen lent (min a b) (max a b)) (right_seen lent (min a b) (max a b))) (row (spokes_in (lent (apex_or (left_seen lent (min a b) (max a b))))) ∷ [])
    ∙ (go (judged_ends lent chunk a b) refl
    ∙ (ap (λ o. or_else o there') (ends_judged m ok lent chunk a b ha hb) ∙ sym (flip_failing m chunk a b)))
  where
    there' : Option Cond
    there' = when (is_edge m.tris (apex_or (side_of m.tris (min a b) (max a b))) (apex_or (side_of m.tris (max a b) (min a b)))) (EdgeThere (apex_or (side_of m.tris (min a b) (max a b))) (apex_or (side_of m.tris (max a b) (min a b))))

    lower : IsShown lent m (min a b)
    lower = (shown_sorted m lent a b ha hb).0

    row : List Spoke → Option Cond
    row cs = there_row (left_seen lent (min a b) (max a b)) (right_seen lent (min a b) (max a b)) (is_neighbour (apex_or (right_seen lent (min a b) (max a b))) cs)

    alone : (o : Option Cond) → first_of (o ∷ []) ≡ o
    alone None = refl
    alone (Some c) = refl

    same : judged_ends lent chunk a b ≡ None → row (spokes_in (lent (apex_or (left_seen lent (min a b) (max a b))))) ≡ there'
    same e =
        ap (λ o. row (spokes_in o)) (hc e)
        ∙ (ap row (spokes-shown m ok (apex_or (left_seen lent (min a b) (max a b))))
        ∙ (ap (λ k. when k (EdgeThere (apex_or (left_seen lent (min a b) (max a b))) (apex_or (right_seen lent (min a b) (max a b))))) (edge-shown m ok (apex_or (left_seen lent (min a b) (max a b))) (apex_or (right_seen lent (min a b) (max a b))))
        ∙ seen_is_shown (λ o l r. when (is_edge m.tris (apex_or l) (apex_or r)) (EdgeThere (apex_or l) (apex_or r))) m ok lent (min a b) (max a b) lower))

    go : (o : Option Cond) → judged_ends lent chunk a b ≡ o → or_else o (first_of (row (spokes_in (lent (apex_or (left_seen lent (min a b) (max a b))))) ∷ [])) ≡ or_else o there'
    go None e = alone (row (spokes_in (lent (apex_or (left_seen lent (min a b) (max a b)))))) ∙ same e
    go (Some c) e = refl

pub bisect_judged : (m : Undivided) → IsConforming m → (lent : ℕ → Option Star) (chunk a b : ℕ) → IsShown lent m a → IsShown lent m b → judged lent m.bands chunk (Bisect a b) ≡ first_failing m chunk (Bisect a b)
bisect_judged m ok lent chunk a b ha hb =
    seen_is_shown (λ o l r. first_of (edge_rows chunk a b l r ++ bisect_rows (sight_of m.bands o) (min a b) (max a b) l r)) m ok lent (min a b) (max a b) (shown_sorted m lent a b ha hb).0
    ∙ (first_of-after (edge_rows chunk a b (side_of m.tris (min a b) (max a b)) (side_of m.tris (max a b) (min a b))) _ _ (λ h.
    let i = edge_seen m ok (min a b) (max a b) (edge_rows-none chunk a b _ _ h) in
    ap first_of (bisect_rows-alike m ok m.bands (min a b) i.live refl (max a b) i))
    ∙ ap (λ es. first_of (es ++ bisect_clauses m (min a b) (max a b))) (edge_rows-sorted m chunk a b))

pub contract_judged : (m : Undivided) → IsConforming m → (lent : ℕ → Option Star) (chunk u v : ℕ) → IsShown lent m u → IsShown lent m v → judged lent m.bands chunk (Contract u v) ≡ first_failing m chunk (Contract u v)
contract_judged m ok lent chunk u v hu hv =
    seen_is_shown (λ o l r. first_of (edge_rows chunk u v l r ++ contract_rows (sight_of m.bands o) u v l r (spokes_in o) (spokes_in (lent v)))) m ok lent u v hu
    ∙ (ap (λ us. first_of (edge_rows chunk u v (side_of m.tris u v) (side_of m.tris v u) ++ contract_rows (sight_of m.bands (star_of m u)) u v (side_of m.tris u v) (side_of m.tris v u) us (spokes_in (lent v)))) (spokes-shown m ok u)
    ∙ (ap (λ vs. first_of (edge_rows chunk u v (side_of m.tris u v) (side_of m.tris v u) ++ contract_rows (sight_of m.bands (star_of m u)) u v (side_of m.tris u v) (side_of m.tris v u) (spokes_of m u) vs)) (ap spokes_in hv ∙ spokes-shown m ok v)
    ∙ first_of-after (edge_rows chunk u v (side_of m.tris u v) (side_of m.tris v u)) _ _ (λ h.
    let i = edge_seen m ok u v (edge_rows-none chunk u v _ _ h) in
    contract_rows-alike m ok m.bands u i.live refl v i _ _ (spokes_of m v))))

pub judged_is_first_failing : (m : Undivided) (lent : ℕ → Option Star) (bands : List Band) (chunk : ℕ) (op : Op) → IsConforming m → AreBandsShown bands m op → IsShown lent m (first_end op) → IsShown lent m (second_end op) → IsApexShown lent m chunk op → judged lent bands chunk op ≡ first_failing m chunk op
judged_is_first_failing m lent bands chunk (Flip a b) ok e ha hb hc = flip_judged m ok lent chunk a b ha hb hc bands
judged_is_first_failing m lent bands chunk (Bisect a b) ok e ha hb hc = ap (λ bs. judged lent bs chunk (Bisect a b)) e ∙ bisect_judged m ok lent chunk a b ha hb
judged_is_first_failing m lent bands chunk (Contract u v) ok e ha hb hc = ap (λ bs. judged lent bs chunk (Contract u v)) e ∙ contract_judged m ok lent chunk u v ha hb
