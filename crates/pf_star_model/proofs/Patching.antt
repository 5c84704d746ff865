-- One theorem for all operations: the spokes of each node after some triangles were replaced.
-- Assumes that the mesh is conforming before and after, and which points stay.
use Rattle.std.proofs.Common.{◌≡◌, ℕ, List, [], ◌∷◌, refl, sym, ◌∙◌, ap, subst, Bool, true, false, cond, ◌⊎◌, inl, inr, arith, ◌&&◌, ◌||◌}
use Rattle.std.specs.Prelude.{Contains, Option, Some, None, is_some, not, ◌==◌, filter, filter_map, map, nat_lt}
use Rattle.std.specs.Option.{option_map}
use Rattle.std.specs.List.{cons_option}
use Rattle.std.proofs.lemmas.Bool.Decides.{nat_tests}
use Rattle.std.proofs.lemmas.Bool.{not-true, not_from_false}
use Rattle.pf_geom.specs.declared.Point.{Point}
use Rattle.pf_model.specs.declared.Tri.{Tri}
use Rattle.pf_model.specs.declared.Site.{Site}
use Rattle.pf_model.specs.declared.Spoke.{Spoke}
use Rattle.pf_model.specs.Rising.{IsRising, AreDifferent, insert_by, insert_all_by}
use Rattle.pf_model.specs.Mesh.{Undivided, tri_of, tri_lt, has_edge, has_corner, point_of, place_of}
use Rattle.pf_model.specs.Conforming.{IsConforming, IsLive}
use Rattle.pf_model.specs.Stars.{Star, star_of, spoke_of, spoke_lt, spokes_of}
use Rattle.pf_model.proofs.Members.{nowhere, here, there, cases, filter-in, filter-out, insert_by-new, insert_by-old, insert_all_by-new, insert_all_by-old, insert_all_by-cases}
use Rattle.pf_model.proofs.RisingLemmas.{IsStrictOrder, AreApart, rising-nil, rising-head, rising-tail, rising-cons, rising-filter, rising-insert_all_by, rising-same}
use Rattle.pf_model.proofs.Patch.{replaced-cases, replaced-new, replaced-kept}
use Rattle.pf_model.proofs.Triangles.{IsLeastFirst, tri_of-edge_one, tri_lt-order}
use Rattle.pf_model.proofs.Totals.{map-in}
use Rattle.pf_model.proofs.Replacement.{patched}
use Rattle.pf_model.proofs.Spokes.{filter_map-in, filter_map-out, spoke_of-some, rising-different, different-raw}
use Rattle.pf_star_model.specs.Lent.{tri_at}
use Rattle.pf_star_model.specs.Patched.{spokes_after, star_after}
use Rattle.pf_star_model.proofs.Sights.{IsAlike}

-- what a rising list says of what was inserted into it
rising-insert_by_old : {X : Type 0} (lt : X → X → Bool) (x : X) (ys : List X) → IsRising lt (insert_by lt x ys) → IsRising lt ys
rising-insert_by_old lt x [] up = rising-nil lt
rising-insert_by_old {X} lt x (y ∷ ys) up = go (lt x y) up (λ k. rising-insert_by_old lt x ys k)
  where
    go : (b : Bool) → IsRising lt (cond b (x ∷ y ∷ ys) (y ∷ insert_by lt x ys)) → (IsRising lt (insert_by lt x ys) → IsRising lt ys) → IsRising lt (y ∷ ys)
    go true k ih = rising-tail lt x (y ∷ ys) k
    go false k ih = rising-cons lt y ys (λ z h. rising-head lt y z (insert_by lt x ys) k (insert_by-old lt x z ys h)) (ih (rising-tail lt y (insert_by lt x ys) k))

not_itself : {X : Type 0} (lt : X → X → Bool) → IsStrictOrder lt → (x y : X) → x ≡ y → lt x y ≡ true → ⊥
not_itself lt o x y e h = let f : lt y y ≡ false = o.irreflexive y in let k : lt y y ≡ true = subst (λ w. lt w y ≡ true) e h in let z : true ≡ false = sym k ∙ f in cc

rising-insert_by_new : {X : Type 0} (lt : X → X → Bool) → IsStrictOrder lt → (x : X) (ys : List X) → IsRising lt (insert_by lt x ys) → Contains ys x → ⊥
rising-insert_by_new lt o x [] up h = nowhere x h
rising-insert_by_new {X} lt o x (y ∷ ys) up h = go (lt x y) up (λ k i. rising-insert_by_new lt o x ys k i)
  where
    go : (b : Bool) → IsRising lt (cond b (x ∷ y ∷ ys) (y ∷ insert_by lt x ys)) → (IsRising lt (insert_by lt x ys) → Contains ys x → ⊥) → ⊥
    go true k ih = not_itself lt o x x refl (rising-head lt x x (y ∷ ys) k h)
    go false k ih = elim (cases x y ys h) [ inl e ↦ not_itself lt o y x (sym e) (rising-head lt y x (insert_by lt x ys) k (insert_by-new lt x ys)) | inr i ↦ ih (rising-tail lt y (insert_by lt x ys) k) i ]

pub inserted-different : {X : Type 0} (lt : X → X → Bool) → IsStrictOrder lt → (xs ys : List X) → IsRising lt (insert_all_by lt xs ys) → AreDifferent xs
inserted-different lt o [] ys up = tt
inserted-different lt o (x ∷ xs) ys up = ((λ z h e. rising-insert_by_new lt o x (insert_all_by lt xs ys) up (insert_all_by-new lt x xs ys (subst (λ w. Contains xs w) (sym e) h))), inserted-different lt o xs ys (rising-insert_by_old lt x (insert_all_by lt xs ys) up))

pub inserted-new : {X : Type 0} (lt : X → X → Bool) → IsStrictOrder lt → (xs ys : List X) → IsRising lt (insert_all_by lt xs ys) → (z : X) → Contains xs z → Contains ys z → ⊥
inserted-new lt o [] ys up z h k = nowhere z h
inserted-new lt o (x ∷ xs) ys up z h k = elim (cases z x xs h) [ inl e ↦ rising-insert_by_new lt o x (insert_all_by lt xs ys) up (insert_all_by-old lt x xs ys (subst (λ w. Contains ys w) e k)) | inr i ↦ inserted-new lt o xs ys (rising-insert_by_old lt x (insert_all_by lt xs ys) up) z i k ]

pub spoke_lt-order : IsStrictOrder spoke_lt
spoke_lt-order = record { irreflexive = λ x. none x.right; transitive = λ x y z h k. on x.right y.right z.right h k }
  where
    none : (a : ℕ) → nat_lt a a ≡ false
    none a = grind (arith, nat_tests)

    on : (a b c : ℕ) → nat_lt a b ≡ true → nat_lt b c ≡ true → nat_lt a c ≡ true
    on a b c h k = grind (arith, nat_tests)

-- spokes with different rights stand one before the other
spoke_lt-apart : (s t : Spoke) → (s.right ≡ t.right → ⊥) → (spoke_lt s t ≡ true) ⊎ (spoke_lt t s ≡ true)
spoke_lt-apart s t n = either s.right t.right n
  where
    either : (a b : ℕ) → (a ≡ b → ⊥) → (nat_lt a b ≡ true) ⊎ (nat_lt b a ≡ true)
    either a b k = grind (arith, nat_tests)

rights-apart : (ss : List Spoke) → AreDifferent (map (λ s. s.right) ss) → AreApart spoke_lt ss
rights-apart [] d = tt
rights-apart (s ∷ ss) d = ((λ z h. spoke_lt-apart s z (d.0 z.right (map-in (λ t. t.right) ss z h))), rights-apart ss d.1)

-- the spokes of a node rise
pub spokes-rise : (m : Undivided) → IsConforming m → (n : ℕ) → IsRising spoke_lt (spokes_of m n)
spokes-rise m ok n = rising-insert_all_by spoke_lt spoke_lt-order (filter_map (spoke_of m n) m.tris) [] (rights-apart (filter_map (spoke_of m n) m.tris) (different-raw m ok n m.tris (λ t h. h) (rising-different m.tris ok.tris_rise))) (λ x h z k. absurd (nowhere z k)) (rising-nil spoke_lt)

-- the corners of a triangle stand alike
pub record AreAlike (w m : Undivided) (t : Tri) : Type 0 where
  pub first : IsAlike w m t.a
  pub second : IsAlike w m t.b
  pub third : IsAlike w m t.c

pub alike-tri_of : (w m : Undivided) (p q z o : ℕ) → IsAlike w m p → IsAlike w m q → IsAlike w m z → AreAlike w m (tri_of p q z o)
alike-tri_of w m p q z o hp hq hz = go (nat_lt p q && nat_lt p z) (nat_lt q z && nat_lt q p)
  where
    go : (b c : Bool) → AreAlike w m (cond b record { a = p; b = q; c = z; owner = o } (cond c record { a = q; b = z; c = p; owner = o } record { a = z; b = p; c = q; owner = o }))
    go true c = record { first = hp; second = hq; third = hz }
    go false true = record { first = hq; second = hz; third = hp }
    go false false = record { first = hz; second = hp; third = hq }

spoke_of-alike : (w m : Undivided) (n : ℕ) (t : Tri) → AreAlike w m t → spoke_of w n t ≡ spoke_of m n t
spoke_of-alike w m n t h = rw (h.first, h.second, h.third) refl

-- a spoke's triangle has the edge to its right
edge_of_spoke : (m : Undivided) (n : ℕ) (t : Tri) (s : Spoke) → IsLeastFirst t → spoke_of m n t ≡ Some s → has_edge n s.right t ≡ true
edge_of_spoke m n t s l e = subst (λ w. has_edge n s.right w ≡ true) (spoke_of-some m n t s l e) (tri_of-edge_one n s.right s.left s.owner)

abbrev pub star_with : ℕ → Point → List Spoke → Option Star
star_with n p ss = Some record { node = n; at = p; spokes = ss }

module _ (m : Undivided) (sites : List Site) (removed : Tri → Bool) (added : List Tri) (ok : IsConforming m) (ok' : IsConforming (patched m sites removed added)) where
  abbrev pub after : Undivided
  after = patched m sites removed added

  -- the triangles that are put in, in another order, with their points
  pub record IsSightOf (sight : Undivided) (put : List Tri) : Type 0 where
    pub all : (t : Tri) → Contains added t → Contains put t
    pub only : (t : Tri) → Contains put t → Contains added t
    pub once : AreDifferent put
    pub points : (t : Tri) → Contains added t → AreAlike sight after t
    pub stay : (t : Tri) → Contains m.tris t → removed t ≡ false → AreAlike after m t

  pub added-once : AreDifferent added
  added-once = inserted-different tri_lt tri_lt-order added (filter (λ t. not (removed t)) m.tris) ok'.tris_rise

  least_old : (t : Tri) → Contains m.tris t → IsLeastFirst t
  least_old t h = let p = ok.proper t h in record { least = p.least; least' = p.least'; apart = p.apart }

  least_new : (t : Tri) → Contains added t → IsLeastFirst t
  least_new t h = let p = ok'.proper t (replaced-new tri_lt removed added m.tris t h) in record { least = p.least; least' = p.least'; apart = p.apart }

  module _ (sight : Undivided) (put : List Tri) (f : IsSightOf sight put) (n : ℕ) where
    abbrev stays : Spoke → Bool
    stays s = not (removed (tri_at n s))

    -- a spoke that is put in
    put-means : (s : Spoke) → Contains (filter_map (spoke_of sight n) put) s → (t : Tri) × Contains added t × (spoke_of after n t ≡ Some s)
    put-means s h = let r = filter_map-out (spoke_of sight n) put s h in let i = f.only r.0 r.1 in (r.0, i, sym (spoke_of-alike sight after n r.0 (f.points r.0 i)) ∙ r.2)

    put-has : (s : Spoke) (t : Tri) → Contains added t → spoke_of after n t ≡ Some s → Contains (filter_map (spoke_of sight n) put) s
    put-has s t h e = filter_map-in (spoke_of sight n) put t s (f.all t h) (spoke_of-alike sight after n t (f.points t h) ∙ e)

    -- an old spoke, and its triangle
    old-means : (s : Spoke) → Contains (spokes_of m n) s → (t : Tri) × Contains m.tris t × (spoke_of m n t ≡ Some s) × (tri_at n s ≡ t)
    old-means s h = elim (insert_all_by-cases spoke_lt s (filter_map (spoke_of m n) m.tris) [] h) [
      | inl a ↦ (let r = filter_map-out (spoke_of m n) m.tris s a in (r.0, r.1, r.2, spoke_of-some m n r.0 s (least_old r.0 r.1) r.2))
      | inr b ↦ absurd (nowhere s b)
    ]

    old-has : (s : Spoke) (t : Tri) → Contains m.tris t → spoke_of m n t ≡ Some s → Contains (spokes_of m n) s
    old-has s t h e = insert_all_by-new spoke_lt s (filter_map (spoke_of m n) m.tris) [] (filter_map-in (spoke_of m n) m.tris t s h e)

    after-has : (s : Spoke) (t : Tri) → Contains after.tris t → spoke_of after n t ≡ Some s → Contains (spokes_of after n) s
    after-has s t h e = insert_all_by-new spoke_lt s (filter_map (spoke_of after n) after.tris) [] (filter_map-in (spoke_of after n) after.tris t s h e)

    -- a spoke that stays
    kept-means : (s : Spoke) → Contains (filter stays (spokes_of m n)) s → (t : Tri) × Contains m.tris t × (removed t ≡ false) × (spoke_of after n t ≡ Some s)
    kept-means s h =
        let o = filter-out stays s (spokes_of m n) h in
        let r = old-means s o.0 in
        let k : removed r.0 ≡ false = sym (ap removed r.3) ∙ not-true (removed (tri_at n s)) o.1 in
        (r.0, r.1, k, spoke_of-alike after m n r.0 (f.stay r.0 r.1 k) ∙ r.2)

    kept-has : (s : Spoke) (t : Tri) → Contains m.tris t → removed t ≡ false → spoke_of after n t ≡ Some s → Contains (filter stays (spokes_of m n)) s
    kept-has s t h k e =
        let e' : spoke_of m n t ≡ Some s = sym (spoke_of-alike after m n t (f.stay t h k)) ∙ e in
        let same : tri_at n s ≡ t = spoke_of-some m n t s (least_old t h) e' in
        filter-in stays s (spokes_of m n) (old-has s t h e') (not_from_false (removed (tri_at n s)) (ap removed same ∙ k))

    -- members
    forth : (s : Spoke) → Contains (spokes_of after n) s → Contains (spokes_after sight removed put n (spokes_of m n)) s
    forth s h = elim (insert_all_by-cases spoke_lt s (filter_map (spoke_of after n) after.tris) [] h) [
      | inl a ↦ (let r = filter_map-out (spoke_of after n) after.tris s a in
          elim (replaced-cases tri_lt removed added m.tris r.0 r.1) [
            | inl i ↦ insert_all_by-new spoke_lt s (filter_map (spoke_of sight n) put) (filter stays (spokes_of m n)) (put-has s r.0 i r.2)
            | inr i ↦ insert_all_by-old spoke_lt s (filter_map (spoke_of sight n) put) (filter stays (spokes_of m n)) (kept-has s r.0 i.0 i.1 r.2)
          ])
      | inr b ↦ absurd (nowhere s b)
    ]

    back : (s : Spoke) → Contains (spokes_after sight removed put n (spokes_of m n)) s → Contains (spokes_of after n) s
    back s h = elim (insert_all_by-cases spoke_lt s (filter_map (spoke_of sight n) put) (filter stays (spokes_of m n)) h) [
      | inl a ↦ (let r = put-means s a in after-has s r.0 (replaced-new tri_lt removed added m.tris r.0 r.1) r.2)
      | inr a ↦ (let r = kept-means s a in after-has s r.0 (replaced-kept tri_lt removed added m.tris r.0 r.1 r.2) r.3)
    ]

    -- two triangles after with spokes of one right are one
    same_tri : (s z : Spoke) (t w : Tri) → Contains after.tris t → Contains after.tris w → spoke_of after n t ≡ Some s → spoke_of after n w ≡ Some z → s.right ≡ z.right → t ≡ w
    same_tri s z t w ht hw et ew e =
        ok'.edges_once t w n s.right ht hw (edge_of_spoke after n t s (least_after t ht) et) (subst (λ k. has_edge n k w ≡ true) (sym e) (edge_of_spoke after n w z (least_after w hw) ew))
      where
        least_after : (x : Tri) → Contains after.tris x → IsLeastFirst x
        least_after x h = let p = ok'.proper x h in record { least = p.least; least' = p.least'; apart = p.apart }

    -- those that are put in have different rights
    put-apart : (ts : List Tri) → ((t : Tri) → Contains ts t → Contains put t) → AreDifferent ts → AreApart spoke_lt (filter_map (spoke_of sight n) ts)
    put-apart [] sub d = tt
    put-apart (t ∷ ts) sub d = go (spoke_of sight n t) refl (put-apart ts (λ z h. sub z (there z t ts h)) d.1)
      where
        go : (o : Option Spoke) → spoke_of sight n t ≡ o → AreApart spoke_lt (filter_map (spoke_of sight n) ts) → AreApart spoke_lt (cons_option o (filter_map (spoke_of sight n) ts))
        go None e ih = ih
        go (Some s) e ih = (first, ih)
          where
            first : (z : Spoke) → Contains (filter_map (spoke_of sight n) ts) z → (spoke_lt s z ≡ true) ⊎ (spoke_lt z s ≡ true)
            first z h = spoke_lt-apart s z (λ q.
                let r = filter_map-out (spoke_of sight n) ts z h in
                let it = f.only t (sub t (here t ts)) in
                let ir = f.only r.0 (sub r.0 (there r.0 t ts r.1)) in
                d.0 r.0 r.1 (same_tri s z t r.0 (replaced-new tri_lt removed added m.tris t it) (replaced-new tri_lt removed added m.tris r.0 ir) (sym (spoke_of-alike sight after n t (f.points t it)) ∙ e) (sym (spoke_of-alike sight after n r.0 (f.points r.0 ir)) ∙ r.2) q))

    -- and rights that no spoke has which stays
    put-others : (s : Spoke) → Contains (filter_map (spoke_of sight n) put) s → (z : Spoke) → Contains (filter stays (spokes_of m n)) z → (spoke_lt s z ≡ true) ⊎ (spoke_lt z s ≡ true)
    put-others s hs z hz = spoke_lt-apart s z (λ q.
        let r = put-means s hs in
        let k = kept-means z hz in
        let same = same_tri s z r.0 k.0 (replaced-new tri_lt removed added m.tris r.0 r.1) (replaced-kept tri_lt removed added m.tris k.0 k.1 k.2) r.2 k.3 q in
        inserted-new tri_lt tri_lt-order added (filter (λ t. not (removed t)) m.tris) ok'.tris_rise r.0 r.1 (filter-in (λ t. not (removed t)) r.0 m.tris (subst (λ w. Contains m.tris w) (sym same) k.1) (not_from_false (removed r.0) (ap removed same ∙ k.2))))

    -- the spokes after
    pub spokes-patched : spokes_of after n ≡ spokes_after sight removed put n (spokes_of m n)
    spokes-patched =
        rising-same spoke_lt spoke_lt-order (spokes_of after n) (spokes_after sight removed put n (spokes_of m n)) (spokes-rise after ok' n)
        (rising-insert_all_by spoke_lt spoke_lt-order (filter_map (spoke_of sight n) put) (filter stays (spokes_of m n)) (put-apart put (λ t h. h) f.once) put-others (rising-filter spoke_lt stays (spokes_of m n) (spokes-rise m ok n)))
        forth back

    -- the star of a node that stays
    pub star-patched : is_some (point_of sites n) ≡ is_some (point_of m.sites n) → (IsLive m n → IsAlike after m n) → star_of after n ≡ option_map (star_after sight removed put) (star_of m n)
    star-patched e h = ap (λ b. cond b (Some record { node = n; at = place_of after n; spokes = spokes_of after n }) None) e ∙ go (is_some (point_of m.sites n)) refl
      where
        whole : IsLive m n → Some record { node = n; at = place_of after n; spokes = spokes_of after n } ≡ Some (star_after sight removed put record { node = n; at = place_of m n; spokes = spokes_of m n })
        whole l = λ i. Some record { node = n; at = h l i; spokes = spokes-patched i }

        go : (b : Bool) → is_some (point_of m.sites n) ≡ b → cond b (Some record { node = n; at = place_of after n; spokes = spokes_of after n }) None ≡ option_map (star_after sight removed put) (cond b (Some record { node = n; at = place_of m n; spokes = spokes_of m n }) None)
        go true k = whole k
        go false k = refl

    -- a node at none of the triangles that go or come has its star as before
    pub spokes-outside : ((t : Tri) → Contains m.tris t → removed t ≡ true → has_corner n t ≡ false) → ((t : Tri) → Contains added t → has_corner n t ≡ false) → spokes_of after n ≡ spokes_of m n
    spokes-outside gone come =
        rising-same spoke_lt spoke_lt-order (spokes_of after n) (spokes_of m n) (spokes-rise after ok' n) (spokes-rise m ok n) out into
      where
        corner : (w : Undivided) (t : Tri) (s : Spoke) → spoke_of w n t ≡ Some s → has_corner n t ≡ false → ⊥
        corner w t s e k = no (t.a == n) (t.b == n) (t.c == n) e k
          where
            s1 : Spoke
            s1 = record { right = t.b; right_at = place_of w t.b; left = t.c; left_at = place_of w t.c; owner = t.owner }

            s2 : Spoke
            s2 = record { right = t.c; right_at = place_of w t.c; left = t.a; left_at = place_of w t.a; owner = t.owner }

            s3 : Spoke
            s3 = record { right = t.a; right_at = place_of w t.a; left = t.b; left_at = place_of w t.b; owner = t.owner }

            no : (a b c : Bool) → cond a (Some s1) (cond b (Some s2) (cond c (Some s3) None)) ≡ Some s → (a || (b || c)) ≡ false → ⊥
            no true b c x y = let z : true ≡ false = y in cc
            no false true c x y = let z : true ≡ false = y in cc
            no false false true x y = let z : true ≡ false = y in cc
            no false false false x y = let z : None ≡ Some s = x in cc

        out : (s : Spoke) → Contains (spokes_of after n) s → Contains (spokes_of m n) s
        out s h = elim (insert_all_by-cases spoke_lt s (filter_map (spoke_of sight n) put) (filter stays (spokes_of m n)) (forth s h)) [
          | inl a ↦ absurd (let r = put-means s a in corner after r.0 s r.2 (come r.0 r.1))
          | inr a ↦ (filter-out stays s (spokes_of m n) a).0
        ]

        into : (s : Spoke) → Contains (spokes_of m n) s → Contains (spokes_of after n) s
        into s h = let r = old-means s h in go r (removed r.0) refl
          where
            go : ((t : Tri) × Contains m.tris t × (spoke_of m n t ≡ Some s) × (tri_at n s ≡ t)) → (b : Bool) → removed (old-means s h).0 ≡ b → Contains (spokes_of after n) s
            go r true k = absurd (corner m (old-means s h).0 s (old-means s h).2 (gone (old-means s h).0 (old-means s h).1 k))
            go r false k = after-has s (old-means s h).0 (replaced-kept tri_lt removed added m.tris (old-means s h).0 (old-means s h).1 k) (spoke_of-alike after m n (old-means s h).0 (f.stay (old-means s h).0 (old-means s h).1 k) ∙ (old-means s h).2)

    pub star-outside : is_some (point_of sites n) ≡ is_some (point_of m.sites n) → (IsLive m n → IsAlike after m n) → ((t : Tri) → Contains m.tris t → removed t ≡ true → has_corner n t ≡ true → ⊥) → ((t : Tri) → Contains added t → has_corner n t ≡ true → ⊥) → star_of after n ≡ star_of m n
    star-outside e h gone come = ap (λ b. cond b (star_with n (place_of after n) (spokes_of after n)) None) e ∙ go (is_some (point_of m.sites n)) refl
      where
        no : (b : Bool) → (b ≡ true → ⊥) → b ≡ false
        no true k = absurd (k refl)
        no false k = refl

        same : spokes_of after n ≡ spokes_of m n
        same = spokes-outside (λ t i k. no (has_corner n t) (gone t i k)) (λ t i. no (has_corner n t) (come t i))

        whole : IsLive m n → star_with n (place_of after n) (spokes_of after n) ≡ star_with n (place_of m n) (spokes_of m n)
        whole l = λ i. star_with n (h l i) (same i)

        go : (b : Bool) → is_some (point_of m.sites n) ≡ b → cond b (star_with n (place_of after n) (spokes_of after n)) None ≡ cond b (star_with n (place_of m n) (spokes_of m n)) None
        go true k = whole k
        go false k = refl
