-- A patch with a later new name in the place of the new name is the patch, so a patch can be made before the ticket is drawn.
-- Assumes that the entry can be applied, and that the cavity is shown.
use Rattle.std.proofs.Common.{◌≡◌, ◌≢◌, ℕ, ◌+◌, ◌≤◌, ◌<◌, List, [], ◌++◌, refl, sym, ◌∙◌, ap, subst, Bool, true, false, cond, inl, inr, arith}
use Rattle.std.specs.Prelude.{Contains, Option, Some, None, is_some, min, max, map, filter, filter_map, not, pos, ◌==◌}
use Rattle.std.specs.Option.{option_map}
use Rattle.std.specs.List.{cons_option}
use Rattle.std.proofs.lemmas.List.{map-append}
use Rattle.std.proofs.lemmas.List.Elements.{filter_map-append}
use Rattle.std.proofs.lemmas.Bool.{cases_eq}
use Rattle.pf_geom.specs.declared.Point.{Point}
use Rattle.pf_geom.specs.Plane.{middle_of}
use Rattle.pf_model.specs.declared.Tri.{Tri}
use Rattle.pf_model.specs.declared.Spoke.{Spoke}
use Rattle.pf_model.specs.declared.Op.TheVariants.{Bisect}
use Rattle.pf_model.specs.Rising.{insert_all_by}
use Rattle.pf_model.specs.declared.Side.{Side}
use Rattle.pf_model.specs.Mesh.{Undivided, tri_of, side_of, point_of, place_of}
use Rattle.pf_model.specs.Conforming.{IsConforming, IsLive}
use Rattle.pf_model.specs.Applied.{IsFresh, applied, is_at_edge, halves_of, new_site}
use Rattle.pf_model.specs.Conditions.{first_failing}
use Rattle.pf_model.specs.Stars.{Star, star_of, spoke_of, spoke_lt, spokes_of}
use Rattle.pf_model.proofs.Members.{filter-out, insert_all_by-new, insert_all_by-old}
use Rattle.pf_model.proofs.Triangles.{tri_of-turned}
use Rattle.pf_model.proofs.Kept.{side_of-stands}
use Rattle.pf_model.proofs.Spokes.{spokes-means}
use Rattle.pf_model.proofs.FlipKeeps.{corners_of}
use Rattle.pf_star_model.specs.Lent.{sites_in, sight_of, tri_at}
use Rattle.pf_star_model.specs.Patched.{spokes_after, star_after, renamed_spoke, renamed_star}
use Rattle.pf_star_model.proofs.Shown.{IsSeen, seen_live}
use Rattle.pf_star_model.proofs.Judging.{IsEdgeSeen}
use Rattle.pf_star_model.proofs.Patching.{star_with}
use Rattle.pf_star_model.proofs.BisectPatched as bisect
use Rattle.pf_star_model.proofs.Renaming.{IsKnown, renamed_old, renamed_later, renamed_lt, insert_all_by-map, map-same, spoke_by, spoke_old, spoke_new}

abbrev origin : Point
origin = record { x = pos 0; y = pos 0 }

spoke_same : (later earlier : ℕ) → earlier ≤ later → (s : Spoke) → s.right < earlier → s.left < earlier → renamed_spoke later earlier s ≡ s
spoke_same later earlier o s hr hl = λ i. record s { right = renamed_old later earlier o s.right hr i; left = renamed_old later earlier o s.left hl i }

-- names of a star are live
pub star_same : (m : Undivided) → IsConforming m → (later earlier : ℕ) → earlier ≤ later → ((k : ℕ) → IsLive m k → k < earlier) → (n : ℕ) → option_map (renamed_star later earlier) (star_of m n) ≡ star_of m n
star_same m ok later earlier o below n = go (is_some (point_of m.sites n)) refl
  where
    same : map (renamed_spoke later earlier) (spokes_of m n) ≡ spokes_of m n
    same = map-same (renamed_spoke later earlier) (spokes_of m n) (λ s h. let c = corners_of m ok n s.right s.left s.owner (spokes-means m ok n s h) in spoke_same later earlier o s (below s.right c.live_q) (below s.left c.live_z))

    whole : Star
    whole = record { node = n; at = place_of m n; spokes = spokes_of m n }

    star_at : ℕ → List Spoke → Option Star
    star_at k ss = Some record { node = k; at = place_of m n; spokes = ss }

    both : IsLive m n → option_map (renamed_star later earlier) (Some whole) ≡ Some whole
    both l = λ i. Some record { node = renamed_old later earlier o n (below n l) i; at = place_of m n; spokes = same i }

    go : (b : Bool) → is_some (point_of m.sites n) ≡ b → option_map (renamed_star later earlier) (cond b (Some whole) None) ≡ cond b (Some whole) None
    go true l = both l
    go false l = refl

abbrev some_spoke : ℕ → Point → ℕ → Point → ℕ → Option Spoke
some_spoke r p l q o = Some record { right = r; right_at = p; left = l; left_at = q; owner = o }

cons_option-map : {X Y : Type 0} (f : X → Y) (a b : Option X) → map f (cons_option a (cons_option b [])) ≡ cons_option (option_map f a) (cons_option (option_map f b) [])
cons_option-map f None None = refl
cons_option-map f None (Some y) = refl
cons_option-map f (Some x) None = refl
cons_option-map f (Some x) (Some y) = refl

module _ (m : Undivided) (ok : IsConforming m) (chunk a b t t' : ℕ) (fresh : IsFresh m t) (passes : first_failing m chunk (Bisect a b) ≡ None) (le : t ≤ t') where
  abbrev earlier : ℕ
  earlier = m.first_new + t

  abbrev later : ℕ
  later = m.first_new + t'

  order : earlier ≤ later
  order = let l = le in omega arith

  fresh' : IsFresh m t'
  fresh' n l = let h = fresh n l in let k = le in omega arith

  abbrev lo : ℕ
  lo = min a b

  abbrev hi : ℕ
  hi = max a b

  abbrev sight_at : ℕ → Undivided
  sight_at k = record (sight_of [] (star_of m lo)) { sites = sites_in (star_of m lo) ++ new_site k (middle_of (place_of m lo) (place_of m hi)) }

  abbrev put_at : ℕ → List Tri
  put_at k = halves_of k lo hi (side_of m.tris lo hi) ++ halves_of k hi lo (side_of m.tris hi lo)

  abbrev f : Spoke → Spoke
  f = renamed_spoke later earlier

  -- a name that the lower end shows
  record IsPlain (x : ℕ) : Type 0 where
    below : x < earlier
    alike : place_of (sight_at later) x ≡ place_of (sight_at earlier) x

  plain : (x : ℕ) → IsLive m x → IsSeen m lo x → IsPlain x
  plain x l i = record { below = fresh x l; alike = bisect.sight_at_old m ok chunk a b t' fresh' passes x i ∙ sym (bisect.sight_at_old m ok chunk a b t fresh passes x i) }

  new_alike : place_of (sight_at later) later ≡ place_of (sight_at earlier) earlier
  new_alike = bisect.sight_at_new m ok chunk a b t' fresh' passes ∙ sym (bisect.sight_at_new m ok chunk a b t fresh passes)

  -- the spoke of an old node
  by_renamed : (n x y o : ℕ) → IsPlain x → IsPlain y → option_map f (spoke_by (sight_at later) later n x y o) ≡ spoke_by (sight_at earlier) earlier n x y o
  by_renamed n x y o hx hy = go (x == n) (y == n)
    where
      at_left : option_map f (some_spoke y (place_of (sight_at later) y) later (place_of (sight_at later) later) o) ≡ some_spoke y (place_of (sight_at earlier) y) earlier (place_of (sight_at earlier) earlier) o
      at_left = λ i. some_spoke (renamed_old later earlier order y hy.below i) (hy.alike i) (renamed_later later earlier order i) (new_alike i) o

      at_right : option_map f (some_spoke later (place_of (sight_at later) later) x (place_of (sight_at later) x) o) ≡ some_spoke earlier (place_of (sight_at earlier) earlier) x (place_of (sight_at earlier) x) o
      at_right = λ i. some_spoke (renamed_later later earlier order i) (new_alike i) (renamed_old later earlier order x hx.below i) (hx.alike i) o

      go : (p q : Bool) → option_map f (cond p (some_spoke y (place_of (sight_at later) y) later (place_of (sight_at later) later) o) (cond q (some_spoke later (place_of (sight_at later) later) x (place_of (sight_at later) x) o) None)) ≡ cond p (some_spoke y (place_of (sight_at earlier) y) earlier (place_of (sight_at earlier) earlier) o) (cond q (some_spoke earlier (place_of (sight_at earlier) earlier) x (place_of (sight_at earlier) x) o) None)
      go true q = at_left
      go false true = at_right
      go false false = refl

  -- a side of the edge, as far as it is there
  record IsCut (p q : ℕ) (s : Option Side) : Type 0 where
    from : IsPlain p
    to : IsPlain q
    apex : (x : Side) → s ≡ Some x → IsPlain x.apex × ((x.apex ≢ p) × (q ≢ x.apex))

  cut : (p q : ℕ) → IsLive m p → IsLive m q → IsSeen m lo p → IsSeen m lo q → ((x : Side) → side_of m.tris p q ≡ Some x → IsSeen m lo x.apex) → IsCut p q (side_of m.tris p q)
  cut p q lp lq ip iq ix =
      record {
        from = plain p lp ip;
        to = plain q lq iq;
        apex = λ x e. (let c = corners_of m ok p q x.apex x.owner (side_of-stands m.tris (λ t h. let r = ok.proper t h in record { least = r.least; least' = r.least'; apart = r.apart }) p q x e) in (plain x.apex c.live_z (ix x e), (c.distinct.three, c.distinct.two)));
      }

  above : (k x : ℕ) → earlier ≤ k → IsPlain x → x < k
  above k x h i = let b = i.below in omega arith

  -- the spokes of a node at the halves of one side
  halves_old : (k n p q : ℕ) (x : Side) → earlier ≤ k → n ≢ k → IsPlain p → IsPlain q → IsPlain x.apex → x.apex ≢ p → q ≢ x.apex → filter_map (spoke_of (sight_at k) n) (halves_of k p q (Some x)) ≡ cons_option (spoke_by (sight_at k) k n x.apex p x.owner) (cons_option (spoke_by (sight_at k) k n q x.apex x.owner) [])
  halves_old k n p q x h d hp hq hx a c =
      let lp = above k p h hp in
      let lq = above k q h hq in
      let lx = above k x.apex h hx in
      let t1 : tri_of p k x.apex x.owner ≡ tri_of x.apex p k x.owner = sym (tri_of-turned x.apex p k x.owner a (below_apart p k lp) (λ e. below_apart x.apex k lx (sym e))) in
      let t2 : tri_of k q x.apex x.owner ≡ tri_of q x.apex k x.owner = tri_of-turned k q x.apex x.owner (λ e. below_apart q k lq (sym e)) c (below_apart x.apex k lx) in
      ap (λ o. cons_option o (cons_option (spoke_of (sight_at k) n (tri_of k q x.apex x.owner)) [])) (ap (spoke_of (sight_at k) n) t1 ∙ spoke_old (sight_at k) k n x.apex p x.owner d lx lp a)
      ∙ ap (λ o. cons_option (spoke_by (sight_at k) k n x.apex p x.owner) (cons_option o [])) (ap (spoke_of (sight_at k) n) t2 ∙ spoke_old (sight_at k) k n q x.apex x.owner d lq lx c)
    where
      below_apart : (u v : ℕ) → u < v → u ≢ v
      below_apart u v l e = omega arith

  halves_new : (k p q : ℕ) (x : Side) → earlier ≤ k → IsPlain p → IsPlain q → IsPlain x.apex → x.apex ≢ p → q ≢ x.apex → filter_map (spoke_of (sight_at k) k) (halves_of k p q (Some x)) ≡ cons_option (some_spoke x.apex (place_of (sight_at k) x.apex) p (place_of (sight_at k) p) x.owner) (cons_option (some_spoke q (place_of (sight_at k) q) x.apex (place_of (sight_at k) x.apex) x.owner) [])
  halves_new k p q x h hp hq hx a c =
      let lp = above k p h hp in
      let lq = above k q h hq in
      let lx = above k x.apex h hx in
      let t1 : tri_of p k x.apex x.owner ≡ tri_of x.apex p k x.owner = sym (tri_of-turned x.apex p k x.owner a (below_apart p k lp) (λ e. below_apart x.apex k lx (sym e))) in
      let t2 : tri_of k q x.apex x.owner ≡ tri_of q x.apex k x.owner = tri_of-turned k q x.apex x.owner (λ e. below_apart q k lq (sym e)) c (below_apart x.apex k lx) in
      ap (λ o. cons_option o (cons_option (spoke_of (sight_at k) k (tri_of k q x.apex x.owner)) [])) (ap (spoke_of (sight_at k) k) t1 ∙ spoke_new (sight_at k) k x.apex p x.owner lx lp a)
      ∙ ap (λ o. cons_option (some_spoke x.apex (place_of (sight_at k) x.apex) p (place_of (sight_at k) p) x.owner) (cons_option o [])) (ap (spoke_of (sight_at k) k) t2 ∙ spoke_new (sight_at k) k q x.apex x.owner lq lx c)
    where
      below_apart : (u v : ℕ) → u < v → u ≢ v
      below_apart u v l e = omega arith

  half_old : (n p q : ℕ) (s : Option Side) → n < earlier → IsCut p q s → map f (filter_map (spoke_of (sight_at later) n) (halves_of later p q s)) ≡ filter_map (spoke_of (sight_at earlier) n) (halves_of earlier p q s)
  half_old n p q None l c = refl
  half_old n p q (Some x) l c =
      let i = c.apex x refl in
      let o = order in
      ap (map f) (halves_old later n p q x o (λ e. omega arith) c.from c.to i.0 i.1.0 i.1.1)
      ∙ (cons_option-map f (spoke_by (sight_at later) later n x.apex p x.owner) (spoke_by (sight_at later) later n q x.apex x.owner)
      ∙ (ap (λ y. cons_option y (cons_option (option_map f (spoke_by (sight_at later) later n q x.apex x.owner)) [])) (by_renamed n x.apex p x.owner i.0 c.from)
      ∙ (ap (λ y. cons_option (spoke_by (sight_at earlier) earlier n x.apex p x.owner) (cons_option y [])) (by_renamed n q x.apex x.owner c.to i.0)
      ∙ sym (halves_old earlier n p q x (omega arith) (λ e. omega arith) c.from c.to i.0 i.1.0 i.1.1))))

  both_plain : (x y o : ℕ) → IsPlain x → IsPlain y → option_map f (some_spoke x (place_of (sight_at later) x) y (place_of (sight_at later) y) o) ≡ some_spoke x (place_of (sight_at earlier) x) y (place_of (sight_at earlier) y) o
  both_plain x y o hx hy = λ i. some_spoke (renamed_old later earlier order x hx.below i) (hx.alike i) (renamed_old later earlier order y hy.below i) (hy.alike i) o

  half_new : (p q : ℕ) (s : Option Side) → IsCut p q s → map f (filter_map (spoke_of (sight_at later) later) (halves_of later p q s)) ≡ filter_map (spoke_of (sight_at earlier) earlier) (halves_of earlier p q s)
  half_new p q None c = refl
  half_new p q (Some x) c =
      let i = c.apex x refl in
      let o = order in
      ap (map f) (halves_new later p q x o c.from c.to i.0 i.1.0 i.1.1)
      ∙ (ap (λ y. cons_option y (cons_option (option_map f (some_spoke q (place_of (sight_at later) q) x.apex (place_of (sight_at later) x.apex) x.owner)) [])) (both_plain x.apex p x.owner i.0 c.from)
      ∙ (ap (λ y. cons_option (some_spoke x.apex (place_of (sight_at earlier) x.apex) p (place_of (sight_at earlier) p) x.owner) (cons_option y [])) (both_plain q x.apex x.owner c.to i.0)
      ∙ sym (halves_new earlier p q x (omega arith) c.from c.to i.0 i.1.0 i.1.1)))

  seen_lo : IsSeen m lo lo
  seen_lo = inl refl

  seen : IsEdgeSeen m lo hi
  seen = bisect.seen m ok chunk a b t fresh passes

  live_hi : IsLive m hi
  live_hi = seen_live m ok lo hi seen.live seen.other

  put_renamed : (n n' : ℕ) → ((p q : ℕ) (s : Option Side) → IsCut p q s → map f (filter_map (spoke_of (sight_at later) n) (halves_of later p q s)) ≡ filter_map (spoke_of (sight_at earlier) n') (halves_of earlier p q s)) → map f (filter_map (spoke_of (sight_at later) n) (put_at later)) ≡ filter_map (spoke_of (sight_at earlier) n') (put_at earlier)
  put_renamed n n' h =
      ap (map f) (filter_map-append (spoke_of (sight_at later) n) (halves_of later lo hi (side_of m.tris lo hi)) (halves_of later hi lo (side_of m.tris hi lo)))
      ∙ (map-append f (filter_map (spoke_of (sight_at later) n) (halves_of later lo hi (side_of m.tris lo hi))) (filter_map (spoke_of (sight_at later) n) (halves_of later hi lo (side_of m.tris hi lo)))
      ∙ (ap (λ l. l ++ map f (filter_map (spoke_of (sight_at later) n) (halves_of later hi lo (side_of m.tris hi lo)))) (h lo hi (side_of m.tris lo hi) (cut lo hi seen.live live_hi seen_lo seen.other seen.left))
      ∙ (ap (λ l. filter_map (spoke_of (sight_at earlier) n') (halves_of earlier lo hi (side_of m.tris lo hi)) ++ l) (h hi lo (side_of m.tris hi lo) (cut hi lo live_hi seen.live seen.other seen_lo seen.right))
      ∙ sym (filter_map-append (spoke_of (sight_at earlier) n') (halves_of earlier lo hi (side_of m.tris lo hi)) (halves_of earlier hi lo (side_of m.tris hi lo))))))

  abbrev pub after_at : ℕ → Undivided
  after_at k = applied m record { ticket = k; chunk = chunk; op = Bisect a b }

  -- the rights of spokes after are known
  known : (n : ℕ) (s : Spoke) → Contains (spokes_of (after_at t') n) s → IsKnown later earlier order s.right
  known n s h =
      let c = corners_of (after_at t') (bisect.ok' m ok chunk a b t' fresh' passes) n s.right s.left s.owner (spokes-means (after_at t') (bisect.ok' m ok chunk a b t' fresh' passes) n s h) in
      elim (cases_eq s.right later) [ inl e ↦ inr e | inr d ↦ inl (fresh s.right (sym (bisect.live_same m ok chunk a b t' fresh' passes s.right d) ∙ c.live_q)) ]

  keeps : (x y : Spoke) → IsKnown later earlier order x.right → IsKnown later earlier order y.right → spoke_lt (f x) (f y) ≡ spoke_lt x y
  keeps x y hx hy = renamed_lt later earlier order x.right y.right hx hy

  abbrev stays : ℕ → List Spoke → List Spoke
  stays n ss = filter (λ s. not (is_at_edge lo hi (tri_at n s))) ss

  spokes_renamed : (n n' : ℕ) (ss : List Spoke) → ((s : Spoke) → Contains (spokes_after (sight_at later) (is_at_edge lo hi) (put_at later) n ss) s → IsKnown later earlier order s.right) → map f (filter_map (spoke_of (sight_at later) n) (put_at later)) ≡ filter_map (spoke_of (sight_at earlier) n') (put_at earlier) → map f (stays n ss) ≡ stays n' ss → map f (spokes_after (sight_at later) (is_at_edge lo hi) (put_at later) n ss) ≡ spokes_after (sight_at earlier) (is_at_edge lo hi) (put_at earlier) n' ss
  spokes_renamed n n' ss k e g =
      insert_all_by-map f spoke_lt (λ s. IsKnown later earlier order s.right) keeps (filter_map (spoke_of (sight_at later) n) (put_at later)) (stays n ss) (λ s h. k s (insert_all_by-new spoke_lt s (filter_map (spoke_of (sight_at later) n) (put_at later)) (stays n ss) h)) (λ s h. k s (insert_all_by-old spoke_lt s (filter_map (spoke_of (sight_at later) n) (put_at later)) (stays n ss) h))
      ∙ (ap (λ xs. insert_all_by spoke_lt xs (map f (stays n ss))) e ∙ ap (λ ys. insert_all_by spoke_lt (filter_map (spoke_of (sight_at earlier) n') (put_at earlier)) ys) g)

  old_spokes : (n : ℕ) → n < earlier → map f (spokes_after (sight_at later) (is_at_edge lo hi) (put_at later) n (spokes_of m n)) ≡ spokes_after (sight_at earlier) (is_at_edge lo hi) (put_at earlier) n (spokes_of m n)
  old_spokes n l =
      spokes_renamed n n (spokes_of m n) (λ s h. known n s (subst (λ ss. Contains ss s) (sym (bisect.bisect_spokes m ok chunk a b t' fresh' passes n)) h)) (put_renamed n n (λ p q s c. half_old n p q s l c)) (map-same f (stays n (spokes_of m n)) same)
    where
      same : (s : Spoke) → Contains (stays n (spokes_of m n)) s → f s ≡ s
      same s h =
          let c = corners_of m ok n s.right s.left s.owner (spokes-means m ok n s (filter-out (λ s. not (is_at_edge lo hi (tri_at n s))) s (spokes_of m n) h).0) in
          spoke_same later earlier order s (fresh s.right c.live_q) (fresh s.left c.live_z)

  new_spokes : map f (spokes_after (sight_at later) (is_at_edge lo hi) (put_at later) later []) ≡ spokes_after (sight_at earlier) (is_at_edge lo hi) (put_at earlier) earlier []
  new_spokes = spokes_renamed later earlier [] (λ s h. known later s (subst (λ ss. Contains ss s) (sym (bisect.bisect_spokes m ok chunk a b t' fresh' passes later ∙ ap (λ ss. spokes_after (sight_at later) (is_at_edge lo hi) (put_at later) later ss) (bisect.new_spokes m ok chunk a b t' fresh' passes))) h)) (put_renamed later earlier half_new) refl

  pub bisect_renamed_old : (n : ℕ) → IsLive m n → option_map (renamed_star later earlier) (star_of (after_at t') n) ≡ star_of (after_at t) n
  bisect_renamed_old n l =
      let b' = fresh n l in
      let o = order in
      ap (option_map (renamed_star later earlier)) (bisect.bisect_star m ok chunk a b t' fresh' passes n (λ e. omega arith))
      ∙ (go (is_some (point_of m.sites n)) l ∙ sym (bisect.bisect_star m ok chunk a b t fresh passes n (λ e. omega arith)))
    where
      whole : Star
      whole = record { node = n; at = place_of m n; spokes = spokes_of m n }

      both : option_map (renamed_star later earlier) (Some (star_after (sight_at later) (is_at_edge lo hi) (put_at later) whole)) ≡ Some (star_after (sight_at earlier) (is_at_edge lo hi) (put_at earlier) whole)
      both = λ i. star_with (renamed_old later earlier order n (fresh n l) i) (place_of m n) (old_spokes n (fresh n l) i)

      go : (c : Bool) → c ≡ true → option_map (renamed_star later earlier) (option_map (star_after (sight_at later) (is_at_edge lo hi) (put_at later)) (cond c (Some whole) None)) ≡ option_map (star_after (sight_at earlier) (is_at_edge lo hi) (put_at earlier)) (cond c (Some whole) None)
      go true e = both
      go false e = absurd (let k : false ≡ true = e in cc)

  pub bisect_renamed_new : option_map (renamed_star later earlier) (star_of (after_at t') later) ≡ star_of (after_at t) earlier
  bisect_renamed_new =
      ap (option_map (renamed_star later earlier)) (bisect.bisect_new m ok chunk a b t' fresh' passes)
      ∙ (both ∙ sym (bisect.bisect_new m ok chunk a b t fresh passes))
    where
      both : option_map (renamed_star later earlier) (star_with later (place_of (sight_at later) later) (spokes_after (sight_at later) (is_at_edge lo hi) (put_at later) later [])) ≡ star_with earlier (place_of (sight_at earlier) earlier) (spokes_after (sight_at earlier) (is_at_edge lo hi) (put_at earlier) earlier [])
      both = λ i. star_with (renamed_later later earlier order i) (new_alike i) (new_spokes i)
