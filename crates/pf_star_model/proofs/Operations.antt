-- The laws of patches, over all operations.
use Rattle.std.proofs.Common.{◌≡◌, ℕ, ◌+◌, ◌<◌, List, [], ◌∷◌, ◌++◌, refl, sym, ◌∙◌, ap, subst, Bool, true, false, cond, ◌⊎◌, inl, inr, arith, ◌||◌}
use Rattle.std.specs.Prelude.{Contains, AllPairs, Option, Some, None, map, ◌==◌, nat_lt}
use Rattle.std.proofs.lemmas.Bool.Decides.{nat_tests}
use Rattle.std.proofs.lemmas.List.Elements.{Contains-append_cases, Contains-append_left, Contains-append_right}
use Rattle.std.proofs.lemmas.Bool.{eqb-false, eqb-true}
use Rattle.pf_model.specs.declared.Op.{Op}
use Rattle.pf_model.specs.declared.Op.TheVariants.{Flip, Bisect, Contract}
use Rattle.pf_model.specs.declared.Cond.{Cond}
use Rattle.pf_model.specs.Rising.{IsRising}
use Rattle.pf_model.specs.Conditions.{first_failing}
use Rattle.pf_model.specs.Mesh.{Undivided}
use Rattle.pf_model.specs.Applied.{applied}
use Rattle.pf_model.specs.Stars.{Star, star_of}
use Rattle.pf_model.proofs.Members.{nowhere, here, there, cases}
use Rattle.pf_model.proofs.Totals.{map-in, map-means}
use Rattle.pf_model.proofs.RisingLemmas.{rising-nil, rising-head, rising-tail, rising-cons}
use Rattle.pf_star_model.specs.Lent.{Held, is_held, star_held, AgreesOn, IsShown}
use Rattle.pf_star_model.specs.Judged.{ends_failing}
use Rattle.pf_star_model.specs.Cavity.{cavity_of, cavity_seen, PassesAtEnds}
use Rattle.pf_star_model.specs.Patched.{patched, made_by, changed_by, patch_of, patched_pairs}
use Rattle.pf_star_model.specs.Copies.{due_copy, copy_of}
use Rattle.pf_star_model.specs.Laws.{AreEndsShown, CanApply, IsPatch}
use Rattle.pf_star_model.proofs.FlipPatched.{flip_patched, flip_outside}
use Rattle.pf_star_model.proofs.BisectPatched.{bisect_patched, bisect_outside, bisect_made}
use Rattle.pf_star_model.proofs.ContractPatched.{contract_patched, contract_outside}
use Rattle.pf_star_model.proofs.Judging.{or_else, flip_failing}
use Rattle.pf_star_model.proofs.Names.{risen-rise, risen-means, risen-has}
use Rattle.pf_star_model.proofs.Cavities.{cavity_is_seen}

pub patched_is_star : (m : Undivided) (lent : ℕ → Option Star) (chunk ticket : ℕ) (op : Op) → CanApply m record { ticket = ticket; chunk = chunk; op = op } → AreEndsShown lent m op → (n : ℕ) → IsShown lent m n → patched lent (m.first_new + ticket) op n ≡ star_of (applied m record { ticket = ticket; chunk = chunk; op = op }) n
patched_is_star m lent chunk ticket (Flip a b) c s n h = flip_patched m c.conforming chunk a b ticket c.passes lent (m.first_new + ticket) s.0 s.1 n h
patched_is_star m lent chunk ticket (Bisect a b) c s n h = bisect_patched m c.conforming chunk a b ticket c.fresh c.passes lent s.0 s.1 n h
patched_is_star m lent chunk ticket (Contract u v) c s n h = contract_patched m c.conforming chunk u v ticket c.passes lent (m.first_new + ticket) s.0 n h

pub patched_is_new_star : (m : Undivided) (lent : ℕ → Option Star) (chunk ticket : ℕ) (op : Op) → CanApply m record { ticket = ticket; chunk = chunk; op = op } → AreEndsShown lent m op → (n : ℕ) → Contains (made_by (m.first_new + ticket) op) n → patched lent (m.first_new + ticket) op n ≡ star_of (applied m record { ticket = ticket; chunk = chunk; op = op }) n
patched_is_new_star m lent chunk ticket (Flip a b) c s n h = absurd (nowhere n h)
patched_is_new_star m lent chunk ticket (Bisect a b) c s n h = elim (cases n (m.first_new + ticket) [] h) [ inl e ↦ bisect_made m c.conforming chunk a b ticket c.fresh c.passes lent s.0 s.1 n e | inr k ↦ absurd (nowhere n k) ]
patched_is_new_star m lent chunk ticket (Contract u v) c s n h = absurd (nowhere n h)

pub outside_stays : (m : Undivided) (chunk ticket : ℕ) (op : Op) → CanApply m record { ticket = ticket; chunk = chunk; op = op } → (n : ℕ) → (n ≡ m.first_new + ticket → ⊥) → (Contains (cavity_of m chunk op) n → ⊥) → star_of (applied m record { ticket = ticket; chunk = chunk; op = op }) n ≡ star_of m n
outside_stays m chunk ticket (Flip a b) c n d out = flip_outside m c.conforming chunk a b ticket c.passes n out
outside_stays m chunk ticket (Bisect a b) c n d out = bisect_outside m c.conforming chunk a b ticket c.fresh c.passes n d out
outside_stays m chunk ticket (Contract u v) c n d out = contract_outside m c.conforming chunk u v ticket c.passes n out

-- held pairs that are true show the stars of their nodes
pub held_shown : (hs : List Held) (m : Undivided) → AgreesOn hs m → (n : ℕ) → is_held hs n ≡ true → IsShown (star_held hs) m n
held_shown [] m a n h = absurd (let e : false ≡ true = h in cc)
held_shown (x ∷ xs) m a n h = go (x.node == n) refl h (λ e. held_shown xs m (λ y i. a y (there y x xs i)) n e)
  where
    go : (b : Bool) → (x.node == n) ≡ b → (b || is_held xs n) ≡ true → (is_held xs n ≡ true → star_held xs n ≡ star_of m n) → cond b x.star (star_held xs n) ≡ star_of m n
    go true e f ih = a x (here x xs) ∙ ap (star_of m) (eqb-true x.node n e)
    go false e f ih = ih f

pub held_true : (hs : List Held) (m : Undivided) → AgreesOn hs m → (n : ℕ) (s : Star) → star_held hs n ≡ Some s → star_of m n ≡ Some s
held_true [] m a n s h = absurd (let e : None ≡ Some s = h in cc)
held_true (x ∷ xs) m a n s h = go (x.node == n) refl h (λ e. held_true xs m (λ y i. a y (there y x xs i)) n s e)
  where
    go : (b : Bool) → (x.node == n) ≡ b → cond b x.star (star_held xs n) ≡ Some s → (star_held xs n ≡ Some s → star_of m n ≡ Some s) → star_of m n ≡ Some s
    go true e f ih = sym (a x (here x xs) ∙ ap (star_of m) (eqb-true x.node n e)) ∙ f
    go false e f ih = ih f

held_node : (hs : List Held) (h : Held) → Contains hs h → is_held hs h.node ≡ true
held_node [] h i = absurd (nowhere h i)
held_node (x ∷ xs) h i = go (x.node == h.node) refl (cases h x xs i) (λ j. held_node xs h j)
  where
    go : (b : Bool) → (x.node == h.node) ≡ b → (h ≡ x) ⊎ Contains xs h → (Contains xs h → is_held xs h.node ≡ true) → (b || is_held xs h.node) ≡ true
    go true e c ih = refl
    go false e (inl y) ih = absurd (eqb-false x.node h.node e (ap (λ w. w.node) (sym y)))
    go false e (inr y) ih = ih y

pub patched_pairs_agree : (m : Undivided) (held : List Held) (chunk ticket : ℕ) (op : Op) → CanApply m record { ticket = ticket; chunk = chunk; op = op } → AgreesOn held m → AreEndsShown (star_held held) m op → AgreesOn (patched_pairs held (m.first_new + ticket) op) (applied m record { ticket = ticket; chunk = chunk; op = op })
patched_pairs_agree m held chunk ticket op c a s h i =
    let r = map-means (λ x. pair x) held h i in
    subst (λ x. x.star ≡ star_of (applied m record { ticket = ticket; chunk = chunk; op = op }) x.node) r.2 (patched_is_star m (star_held held) chunk ticket op c s r.0.node (held_shown held m a r.0.node (held_node held r.0 r.1)))
  where
    pair : Held → Held
    pair x = record { node = x.node; star = patched (star_held held) (m.first_new + ticket) op x.node }

pub other_pairs_agree : (m : Undivided) (held : List Held) (chunk ticket : ℕ) (op : Op) → CanApply m record { ticket = ticket; chunk = chunk; op = op } → AgreesOn held m → ((h : Held) → Contains held h → h.node ≡ m.first_new + ticket → ⊥) → ((h : Held) → Contains held h → Contains (cavity_of m chunk op) h.node → ⊥) → AgreesOn held (applied m record { ticket = ticket; chunk = chunk; op = op })
other_pairs_agree m held chunk ticket op c a new out h i = a h i ∙ sym (outside_stays m chunk ticket op c h.node (new h i) (out h i))

-- an operation that passes does so at its ends
pub passes_at_ends : (m : Undivided) (chunk : ℕ) (op : Op) → first_failing m chunk op ≡ None → PassesAtEnds m chunk op
passes_at_ends m chunk (Flip a b) h = first_none (ends_failing m chunk a b) _ (sym (flip_failing m chunk a b) ∙ h)
  where
    first_none : (o d : Option Cond) → or_else o d ≡ None → o ≡ None
    first_none None d k = refl
    first_none (Some c) d k = absurd (let e : Some c ≡ None = k in cc)
passes_at_ends m chunk (Bisect a b) h = h
passes_at_ends m chunk (Contract u v) h = h

-- pairs of rising nodes
pairs-rise : (f : ℕ → Held) → ((n : ℕ) → (f n).node ≡ n) → (ns : List ℕ) → IsRising nat_lt ns → AllPairs (λ h k. h.node < k.node) (map f ns)
pairs-rise f same ns up = λ i j d l k. means _ _ (rising i j d l k)
  where
    means : (a b : ℕ) → nat_lt a b ≡ true → a < b
    means a b h = grind (arith, nat_tests)

    rises : (xs : List ℕ) → IsRising nat_lt xs → IsRising (λ h k. nat_lt h.node k.node) (map f xs)
    rises [] r = rising-nil (λ h k. nat_lt h.node k.node)
    rises (x ∷ xs) r = rising-cons (λ h k. nat_lt h.node k.node) (f x) (map f xs) (λ z h. let w = map-means f xs z h in rw (same x, ap (λ y. y.node) (sym w.2) ∙ same w.0) (rising-head nat_lt x w.0 xs r w.1)) (rises xs (rising-tail nat_lt x xs r))

    rising : IsRising (λ h k. nat_lt h.node k.node) (map f ns)
    rising = rises ns up

-- so does a patch
pub patch_rises : (lent : ℕ → Option Star) (new : ℕ) (op : Op) → AllPairs (λ h k. h.node < k.node) (patch_of lent new op)
patch_rises lent new op = pairs-rise (λ n. record { node = n; star = patched lent new op n }) (λ n. refl) (changed_by lent new op) (risen-rise (cavity_seen lent op ++ made_by new op))

held_from : (hs : List Held) (h : Held) (n : ℕ) → Contains hs h → h.node ≡ n → is_held hs n ≡ true
held_from hs h n i e = subst (λ k. is_held hs k ≡ true) e (held_node hs h i)

pub patch_is_whole : (m : Undivided) (lent : ℕ → Option Star) (chunk ticket : ℕ) (op : Op) → CanApply m record { ticket = ticket; chunk = chunk; op = op } → AreEndsShown lent m op → ((n : ℕ) → Contains (cavity_of m chunk op) n → IsShown lent m n) → IsPatch m record { ticket = ticket; chunk = chunk; op = op } (patch_of lent (m.first_new + ticket) op)
patch_is_whole m lent chunk ticket op c s held =
    record {
      rises = pairs-rise pair (λ n. refl) names (risen-rise (cavity_seen lent op ++ made_by new op));
      agrees = agrees;
      whole = λ n h. at n (risen-has (cavity_seen lent op ++ made_by new op) n (Contains-append_left (cavity_seen lent op) (made_by new op) n (subst (λ l. Contains l n) (sym same) h)));
      made = λ n h. at n (risen-has (cavity_seen lent op ++ made_by new op) n (Contains-append_right (cavity_seen lent op) (made_by new op) n h));
      only = λ h i. (let r = map-means pair names h i in subst (λ k. Contains (cavity_of m chunk op) k ⊎ Contains (made_by new op) k) (ap (λ k. k.node) r.2) (which r.0 r.1));
    }
  where
    new : ℕ
    new = m.first_new + ticket

    names : List ℕ
    names = changed_by lent new op

    pair : ℕ → Held
    pair n = record { node = n; star = patched lent new op n }

    same : cavity_seen lent op ≡ cavity_of m chunk op
    same = cavity_is_seen m lent chunk op c.conforming s (passes_at_ends m chunk op c.passes)

    at : (n : ℕ) → Contains names n → is_held (map pair names) n ≡ true
    at n h = held_from (map pair names) (pair n) n (map-in pair names n h) refl

    which : (n : ℕ) → Contains names n → Contains (cavity_of m chunk op) n ⊎ Contains (made_by new op) n
    which n h = elim (Contains-append_cases (cavity_seen lent op) (made_by new op) n (risen-means (cavity_seen lent op ++ made_by new op) n h)) [ inl i ↦ inl (subst (λ l. Contains l n) same i) | inr i ↦ inr i ]

    agrees : AgreesOn (map pair names) (applied m record { ticket = ticket; chunk = chunk; op = op })
    agrees h i =
        let r = map-means pair names h i in
        subst (λ k. k.star ≡ star_of (applied m record { ticket = ticket; chunk = chunk; op = op }) k.node) r.2
        (elim (which r.0 r.1) [ inl j ↦ patched_is_star m lent chunk ticket op c s r.0 (held r.0 j) | inr j ↦ patched_is_new_star m lent chunk ticket op c s r.0 j ])

-- the copies of a node outside stay, and those of a node that is shown are by its patched star
pub copy_outside : (m : Undivided) (chunk ticket : ℕ) (op : Op) → CanApply m record { ticket = ticket; chunk = chunk; op = op } → (c n : ℕ) → (n ≡ m.first_new + ticket → ⊥) → (Contains (cavity_of m chunk op) n → ⊥) → copy_of (applied m record { ticket = ticket; chunk = chunk; op = op }) c n ≡ copy_of m c n
copy_outside m chunk ticket op can c n d out = ap (due_copy c) (outside_stays m chunk ticket op can n d out)

pub copy_patched : (m : Undivided) (lent : ℕ → Option Star) (chunk ticket : ℕ) (op : Op) → CanApply m record { ticket = ticket; chunk = chunk; op = op } → AreEndsShown lent m op → (c n : ℕ) → IsShown lent m n → due_copy c (patched lent (m.first_new + ticket) op n) ≡ copy_of (applied m record { ticket = ticket; chunk = chunk; op = op }) c n
copy_patched m lent chunk ticket op can s c n h = ap (due_copy c) (patched_is_star m lent chunk ticket op can s n h)
