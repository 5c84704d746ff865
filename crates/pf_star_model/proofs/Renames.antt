-- A patch that is made with a later name in the place of the new one, over all operations.
use Rattle.std.proofs.Common.{◌≡◌, ℕ, ◌+◌, ◌-◌, ◌≤◌, ◌<◌, List, [], ◌∷◌, ◌++◌, refl, sym, ◌∙◌, ap, subst, true, false, inl, inr, arith}
use Rattle.std.specs.Prelude.{Contains, Option, is_some, map}
use Rattle.std.specs.Option.{option_map}
use Rattle.std.proofs.lemmas.List.{map-append}
use Rattle.std.proofs.lemmas.List.Elements.{Contains-append_cases}
use Rattle.std.proofs.lemmas.Bool.{cases_eq}
use Rattle.pf_model.specs.declared.Op.{Op}
use Rattle.pf_model.specs.declared.Op.TheVariants.{Flip, Bisect, Contract}
use Rattle.pf_model.specs.Mesh.{Undivided}
use Rattle.pf_model.specs.Conforming.{IsLive}
use Rattle.pf_model.specs.Applied.{applied}
use Rattle.pf_model.specs.Stars.{Star, star_of}
use Rattle.pf_model.proofs.Members.{nowhere, here, there, cases}
use Rattle.pf_model.proofs.SitesLess.{point_of-without, point_of-gone}
use Rattle.pf_model.proofs.FlipKeeps.{flip_keeps}
use Rattle.pf_model.proofs.ContractKeeps.{contract_keeps}
use Rattle.pf_star_model.specs.Lent.{Held, IsShown}
use Rattle.pf_star_model.specs.Cavity.{cavity_of, cavity_seen}
use Rattle.pf_star_model.specs.Patched.{patched, patch_of, changed_by, made_by, risen, renamed, renamed_star, renamed_pair}
use Rattle.pf_star_model.specs.Laws.{AreEndsShown, CanApply}
use Rattle.pf_star_model.proofs.Names.{risen-means}
use Rattle.pf_star_model.proofs.Cavities.{cavity_is_seen}
use Rattle.pf_star_model.proofs.Needs.{cavity_live}
use Rattle.pf_star_model.proofs.Renaming.{IsKnown, renamed_old, renamed_later, risen-renamed, map-same}
use Rattle.pf_star_model.proofs.Renamed.{star_same, bisect_renamed_old, bisect_renamed_new}
use Rattle.pf_star_model.proofs.Operations.{passes_at_ends, patched_is_star, patched_is_new_star}

-- the star of a node of the cavity
old_star : (m : Undivided) (chunk t t' : ℕ) (op : Op) → CanApply m record { ticket = t; chunk = chunk; op = op } → t ≤ t' → (n : ℕ) → IsLive m n → option_map (renamed_star (m.first_new + t') (m.first_new + t)) (star_of (applied m record { ticket = t'; chunk = chunk; op = op }) n) ≡ star_of (applied m record { ticket = t; chunk = chunk; op = op }) n
old_star m chunk t t' (Flip a b) c le n l = star_same (applied m record { ticket = t; chunk = chunk; op = Flip a b }) (flip_keeps m chunk a b t c.conforming c.passes) (m.first_new + t') (m.first_new + t) (omega arith) c.fresh n
old_star m chunk t t' (Bisect a b) c le n l = bisect_renamed_old m c.conforming chunk a b t t' c.fresh c.passes le n l
old_star m chunk t t' (Contract u v) c le n l = star_same (applied m record { ticket = t; chunk = chunk; op = Contract u v }) (contract_keeps m chunk u v t c.conforming c.passes) (m.first_new + t') (m.first_new + t) (omega arith) below n
  where
    below : (k : ℕ) → IsLive (applied m record { ticket = t; chunk = chunk; op = Contract u v }) k → k < m.first_new + t
    below k h = elim (cases_eq k u) [
      | inl e ↦ absurd (let z : false ≡ true = sym (ap is_some (point_of-gone u m.sites)) ∙ subst (λ w. IsLive (applied m record { ticket = t; chunk = chunk; op = Contract u v }) w) e h in cc)
      | inr d ↦ c.fresh k (sym (ap is_some (point_of-without u k m.sites d)) ∙ h)
    ]

-- the star of the new node
new_star : (m : Undivided) (chunk t t' : ℕ) (op : Op) → CanApply m record { ticket = t; chunk = chunk; op = op } → t ≤ t' → (n : ℕ) → Contains (made_by (m.first_new + t') op) n → (n ≡ m.first_new + t') × (option_map (renamed_star (m.first_new + t') (m.first_new + t)) (star_of (applied m record { ticket = t'; chunk = chunk; op = op }) (m.first_new + t')) ≡ star_of (applied m record { ticket = t; chunk = chunk; op = op }) (m.first_new + t)) × Contains (made_by (m.first_new + t) op) (m.first_new + t)
new_star m chunk t t' (Flip a b) c le n h = absurd (nowhere n h)
new_star m chunk t t' (Bisect a b) c le n h = (elim (cases n (m.first_new + t') [] h) [ inl e ↦ e | inr k ↦ absurd (nowhere n k) ], bisect_renamed_new m c.conforming chunk a b t t' c.fresh c.passes le, here (m.first_new + t) [])
new_star m chunk t t' (Contract u v) c le n h = absurd (nowhere n h)

map-of_map : {X Y Z : Type 0} (f : Y → Z) (g : X → Y) (xs : List X) → map f (map g xs) ≡ map (λ x. f (g x)) xs
map-of_map f g [] = refl
map-of_map f g (x ∷ xs) = ap (λ l. f (g x) ∷ l) (map-of_map f g xs)

map-agree : {X Y : Type 0} (f g : X → Y) (xs : List X) → ((x : X) → Contains xs x → f x ≡ g x) → map f xs ≡ map g xs
map-agree f g [] h = refl
map-agree f g (x ∷ xs) h = ap (λ y. y ∷ map f xs) (h x (here x xs)) ∙ ap (λ l. g x ∷ l) (map-agree f g xs (λ z i. h z (there z x xs i)))

by_tickets : (m : Undivided) (lent : ℕ → Option Star) (chunk t t' : ℕ) (op : Op) → CanApply m record { ticket = t; chunk = chunk; op = op } → t ≤ t' → AreEndsShown lent m op → ((n : ℕ) → Contains (cavity_of m chunk op) n → IsShown lent m n) → map (renamed_pair (m.first_new + t') (m.first_new + t)) (patch_of lent (m.first_new + t') op) ≡ patch_of lent (m.first_new + t) op
by_tickets m lent chunk t t' op c le s held =
    map-of_map (renamed_pair later earlier) (pair later) names
    ∙ (map-agree (λ n. renamed_pair later earlier (pair later n)) (λ n. pair earlier (renamed later earlier n)) names each
    ∙ (sym (map-of_map (pair earlier) (renamed later earlier) names)
    ∙ ap (map (pair earlier)) (risen-renamed later earlier order (cavity_seen lent op ++ made_by later op) known ∙ ap risen (map-append (renamed later earlier) (cavity_seen lent op) (made_by later op) ∙ (ap (λ l. l ++ map (renamed later earlier) (made_by later op)) (map-same (renamed later earlier) (cavity_seen lent op) (λ n h. renamed_old later earlier order n (old n h))) ∙ ap (λ l. cavity_seen lent op ++ l) (made_renamed op))))))
  where
    earlier : ℕ
    earlier = m.first_new + t

    later : ℕ
    later = m.first_new + t'

    order : earlier ≤ later
    order = let l = le in omega arith

    c' : CanApply m record { ticket = t'; chunk = chunk; op = op }
    c' = record { conforming = c.conforming; fresh = λ k l. (let h = c.fresh k l in let o = le in omega arith); passes = c.passes }

    names : List ℕ
    names = changed_by lent later op

    pair : ℕ → ℕ → Held
    pair k n = record { node = n; star = patched lent k op n }

    same : cavity_seen lent op ≡ cavity_of m chunk op
    same = cavity_is_seen m lent chunk op c.conforming s (passes_at_ends m chunk op c.passes)

    live : (n : ℕ) → Contains (cavity_seen lent op) n → IsLive m n
    live n h = cavity_live m c.conforming chunk op (passes_at_ends m chunk op c.passes) n (subst (λ l. Contains l n) same h)

    old : (n : ℕ) → Contains (cavity_seen lent op) n → n < earlier
    old n h = c.fresh n (live n h)

    known : (n : ℕ) → Contains (cavity_seen lent op ++ made_by later op) n → IsKnown later earlier order n
    known n h = elim (Contains-append_cases (cavity_seen lent op) (made_by later op) n h) [ inl i ↦ inl (old n i) | inr i ↦ inr (new_star m chunk t t' op c le n i).0 ]

    made_renamed : (o : Op) → map (renamed later earlier) (made_by later o) ≡ made_by earlier o
    made_renamed (Flip a b) = refl
    made_renamed (Bisect a b) = ap (λ k. k ∷ []) (renamed_later later earlier order)
    made_renamed (Contract u v) = refl

    pair_is : ℕ → Option Star → Held
    pair_is n o = record { node = n; star = o }

    each : (n : ℕ) → Contains names n → renamed_pair later earlier (pair later n) ≡ pair earlier (renamed later earlier n)
    each n h = elim (Contains-append_cases (cavity_seen lent op) (made_by later op) n (risen-means (cavity_seen lent op ++ made_by later op) n h)) [ inl i ↦ of_old i | inr i ↦ of_new i ]
      where
        of_old : Contains (cavity_seen lent op) n → renamed_pair later earlier (pair later n) ≡ pair earlier (renamed later earlier n)
        of_old i =
            let hn = held n (subst (λ l. Contains l n) same i) in
            let a = ap (option_map (renamed_star later earlier)) (patched_is_star m lent chunk t' op c' s n hn) in
            let b = old_star m chunk t t' op c le n (live n i) in
            let d = patched_is_star m lent chunk t op c s n hn in
            let e = renamed_old later earlier order n (old n i) in
            ap (λ o. pair_is (renamed later earlier n) o) (a ∙ (b ∙ sym d)) ∙ (ap (λ k. pair_is k (patched lent earlier op n)) e ∙ sym (ap (pair earlier) e))

        of_new : Contains (made_by later op) n → renamed_pair later earlier (pair later n) ≡ pair earlier (renamed later earlier n)
        of_new i =
            let r = new_star m chunk t t' op c le n i in
            let a = ap (option_map (renamed_star later earlier)) (patched_is_new_star m lent chunk t' op c' s n i) in
            let a' = ap (λ k. option_map (renamed_star later earlier) (star_of (applied m record { ticket = t'; chunk = chunk; op = op }) k)) r.0 in
            let d = patched_is_new_star m lent chunk t op c s earlier r.2 in
            let e : renamed later earlier n ≡ earlier = ap (renamed later earlier) r.0 ∙ renamed_later later earlier order in
            ap (λ o. pair_is (renamed later earlier n) o) (a ∙ (a' ∙ (r.1 ∙ sym d))) ∙ (ap (λ k. pair_is k (patched lent earlier op earlier)) e ∙ sym (ap (pair earlier) e))

pub patch_is_renamed : (m : Undivided) (lent : ℕ → Option Star) (chunk ticket : ℕ) (op : Op) (later : ℕ) → CanApply m record { ticket = ticket; chunk = chunk; op = op } → AreEndsShown lent m op → ((n : ℕ) → Contains (cavity_of m chunk op) n → IsShown lent m n) → m.first_new + ticket ≤ later → map (renamed_pair later (m.first_new + ticket)) (patch_of lent later op) ≡ patch_of lent (m.first_new + ticket) op
patch_is_renamed m lent chunk ticket op later c s held least =
    subst (λ k. map (renamed_pair k (m.first_new + ticket)) (patch_of lent k op) ≡ patch_of lent (m.first_new + ticket) op) whole (by_tickets m lent chunk ticket (later - m.first_new) op c (omega arith) s held)
  where
    whole : m.first_new + (later - m.first_new) ≡ later
    whole = omega arith
