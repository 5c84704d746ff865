-- A patch of a list is replaced: its members after, and that no key stands twice after (as no directed edge in two triangles).
-- Assumes of `Has`, which says that an element has a key, nothing at all.
use Rattle.std.proofs.Common.{◌≡◌, List, refl, sym, ◌∙◌, subst, Bool, true, false, ◌⊎◌, inl, inr}
use Rattle.std.specs.Prelude.{Contains, filter, not}
use Rattle.pf_model.specs.Rising.{insert_all_by}
use Rattle.pf_model.proofs.Members.{filter-in, filter-out, insert_all_by-new, insert_all_by-old, insert_all_by-cases}

-- no key stands in two elements
abbrev pub HasOnce : {X K : Type 0} → (X → K → Type 0) → List X → Type 0
HasOnce {X} {K} Has xs = (s t : X) (k : K) → Contains xs s → Contains xs t → Has s k → Has t k → s ≡ t

false_from_not : (b : Bool) → not b ≡ true → b ≡ false
false_from_not true e = let k : false ≡ true = e in cc
false_from_not false e = refl

not_from_false : (b : Bool) → b ≡ false → not b ≡ true
not_from_false true e = let k : true ≡ false = e in cc
not_from_false false e = refl

-- what stands after is new, or stood before and does not go
pub replaced-cases : {X : Type 0} (lt : X → X → Bool) (removed : X → Bool) (added xs : List X) (z : X) → Contains (insert_all_by lt added (filter (λ t. not (removed t)) xs)) z → Contains added z ⊎ (Contains xs z × (removed z ≡ false))
replaced-cases {X} lt removed added xs z h = go (insert_all_by-cases lt z added (filter (λ t. not (removed t)) xs) h)
  where
    go : Contains added z ⊎ Contains (filter (λ t. not (removed t)) xs) z → Contains added z ⊎ (Contains xs z × (removed z ≡ false))
    go (inl n) = inl n
    go (inr f) = let o : Contains xs z × (not (removed z) ≡ true) = filter-out (λ t. not (removed t)) z xs f in inr (o.0, false_from_not (removed z) o.1)

pub replaced-new : {X : Type 0} (lt : X → X → Bool) (removed : X → Bool) (added xs : List X) (z : X) → Contains added z → Contains (insert_all_by lt added (filter (λ t. not (removed t)) xs)) z
replaced-new lt removed added xs z h = insert_all_by-new lt z added (filter (λ t. not (removed t)) xs) h

pub replaced-kept : {X : Type 0} (lt : X → X → Bool) (removed : X → Bool) (added xs : List X) (z : X) → Contains xs z → removed z ≡ false → Contains (insert_all_by lt added (filter (λ t. not (removed t)) xs)) z
replaced-kept lt removed added xs z h e = insert_all_by-old lt z added (filter (λ t. not (removed t)) xs) (filter-in (λ t. not (removed t)) z xs h (not_from_false (removed z) e))

-- where each old element that shares a key with a new one goes, no key stands twice after
pub replaced-once : {X K : Type 0} (Has : X → K → Type 0) (lt : X → X → Bool) (removed : X → Bool) (added xs : List X) → HasOnce Has xs → HasOnce Has added → ((s t : X) (k : K) → Contains added s → Contains xs t → Has s k → Has t k → removed t ≡ true) → HasOnce Has (insert_all_by lt added (filter (λ t. not (removed t)) xs))
replaced-once {X} {K} Has lt removed added xs old new meets s t k hs ht ks kt = go (replaced-cases lt removed added xs s hs) (replaced-cases lt removed added xs t ht)
  where
    go : Contains added s ⊎ (Contains xs s × (removed s ≡ false)) → Contains added t ⊎ (Contains xs t × (removed t ≡ false)) → s ≡ t
    go (inl a) (inl b) = new s t k a b ks kt
    go (inl a) (inr b) = absurd (let e : true ≡ false = sym (meets s t k a b.0 ks kt) ∙ b.1 in cc)
    go (inr a) (inl b) = absurd (let e : true ≡ false = sym (meets t s k b a.0 kt ks) ∙ a.1 in cc)
    go (inr a) (inr b) = old s t k a.0 b.0 ks kt

-- the same where each key of a new element was one of an element that goes, or stood in none
pub replaced-once_by_keys : {X K : Type 0} (Has : X → K → Type 0) (lt : X → X → Bool) (removed : X → Bool) (added xs : List X) → HasOnce Has xs → HasOnce Has added → ((s : X) (k : K) → Contains added s → Has s k → ((t : X) × Contains xs t × Has t k × (removed t ≡ true)) ⊎ ((t : X) → Contains xs t → Has t k → ⊥)) → HasOnce Has (insert_all_by lt added (filter (λ t. not (removed t)) xs))
replaced-once_by_keys {X} {K} Has lt removed added xs old new from = replaced-once Has lt removed added xs old new meets
  where
    meets : (s t : X) (k : K) → Contains added s → Contains xs t → Has s k → Has t k → removed t ≡ true
    meets s t k a b ks kt = elim (from s k a ks) [ inl f ↦ subst (λ w. removed w ≡ true) (old f.0 t k f.1 b f.2 kt) f.3 | inr n ↦ absurd (n t b kt) ]
