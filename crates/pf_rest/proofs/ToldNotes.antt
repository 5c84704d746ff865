-- What is noted by the edges' places of the contractions onto their ends.
use Rattle.std.proofs.Common.{◌≡◌, ◌≢◌, ℕ, ◌<◌, List, [], length, get_or, refl, sym, ◌∙◌, ap, subst, Bool, true, false, ◌==◌, arith}
use Rattle.std.specs.Prelude.{◌≤◌, ◌∷◌, All, IfSome, Option, Some, None, cond, min, max, slice_get, slice_index_or}
use Rattle.std.proofs.Math.ListN.{set}
use Rattle.std.proofs.lemmas.List.{get_or-set_same, get_or-set_other, length-set}
use Rattle.std.proofs.lemmas.Option.{slice_get_within, slice_get_read, slice_get-get_or, get_or_from_slice_get}
use Rattle.pf_model.specs.declared.Op.{Op}
use Rattle.pf_model.specs.Mesh.{Undivided}
use Rattle.pf_model.specs.declared.Op.TheVariants.{Contract}
use Rattle.pf_model.specs.Lengths.{Edge, edge_of}
use Rattle.pf_model.specs.Conditions.{first_failing}
use Rattle.pf_model.specs.Wishes.{acting_chunk, is_short, short_lines}
use Rattle.pf_edge_list.specs.declared.edges.Sided.{Sided}
use Rattle.pf_rest.specs.declared.told.Told.{Told}
use Rattle.pf_edge_list.specs.Edges.{sided_edge}
use Rattle.pf_rest.specs.Rest.{told_of, onto_hi, onto_lo, AreTold}
use Rattle.pf_model.specs.declared.RestLine.TheVariants as line

some_same : {X : Type 0} {x y : X} → Some x ≡ Some y → x ≡ y
some_same h = cc

none_some : {X : Type 0} {x : X} → None ≡ Some x → ⊥
none_some h = cc

-- where nothing is noted yet
pub told-open : (m : Undivided) (edges : List Sided) (op : Edge → Op) (told : List (Option Told)) → All (λ t. t ≡ None) told → AreTold m edges op told
told-open m edges op told none = record {
  each = λ i e t h k. absurd (none_some (sym (none i None (slice_get_within told i (Some t) k)) ∙ get_or_from_slice_get told i (Some t) None k));
}

-- what is noted at a place
pub told-read : (told : List (Option Told)) (i : ℕ) → i < length told
    → IfSome (slice_index_or told i None) (λ t. (m : Undivided) (edges : List Sided) (op : Edge → Op) (e : Sided) → AreTold m edges op told → slice_get edges i ≡ Some e → t.cond ≡ told_of m op (sided_edge e))
told-read told i within = go (slice_index_or told i None) refl
  where
    go : (o : Option Told) → slice_index_or told i None ≡ o
        → IfSome o (λ t. (m : Undivided) (edges : List Sided) (op : Edge → Op) (e : Sided) → AreTold m edges op told → slice_get edges i ≡ Some e → t.cond ≡ told_of m op (sided_edge e))
    go None h = tt
    go (Some t) h = λ m edges op e are at. are.each i e t at (slice_get-get_or told i None within ∙ ap Some h)

-- after a note more
pub told-more : (m : Undivided) (edges : List Sided) (op : Edge → Op) (old : List (Option Told)) (place : ℕ) (t : Told) (f : Sided) → place < length old → AreTold m edges op old
    → slice_get edges place ≡ Some f → t.cond ≡ told_of m op (sided_edge f) → AreTold m edges op (set old place (Some t))
told-more m edges op old place t f within are stands is = record { each = each }
  where
    each : (i : ℕ) (e : Sided) (x : Told) → slice_get edges i ≡ Some e → slice_get (set old place (Some t)) i ≡ Some (Some x) → x.cond ≡ told_of m op (sided_edge e)
    each i e x h k = go (i == place) refl
      where
        within' : i < length old
        within' = let w = slice_get_within (set old place (Some t)) i (Some x) k in omega (arith, w, length-set old place (Some t))

        read : get_or (set old place (Some t)) i None ≡ Some x
        read = get_or_from_slice_get (set old place (Some t)) i (Some x) None k

        go : (b : Bool) → (i == place) ≡ b → x.cond ≡ told_of m op (sided_edge e)
        go true c =
            let at : i ≡ place = grind arith in
            let here : f ≡ e = some_same (sym stands ∙ subst (λ j. slice_get edges j ≡ Some e) at h) in
            let same : t ≡ x = some_same (sym (get_or-set_same old place (Some t) None within) ∙ subst (λ j. get_or (set old place (Some t)) j None ≡ Some x) at read) in
            ap (λ y. y.cond) (sym same) ∙ (is ∙ ap (λ y. told_of m op (sided_edge y)) here)
        go false c =
            let apart : i ≢ place = λ s. absurd (grind arith) in
            let before : slice_get old i ≡ Some (Some x) = slice_get_read old (length old) i (Some x) refl within' (sym (get_or_from_slice_get (set old place (Some t)) i (Some x) (Some x) k) ∙ get_or-set_other old place i (Some t) (Some x) apart) in
            are.each i e x h before

-- the contraction of u onto v, by the ends of their edge
pub to-hi : (m : Undivided) (e : Edge) (u v : ℕ) → e ≡ edge_of u v → u ≤ v → first_failing m (acting_chunk m e) (Contract u v) ≡ told_of m onto_hi e
to-hi m e u v h l = λ i. first_failing m (acting_chunk m e) (Contract (lo i) (hi i))
  where
    lo : u ≡ e.lo
    lo = sym (ap (λ (x : Edge). x.lo) h ∙ first)
      where
        first : min u v ≡ u
        first = omega (arith, l)

    hi : v ≡ e.hi
    hi = sym (ap (λ (x : Edge). x.hi) h ∙ second)
      where
        second : max u v ≡ v
        second = omega (arith, l)

pub to-lo : (m : Undivided) (e : Edge) (u v : ℕ) → e ≡ edge_of u v → v < u → first_failing m (acting_chunk m e) (Contract u v) ≡ told_of m onto_lo e
to-lo m e u v h l = λ i. first_failing m (acting_chunk m e) (Contract (hi i) (lo i))
  where
    hi : u ≡ e.hi
    hi = sym (ap (λ (x : Edge). x.hi) h ∙ second)
      where
        second : max u v ≡ u
        second = omega (arith, l)

    lo : v ≡ e.lo
    lo = sym (ap (λ (x : Edge). x.lo) h ∙ first)
      where
        first : min u v ≡ v
        first = omega (arith, l)

-- an edge that isn't short has no line
pub no_short : (m : Undivided) (e : Edge) → is_short m e.lo e.hi ≡ false → short_lines m e ≡ []
no_short m e long = ap (λ b. cond b (line.Short e.lo e.hi (told_of m onto_hi e) (told_of m onto_lo e) ∷ []) []) long
