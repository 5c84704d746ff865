-- What is noted of the walks from the edges of a list, and the lines of the edges.
use Rattle.std.proofs.Common.{◌≡◌, ◌≢◌, ℕ, zero, suc, ◌+◌, ◌<◌, List, [], ◌∷◌, ◌++◌, append_assoc, length, drop, get_or, refl, sym, ◌∙◌, ap, subst, Bool, true, false, ◌==◌, arith}
use Rattle.std.specs.Prelude.{All, IfSome, cond, flat_map, map, Option, Some, None, slice_get, slice_index_or}
use Rattle.std.proofs.Math.ListN.{set}
use Rattle.std.proofs.lemmas.List.{drop_more, get_or-set_same, get_or-set_other, length-set}
use Rattle.std.proofs.lemmas.Option.{slice_get_within, slice_get_read, slice_get-get_or, get_or_from_slice_get}
use Rattle.pf_model.specs.declared.Op.TheVariants.{Bisect}
use Rattle.pf_model.specs.declared.RestLine.{RestLine}
use Rattle.pf_model.specs.Mesh.{Undivided}
use Rattle.pf_model.specs.Lengths.{Edge, is_long}
use Rattle.pf_model.specs.Wishes.{acting_chunk, long_lines, terminal_of}
use Rattle.pf_model.specs.Conditions.{first_failing}
use Rattle.pf_edge_list.specs.declared.edges.Sided.{Sided}
use Rattle.pf_edge_list.specs.declared.edges.Located.{Located}
use Rattle.pf_rest.specs.declared.known.End.{End}
use Rattle.pf_edge_list.specs.Edges.{sided_edge, IsSided, IsLocated}
use Rattle.pf_rest.specs.Rest.{IsEnd, AreAtEnds, LeadTo}
use Rattle.pf_edges.specs.declared.table.Node.{Node}
use Rattle.pf_rules.specs.EdgeSides.{AreEdgeSides}
use Rattle.pf_edges.specs.Table.{Shows, Sides}
use Rattle.pf_model.specs.declared.RestLine.TheVariants as line
use Rattle.pf_edge_list.proofs.EdgesLocated.{some_same, none_some}

-- the triangles that the mesh has at the edge
pub edge_sides-shown : (m : Undivided) (table : Sides) (nodes : List Node) (e : Sided) → Shows table nodes m → IsSided table e → AreEdgeSides m.tris e.span.lo e.span.hi e.edge_sides
edge_sides-shown m table nodes e s sided = record { on_left = sided.left ∙ s.triangles.sides e.span.lo e.span.hi; on_right = sided.right ∙ s.triangles.sides e.span.hi e.span.lo }

-- where nothing is noted yet
pub all-open : (m : Undivided) (edges : List Sided) (ends : List (Option End)) → All (λ end. end ≡ None) ends → AreAtEnds m edges ends
all-open m edges ends none = record {
  each = λ i e end h k. absurd (none_some (sym (none i None (slice_get_within ends i (Some end) k)) ∙ get_or_from_slice_get ends i (Some end) None k));
}

-- what is noted at the place of a spot
pub noted-read : (at : Located) (ends : List (Option End)) (i : ℕ) → at.place ≡ Some i → i < length ends
    → IfSome (slice_index_or ends i None) (λ end. (m : Undivided) (table : Sides) (edges : List Sided) (e : Edge) → IsLocated table edges e at → AreAtEnds m edges ends → IsEnd m (terminal_of m e) end)
noted-read at ends i p within = go (slice_index_or ends i None) refl
  where
    go : (o : Option End) → slice_index_or ends i None ≡ o
        → IfSome o (λ end. (m : Undivided) (table : Sides) (edges : List Sided) (e : Edge) → IsLocated table edges e at → AreAtEnds m edges ends → IsEnd m (terminal_of m e) end)
    go None h = tt
    go (Some end) h = λ m table edges e spot are.
        subst (λ f. IsEnd m (terminal_of m f) end) spot.edge (are.each i at.edge end (spot.placed i p) (slice_get-get_or ends i None within ∙ ap Some h))

-- a spot is where its edge is
pub located-self : (table : Sides) (edges : List Sided) (e : Edge) (at : Located) → IsLocated table edges e at → IsLocated table edges (sided_edge at.edge) at
located-self table edges e at spot = subst (λ f. IsLocated table edges f at) (sym spot.edge) spot

-- what is noted, after an end more
pub ends-noted : (m : Undivided) (edges : List Sided) (t : Edge) (old : List (Option End)) (place : ℕ) (end : End) → place < length old → AreAtEnds m edges old → LeadTo m edges (place ∷ []) t → IsEnd m t end → AreAtEnds m edges (set old place (Some end))
ends-noted m edges t old place end within are lead is = record { each = each }
  where
    each : (i : ℕ) (e : Sided) (x : End) → slice_get edges i ≡ Some e → slice_get (set old place (Some end)) i ≡ Some (Some x) → IsEnd m (terminal_of m (sided_edge e)) x
    each i e x h k = go (i == place) refl
      where
        within' : i < length old
        within' = let w = slice_get_within (set old place (Some end)) i (Some x) k in omega (arith, w, length-set old place (Some end))

        read : get_or (set old place (Some end)) i None ≡ Some x
        read = get_or_from_slice_get (set old place (Some end)) i (Some x) None k

        go : (b : Bool) → (i == place) ≡ b → IsEnd m (terminal_of m (sided_edge e)) x
        go true c =
            let at : i ≡ place = grind arith in
            let here : slice_get edges place ≡ Some e = subst (λ j. slice_get edges j ≡ Some e) at h in
            let same : end ≡ x = some_same (sym (get_or-set_same old place (Some end) None within) ∙ subst (λ j. get_or (set old place (Some end)) j None ≡ Some x) at read) in
            subst (λ y. IsEnd m (terminal_of m (sided_edge e)) y) same (subst (λ u. IsEnd m u end) (sym (lead 0 place (omega arith) e here)) is)
        go false c =
            let apart : i ≢ place = λ s. absurd (grind arith) in
            let before : slice_get old i ≡ Some (Some x) = slice_get_read old (length old) i (Some x) refl within' (sym (get_or_from_slice_get (set old place (Some end)) i (Some x) (Some x) k) ∙ get_or-set_other old place i (Some end) (Some x) apart) in
            are.each i e x h before

-- one of the places
pub lead-one : (m : Undivided) (edges : List Sided) (way : List ℕ) (t : Edge) (i d : ℕ) → LeadTo m edges way t → i < length way → LeadTo m edges (slice_index_or way i d ∷ []) t
lead-one m edges way t i d lead within zero d' l = lead i d within
lead-one m edges way t i d lead within (suc k) d' l = absurd (omega arith)

-- no places yet
pub lead-none : (m : Undivided) (edges : List Sided) (way : List ℕ) (t : Edge) → way ≡ [] → LeadTo m edges way t
lead-none m edges way t none = subst (λ w. LeadTo m edges w t) (sym none) (λ k d l. absurd (omega arith))

-- one edge's lines more
pub lines-on : (f : Edge → List RestLine) (edges : List Sided) (i : ℕ) (x : Sided) (old new all : List RestLine) → i < length edges → x ≡ slice_index_or edges i x → new ≡ old ++ f (sided_edge x)
    → old ++ flat_map f (map sided_edge (drop i edges)) ≡ all → new ++ flat_map f (map sided_edge (drop (i + 1) edges)) ≡ all
lines-on f edges i x old new all within is added before =
    let rest : List RestLine = flat_map f (map sided_edge (drop (i + 1) edges)) in
    let parts : drop i edges ≡ x ∷ drop (i + 1) edges = drop_more edges i x within ∙ ap (λ y. y ∷ drop (i + 1) edges) (sym is) in
    ap (λ l. l ++ rest) added ∙ append_assoc old (f (sided_edge x)) rest ∙ ap (λ l. old ++ flat_map f (map sided_edge l)) (sym parts) ∙ before

-- an edge that isn't long has no line
pub no_line : (m : Undivided) (e : Edge) → is_long m e.lo e.hi ≡ false → long_lines m e ≡ []
no_line m e short = let t = terminal_of m e in ap (λ b. cond b (line.Long e.lo e.hi t.lo t.hi (first_failing m (acting_chunk m t) (Bisect t.lo t.hi)) ∷ []) []) short
