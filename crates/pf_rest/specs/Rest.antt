-- The steps of the rest list.
use Rattle.std.specs.Prelude.{◌≡◌, ℕ, ℤ, pos, ◌*ℤ◌, int_le, Bool, List, [], ◌∷◌, true, All, Option, Some, None, slice_get}
use Rattle.pf_geom.specs.declared.Point.{Point}
use Rattle.pf_geom.specs.Plane.{len2_of}
use Rattle.pf_model.specs.declared.Band.{Band}
use Rattle.pf_model.specs.declared.Op.{Op}
use Rattle.pf_model.specs.declared.Op.TheVariants.{Bisect, Contract}
use Rattle.pf_model.specs.declared.RestLine.{RestLine}
use Rattle.pf_model.specs.declared.Cond.{Cond}
use Rattle.pf_model.specs.Mesh.{Undivided}
use Rattle.pf_model.specs.Lengths.{Edge}
use Rattle.pf_model.specs.Conditions.{first_failing}
use Rattle.pf_model.specs.Wishes.{acting_chunk, next_longer, terminal_of}
use Rattle.pf_edge_list.specs.declared.edges.Sided.{Sided}
use Rattle.pf_rest.specs.declared.known.End.{End}
use Rattle.pf_rest.specs.declared.told.Notes.{Notes}
use Rattle.pf_rest.specs.declared.told.Told.{Told}
use Rattle.pf_rules.specs.Lengths.{span_value}
use Rattle.pf_edge_list.specs.Edges.{sided_edge}

-- the line, where there is one, as a list
abbrev pub listed : Option RestLine → List RestLine
listed None = []
listed (Some line) = line ∷ []

-- the walk from the edge comes to an end
abbrev pub IsFinite : Undivided → Edge → Type 0
IsFinite m e = next_longer m (terminal_of m e) ≡ None

-- this is the edge, with the first condition that its bisection fails
pub record IsEnd (m : Undivided) (t : Edge) (end : End) : Type 0 where
  pub edge : span_value end.edge ≡ t
  pub cond : end.cond ≡ first_failing m (acting_chunk m t) (Bisect t.lo t.hi)

-- what is noted at a place is the end of the walk from the edge there
pub record AreAtEnds (m : Undivided) (edges : List Sided) (ends : List (Option End)) : Type 0 where
  pub each : (i : ℕ) (e : Sided) (end : End) → slice_get edges i ≡ Some e → slice_get ends i ≡ Some (Some end) → IsEnd m (terminal_of m (sided_edge e)) end

-- the walks from the edges at these places end there
abbrev pub LeadTo : Undivided → List Sided → List ℕ → Edge → Type 0
LeadTo m edges way t = All (λ i. (e : Sided) → slice_get edges i ≡ Some e → terminal_of m (sided_edge e) ≡ t) way

-- the edge's contraction onto its higher end
abbrev pub onto_hi : Edge → Op
onto_hi e = Contract e.lo e.hi

-- and onto its lower end
abbrev pub onto_lo : Edge → Op
onto_lo e = Contract e.hi e.lo

-- the first condition that an operation at the edge fails, asked by its acting chunk
abbrev pub told_of : Undivided → (Edge → Op) → Edge → Option Cond
told_of m op e = first_failing m (acting_chunk m e) (op e)

-- what is noted at a place is what the operation at the edge there fails
pub record AreTold (m : Undivided) (edges : List Sided) (op : Edge → Op) (told : List (Option Told)) : Type 0 where
  pub each : (i : ℕ) (e : Sided) (t : Told) → slice_get edges i ≡ Some e → slice_get told i ≡ Some (Some t) → t.cond ≡ told_of m op (sided_edge e)

-- each band allows this squared length
abbrev pub IsLimit : List Band → ℤ → Type 0
IsLimit bands limit = All (λ row. int_le limit row.max2 ≡ true) bands

-- four times the squared distance of two points is at most this
abbrev pub is_reached : Point → Point → ℤ → Bool
is_reached a b limit = int_le (pos 4 *ℤ len2_of a b) limit

-- so it is for the contractions onto both ends, and each band allows the limit
pub record AreNotes (m : Undivided) (edges : List Sided) (notes : Notes) : Type 0 where
  pub limit : IsLimit m.bands notes.limit
  pub hi : AreTold m edges onto_hi notes.onto_hi.items
  pub lo : AreTold m edges onto_lo notes.onto_lo.items
