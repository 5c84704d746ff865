-- The steps over the list of triangles that build goes through.
-- Assumes of each triangle of the list that it has three corners.
use Rattle.std.proofs.Common.{◌≡◌, ℕ, suc, ◌+◌, ◌*◌, ◌<◌, cond, List, [], ◌∷◌, ◌++◌, length, take, drop, get_or, map, refl, sym, ◌∙◌, ap, subst, arith, Option, Some, None}
use Rattle.std.specs.Prelude.{slice_index}
use Rattle.std.proofs.lemmas.List.{take_more, drop_more, map-append}
use Rattle.pf_geom.specs.declared.Point.{Point}
use Rattle.pf_model.specs.declared.Tri.{Tri}
use Rattle.pf_model.specs.declared.BuildErr.{BuildErr}
use Rattle.pf_model.specs.Clauses.{first_of}
use Rattle.pf_model.specs.Rising.{insert_by}
use Rattle.pf_model.specs.Mesh.{tri_lt, has_corner}
use Rattle.pf_model.specs.Build.{turned_left, build_clauses, first_fault}
use Rattle.pf_edges.specs.declared.table.Node.{Node}
use Rattle.pf_model.specs.Exchange.{SharesNoEdge}
use Rattle.pf_edges.specs.Table.{Sides, ShowsTriangles}
use Rattle.pf_apply.specs.BuildSteps.{earlier_from, AreAccepted}
use Rattle.pf_model.proofs.Exchange.{side_of-insert, tally-insert, length-tally}
use Rattle.pf_apply.proofs.BuildLaw.{IsAccepted, accepted}

pub three_of : (xs : List ℕ) → length xs ≡ 3 → xs ≡ slice_index xs 0 ∷ slice_index xs 1 ∷ slice_index xs 2 ∷ []
three_of [] e = absurd (omega arith)
three_of (a ∷ []) e = absurd (omega arith)
three_of (a ∷ b ∷ []) e = absurd (omega arith)
three_of (a ∷ b ∷ c ∷ []) e = refl
three_of (a ∷ b ∷ c ∷ d ∷ xs) e = absurd (omega arith)

earlier-append : (points : List Point) (earlier : List Tri) (ts us : List (List ℕ)) → earlier_from points earlier (ts ++ us) ≡ earlier_from points (earlier_from points earlier ts) us
earlier-append points earlier [] us = refl
earlier-append points earlier (t ∷ ts) us = earlier-append points (turned_left points t ∷ earlier) ts us

pub earlier-more : (points : List Point) (ts : List (List ℕ)) (k : ℕ) → k < length ts → earlier_from points [] (take (k + 1) ts) ≡ turned_left points (get_or ts k []) ∷ earlier_from points [] (take k ts)
earlier-more points ts k l = ap (earlier_from points []) (take_more ts k [] l) ∙ earlier-append points [] (take k ts) (get_or ts k [] ∷ [])

pub listed-more : (points : List Point) (ts : List (List ℕ)) (k : ℕ) → k < length ts → map (turned_left points) (take (k + 1) ts) ≡ map (turned_left points) (take k ts) ++ turned_left points (get_or ts k []) ∷ []
listed-more points ts k l = ap (map (turned_left points)) (take_more ts k [] l) ∙ map-append (turned_left points) (take k ts) (get_or ts k [] ∷ [])

-- a triangle in front, or put in its place
pub shows-cons : (sides : Sides) (nodes : List Node) (t : Tri) (ts : List Tri) → SharesNoEdge t ts → ShowsTriangles sides nodes (insert_by tri_lt t ts) → ShowsTriangles sides nodes (t ∷ ts)
shows-cons sides nodes t ts bare s =
    record {
      sides = λ p q. s.sides p q ∙ side_of-insert t ts p q bare;
      counts = λ n. s.counts n ∙ tally-insert (λ r. cond (has_corner n r) 1 0) t ts;
      all = s.all ∙ ap (λ n. 3 * n) (length-tally (insert_by tri_lt t ts) ∙ (tally-insert (λ r. 1) t ts ∙ sym (length-tally (t ∷ ts))));
    }

first_of-past : (cs : List (Option BuildErr)) (o : Option BuildErr) → first_of cs ≡ None → first_of (cs ++ o ∷ []) ≡ o
first_of-past [] None e = refl
first_of-past [] (Some x) e = refl
first_of-past (None ∷ cs) o e = first_of-past cs o e
first_of-past (Some x ∷ cs) o e = absurd (let k : Some x ≡ None = e in cc)

first_of-first : (cs : List (Option BuildErr)) (o : Option BuildErr) (x : BuildErr) → first_of cs ≡ Some x → first_of (cs ++ o ∷ []) ≡ Some x
first_of-first [] o x e = absurd (let k : None ≡ Some x = e in cc)
first_of-first (None ∷ cs) o x e = first_of-first cs o x e
first_of-first (Some y ∷ cs) o x e = e

-- the first fault, from the triangle at place k
fault-at : (points : List Point) (earlier : List Tri) (k : ℕ) (ts : List (List ℕ)) → k < length ts → first_fault points earlier k (drop k ts) ≡ first_of (build_clauses points earlier k (get_or ts k []) ++ first_fault points (turned_left points (get_or ts k []) ∷ earlier) (suc k) (drop (k + 1) ts) ∷ [])
fault-at points earlier k ts l = ap (first_fault points earlier k) (drop_more ts k [] l)

pub fault-here : (points : List Point) (earlier : List Tri) (k : ℕ) (ts : List (List ℕ)) (e : BuildErr) → k < length ts → first_of (build_clauses points earlier k (get_or ts k [])) ≡ Some e → first_fault points earlier k (drop k ts) ≡ Some e
fault-here points earlier k ts e l h = fault-at points earlier k ts l ∙ first_of-first (build_clauses points earlier k (get_or ts k [])) _ e h

pub fault-on : (points : List Point) (ts : List (List ℕ)) (k : ℕ) → k < length ts → first_of (build_clauses points (earlier_from points [] (take k ts)) k (get_or ts k [])) ≡ None → first_fault points (earlier_from points [] (take (k + 1) ts)) (k + 1) (drop (k + 1) ts) ≡ first_fault points (earlier_from points [] (take k ts)) k (drop k ts)
fault-on points ts k l h =
    let n : k + 1 ≡ suc k = omega arith in
    (λ i. first_fault points (earlier-more points ts k l i) (n i) (drop (k + 1) ts))
    ∙ sym (fault-at points (earlier_from points [] (take k ts)) k ts l ∙ first_of-past (build_clauses points (earlier_from points [] (take k ts)) k (get_or ts k [])) _ h)

pub accepted-at : (points : List Point) (earlier : List Tri) (k : ℕ) (t : List ℕ) → length t ≡ 3 → AreAccepted points earlier → first_of (build_clauses points earlier k t) ≡ None → IsAccepted points earlier (turned_left points t)
accepted-at points earlier k t three part h =
    let e = three_of t three in
    let P : List ℕ → Type 0 = λ l. first_of (build_clauses points earlier k l) ≡ None in
    let Q : List ℕ → Type 0 = λ l. IsAccepted points earlier (turned_left points l) in
    subst Q (sym e) (accepted points earlier k (slice_index t 0) (slice_index t 1) (slice_index t 2) part (subst P e h))
