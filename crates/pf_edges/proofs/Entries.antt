-- A table has three entries for each triangle that it shows.
use Rattle.std.proofs.Common.{◌≡◌, ℕ, ◌*◌, List, [], ◌∷◌, length, refl, sym, ◌∙◌, ap, Bool, true, false, is_some, inl, inr, cond, arith, Option, Some, None, subst, ◌==◌, ◌&&◌, ◌||◌}
use Rattle.std.specs.Prelude.{Contains}
use Rattle.std.specs.List.{IsDistinct, AllByRecursion, list_any}
use Rattle.std.specs.Set.{is_member}
use Rattle.std.proofs.lemmas.Bool.Decides.{nat_tests}
use Rattle.std.proofs.lemmas.Map.Keys.{IsDistinct-cons}
use Rattle.std.proofs.lemmas.Map.Made.{is_some-lookup, length-from_same_keys, length-le_from_is_member}
use Rattle.std.proofs.lemmas.List.{length-map}
use Rattle.indexmap.specs.IndexMap.{IsUnique, index_map_len, keys}
use Rattle.pf_model.specs.declared.Tri.{Tri}
use Rattle.pf_model.specs.declared.Side.{Side}
use Rattle.pf_model.specs.Mesh.{has_edge, apex_in, side_of}
use Rattle.pf_model.proofs.Members.{here, there}
use Rattle.pf_model.proofs.Kept.{side_of-found}
use Rattle.pf_edges.specs.declared.table.Edge.{Edge}
use Rattle.pf_model.specs.Exchange.{IsTurned, AreSound}
use Rattle.pf_edges.specs.Table.{Sides, edge_eq, side_at}
use Rattle.pf_model.proofs.Exchange.{bool_cases}
use Rattle.pf_edges.proofs.TableSteps.{edge_one, edge_two, edge_three}
use Rattle.pf_edges.proofs.Sides.{edge_laws, edge_exact, is_some-side_at}

-- the directed edges of the triangles, as keys of the table
abbrev keys_from : List Tri → List Edge
keys_from [] = []
keys_from (t ∷ ts) = record { from = t.a; to = t.b } ∷ record { from = t.b; to = t.c } ∷ record { from = t.c; to = t.a } ∷ keys_from ts

keys-length : (ts : List Tri) → length (keys_from ts) ≡ 3 * length ts
keys-length [] = refl
keys-length (t ∷ ts) = let ih = keys-length ts in omega (arith, ih)

key_of : (p q : ℕ) (t : Tri) (b : Bool) → (edge_eq record { from = p; to = q } record { from = t.a; to = t.b } || (edge_eq record { from = p; to = q } record { from = t.b; to = t.c } || (edge_eq record { from = p; to = q } record { from = t.c; to = t.a } || b))) ≡ (has_edge p q t || b)
key_of p q t b = grind (arith, nat_tests)

-- a directed edge is among the keys just where a triangle has it
keys-any : (ts : List Tri) (p q : ℕ) → is_member edge_eq (keys_from ts) record { from = p; to = q } ≡ list_any (has_edge p q) ts
keys-any [] p q = refl
keys-any (t ∷ ts) p q = key_of p q t (is_member edge_eq (keys_from ts) record { from = p; to = q }) ∙ ap (λ b. has_edge p q t || b) (keys-any ts p q)

side_of-any : (ts : List Tri) (p q : ℕ) → is_some (side_of ts p q) ≡ list_any (has_edge p q) ts
side_of-any [] p q = refl
side_of-any (t ∷ ts) p q = go (has_edge p q t) (side_of-any ts p q)
  where
    go : (b : Bool) → is_some (side_of ts p q) ≡ list_any (has_edge p q) ts → is_some (cond b (Some record { apex = apex_in p q t; owner = t.owner }) (side_of ts p q)) ≡ (b || list_any (has_edge p q) ts)
    go true ih = refl
    go false ih = ih

-- none of the triangles has the edge
keys-absent : (ts : List Tri) (e : Edge) → ((s : Tri) → Contains ts s → has_edge e.from e.to s ≡ false) → AllByRecursion (λ y. edge_eq e y ≡ false) (keys_from ts)
keys-absent [] e h = tt
keys-absent (t ∷ ts) e h =
    let bare = h t (here t ts) in
    (first e.from e.to t bare, (second e.from e.to t bare, (third e.from e.to t bare, keys-absent ts e (λ s k. h s (there s t ts k)))))
  where
    first : (p q : ℕ) (t : Tri) → has_edge p q t ≡ false → (p == t.a && q == t.b) ≡ false
    first p q t h = grind (arith, nat_tests)

    second : (p q : ℕ) (t : Tri) → has_edge p q t ≡ false → (p == t.b && q == t.c) ≡ false
    second p q t h = grind (arith, nat_tests)

    third : (p q : ℕ) (t : Tri) → has_edge p q t ≡ false → (p == t.c && q == t.a) ≡ false
    third p q t h = grind (arith, nat_tests)

sound-rest : (t : Tri) (ts : List Tri) → AreSound (t ∷ ts) → AreSound ts
sound-rest t ts s = record { turned = λ r h. s.turned r (there r t ts h); once = s.once.1; edges_once = λ x y p q h k. s.edges_once x y p q (there x t ts h) (there y t ts k) }

keys-distinct : (ts : List Tri) → AreSound ts → IsDistinct edge_eq (keys_from ts)
unfolding IsDistinct
keys-distinct [] s = tt
keys-distinct (t ∷ ts) s =
    IsDistinct-cons edge_eq ab (bc ∷ ca ∷ keys_from ts) (one t turned, (two t turned, rest ab (edge_one t)))
    (IsDistinct-cons edge_eq bc (ca ∷ keys_from ts) (three t turned, rest bc (edge_two t))
    (IsDistinct-cons edge_eq ca (keys_from ts) (rest ca (edge_three t)) (keys-distinct ts (sound-rest t ts s))))
  where
    ab : Edge
    ab = record { from = t.a; to = t.b }

    bc : Edge
    bc = record { from = t.b; to = t.c }

    ca : Edge
    ca = record { from = t.c; to = t.a }

    turned : IsTurned t
    turned = s.turned t (here t ts)

    one : (t : Tri) → IsTurned t → (t.a == t.b && t.b == t.c) ≡ false
    one t h = let l = h.least in grind (arith, nat_tests)

    two : (t : Tri) → IsTurned t → (t.a == t.c && t.b == t.a) ≡ false
    two t h = let l = h.least in grind (arith, nat_tests)

    three : (t : Tri) → IsTurned t → (t.b == t.c && t.c == t.a) ≡ false
    three t h = let l = h.least' in grind (arith, nat_tests)

    rest : (e : Edge) → has_edge e.from e.to t ≡ true → AllByRecursion (λ y. edge_eq e y ≡ false) (keys_from ts)
    rest e has = keys-absent ts e (λ r h. elim (bool_cases (has_edge e.from e.to r)) [ inl x ↦ absurd (s.once.0 r h (s.edges_once t r e.from e.to (here t ts) (there r t ts h) has x)) | inr x ↦ x ])

pub entries-counted : (sides : Sides) (ts : List Tri) → IsUnique edge_eq sides → ((p q : ℕ) → side_at sides p q ≡ side_of ts p q) → AreSound ts → index_map_len sides ≡ 3 * length ts
entries-counted sides ts unique shown sound =
    sym (length-map sides.entries (λ (e : Edge × Side). e.0)) ∙ (length-from_same_keys edge_laws (keys sides) (keys_from ts) unique (keys-distinct ts sound) same ∙ keys-length ts)
  where
    same : (e : Edge) → is_member edge_eq (keys sides) e ≡ is_member edge_eq (keys_from ts) e
    same e =
        sym (is_some-lookup (edge_eq e) sides.entries)
        ∙ (is_some-side_at sides e.from e.to
        ∙ (ap is_some (shown e.from e.to) ∙ (side_of-any ts e.from e.to ∙ sym (keys-any ts e.from e.to))))

-- where each side of the triangles is there, and there are no more, no other is there
pub no_others : (sides : Sides) (ts : List Tri) → IsUnique edge_eq sides → AreSound ts → index_map_len sides ≡ 3 * length ts → ((p q : ℕ) → is_some (side_of ts p q) ≡ true → is_some (side_at sides p q) ≡ true) → (p q : ℕ) → side_of ts p q ≡ None → side_at sides p q ≡ None
no_others sides ts unique sound len has p q none = go (side_at sides p q) refl
  where
    edge : Edge
    edge = record { from = p; to = q }

    member : (e : Edge) → is_member edge_eq (keys sides) e ≡ is_some (side_at sides e.from e.to)
    member e = sym (is_some-lookup (edge_eq e) sides.entries) ∙ is_some-side_at sides e.from e.to

    among : (e : Edge) (b : Bool) → is_some (side_at sides p q) ≡ true → edge_eq e edge ≡ b → (b || is_member edge_eq (keys_from ts) e) ≡ true → is_member edge_eq (keys sides) e ≡ true
    among e true there i k = member e ∙ subst (λ x. is_some (side_at sides x.from x.to) ≡ true) (sym (edge_exact e edge i)) there
    among e false there i k = member e ∙ has e.from e.to (side_of-any ts e.from e.to ∙ (sym (keys-any ts e.from e.to) ∙ k))

    bare : (s : Tri) → Contains ts s → has_edge p q s ≡ false
    bare s h = elim (bool_cases (has_edge p q s)) [ inl x ↦ absurd (let found = side_of-found ts sound.edges_once p q s h x in let z = sym none ∙ found in cc) | inr x ↦ x ]

    go : (o : Option Side) → side_at sides p q ≡ o → side_at sides p q ≡ None
    go None e = e
    go (Some s) e =
        absurd (let le = length-le_from_is_member edge_laws (edge ∷ keys_from ts) (keys sides) (IsDistinct-cons edge_eq edge (keys_from ts) (keys-absent ts edge bare) (keys-distinct ts sound)) (λ x h. among x (edge_eq x edge) (ap is_some e) refl h) in
        let all = keys-length ts in
        let keyed : length (keys sides) ≡ index_map_len sides = length-map sides.entries (λ (x : Edge × Side). x.0) in
        omega (arith, le, all, keyed, len))
