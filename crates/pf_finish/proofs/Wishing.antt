-- Operations on one edge: what makes them answers, and what it means that they fail.
use Rattle.std.proofs.Common.{◌≡◌, ◌≢◌, ℕ, ◌<◌, List, [], ◌∷◌, refl, sym, ◌∙◌, ap, subst, Bool, true, false, arith}
use Rattle.std.specs.Prelude.{cond, ◌==◌, Option, Some, None, IfSome, is_none, not, Result, Ok, Err, OnOk, is_err}
use Rattle.std.specs.List.{list_any}
use Rattle.std.proofs.Props.{props}
use Rattle.std.proofs.Math.Logic.{∥∥₁_elim}
use Rattle.std.proofs.lemmas.Bool.Decides.{nat_tests}
use Rattle.pf_model.specs.declared.Band.{Band}
use Rattle.pf_model.specs.declared.Op.{Op}
use Rattle.pf_model.specs.declared.Op.TheVariants.{Flip, Bisect, Contract}
use Rattle.pf_model.specs.declared.Entry.{Entry}
use Rattle.pf_model.specs.Ends.{normal_of}
use Rattle.pf_model.specs.Mesh.{Undivided, is_edge}
use Rattle.pf_model.specs.Lengths.{Edge, edge_of}
use Rattle.pf_model.specs.Sums.{edges_of}
use Rattle.pf_model.specs.Conforming.{IsConforming}
use Rattle.pf_model.specs.Conditions.{first_failing}
use Rattle.pf_model.specs.Stars.{Star, star_of, is_neighbour}
use Rattle.pf_model.specs.Wishes.{acting_chunk, terminal_of}
use Rattle.pf_star_model.specs.Lent.{Held, star_held}
use Rattle.pf_core_model.specs.Core.{Opening}
use Rattle.pf_core_model.proofs.Replays.{replayed_chunks}
use Rattle.pf_holder.specs.Facts.{won_pair, history_in, mesh_alone, KnowsAll}
use Rattle.pf_finish.specs.declared.edges.EdgeSeen.{EdgeSeen}
use Rattle.pf_finish.specs.Passing.{IsAnswer}
use Rattle.pf_finish.specs.Seen.{IsSeenIn, IsSeenEdge, LooksAt, IsLongSettled, IsShortSettled, IsFlipSettled, IsSettled, IsSettledEdge}
use Rattle.pf_finish.specs.Wished.{is_wished, HasWishes}
use Rattle.pf_finish.specs.Done.{IsWorkedOff}
use Rattle.pf_finish.specs.declared.tries.Answered.{Answered}
use Rattle.pf_finish.proofs.Listed.{IsSorted, is_same, edge-listed, acting-below, end-edge}
use Rattle.pf_finish.proofs.Lines.{long-answer, short-answer, short-answer_back, flip-answer}
use Rattle.pf_finish.proofs.Sights.{AreLaws, star_sight, won_star}

-- the mesh of the same holder, with the same entries, is the same
pub mesh_same : (o o1 : Opening) (es es1 : List Entry) → o1 ≡ o → es1 ≡ es → mesh_alone o1 es1 ≡ mesh_alone o es
mesh_same o o1 es es1 e f = λ i. mesh_alone (e i) (f i)

pub knows_from : (o o1 : Opening) (ps : List Held) (rich rich1 : ℕ) (es es1 : List Entry) → o1 ≡ o → rich1 ≡ rich → es1 ≡ es → ∥ KnowsAll o1 ps rich1 es1 ∥₁ → ∥ KnowsAll o ps rich es ∥₁
knows_from o o1 ps rich rich1 es es1 e r f k = subst (λ (x : Opening). ∥ KnowsAll x ps rich es ∥₁) e (subst (λ (x : ℕ). ∥ KnowsAll o1 ps x es ∥₁) r (subst (λ (x : List Entry). ∥ KnowsAll o1 ps rich1 x ∥₁) f k))

pub answered_from : (o o1 : Opening) (rich rich1 : ℕ) (es es1 : List Entry) (left : ℕ) (after : List Entry) (x : Option Answered) → o1 ≡ o → rich1 ≡ rich → es1 ≡ es → IfSome x (λ x. IsWorkedOff o1 rich1 es1 left after x) → IfSome x (λ x. IsWorkedOff o rich es left after x)
answered_from o o1 rich rich1 es es1 left after None e r f h = tt
answered_from o o1 rich rich1 es es1 left after (Some x) e r f h = subst (λ (y : Opening). IsWorkedOff y rich es left after x) e (subst (λ (y : ℕ). IsWorkedOff o1 y es left after x) r (subst (λ (y : List Entry). IsWorkedOff o1 rich1 y left after x) f h))

pub listed_alone : (o : Opening) (ps : List Held) (rich : ℕ) (es : List Entry) (e : Edge) → ∥ KnowsAll o ps rich es ∥₁ → IsSorted e → is_edge (mesh_alone o es).tris e.lo e.hi ≡ true → list_any (is_same e) (edges_of (mesh_alone o es)) ≡ true
listed_alone o ps rich es e k l h = ∥∥₁_elim k (hlevel props) (λ (z : KnowsAll o ps rich es). edge-listed (mesh_alone o es) z.seen.conforming e l h)

-- the acting chunk of an edge is a chunk
pub near_alone : (o o1 : Opening) (ps : List Held) (rich : ℕ) (es : List Entry) (e : Edge) (chunk : ℕ) → o1 ≡ o → ∥ KnowsAll o ps rich es ∥₁ → is_edge (mesh_alone o es).tris e.lo e.hi ≡ true → chunk ≡ acting_chunk (mesh_alone o es) e → chunk < o1.mesh.chunks
near_alone o o1 ps rich es e chunk q k h c =
    subst (λ (x : Opening). chunk < x.mesh.chunks) (sym q)
    (subst (λ (x : ℕ). x < o.mesh.chunks) (sym c)
    (subst (λ (x : ℕ). acting_chunk (mesh_alone o es) e < x) (replayed_chunks o.mesh (history_in es))
    (∥∥₁_elim k (hlevel props) (λ (z : KnowsAll o ps rich es). acting-below (mesh_alone o es) z.seen.conforming e h))))

-- a bisection where the walk of a long edge ends
pub record IsEnd (m : Undivided) (e t : Edge) (chunk : ℕ) : Type 0 where
  pub sorted : IsSorted t
  pub end : t ≡ terminal_of m e
  pub chunk_is : chunk ≡ acting_chunk m t

pub long_wish : (o : Opening) (ps : List Held) (rich : ℕ) (es : List Entry) (m1 : Undivided) (e t : Edge) (look : EdgeSeen) (chunk : ℕ) → m1 ≡ mesh_alone o es → ∥ KnowsAll o ps rich es ∥₁ → IsSorted e → IsSeenEdge (mesh_alone o es) e look → look.long ≡ true → IsEnd (mesh_alone o es) e t chunk
    → first_failing m1 chunk (Bisect t.lo t.hi) ≡ None → IsAnswer m1 chunk (normal_of (Bisect t.lo t.hi))
long_wish o ps rich es m1 e t look chunk q k l seen long end p =
    subst (λ (x : Undivided). IsAnswer x chunk (normal_of (Bisect t.lo t.hi))) (sym q)
    (subst (λ (x : ℕ). IsAnswer (mesh_alone o es) x (normal_of (Bisect t.lo t.hi))) (sym end.chunk_is)
    (long-answer (mesh_alone o es) e t (listed_alone o ps rich es e k l seen.edge) end.end end.sorted (sym seen.long ∙ long)
    (subst (λ (x : ℕ). first_failing (mesh_alone o es) x (Bisect t.lo t.hi) ≡ None) end.chunk_is (subst (λ (x : Undivided). first_failing x chunk (Bisect t.lo t.hi) ≡ None) q p))))

pub end_is_edge : (m : Undivided) (e t : Edge) (look : EdgeSeen) (chunk : ℕ) → IsSorted e → IsSeenEdge m e look → IsEnd m e t chunk → is_edge m.tris t.lo t.hi ≡ true
end_is_edge m e t look chunk l seen end = subst (λ (x : Edge). is_edge m.tris x.lo x.hi ≡ true) (sym end.end) (end-edge m e l seen.edge)

pub long_settled : (m m1 : Undivided) (e t : Edge) (chunk : ℕ) → m1 ≡ m → IsEnd m e t chunk → first_failing m1 chunk (Bisect t.lo t.hi) ≢ None → IsLongSettled m e
long_settled m m1 e t chunk q end f long p =
    f (subst (λ (x : Undivided). first_failing x chunk (Bisect t.lo t.hi) ≡ None) (sym q)
    (subst (λ (x : ℕ). first_failing m x (Bisect t.lo t.hi) ≡ None) (sym end.chunk_is)
    (subst (λ (x : Edge). first_failing m (acting_chunk m x) (Bisect x.lo x.hi) ≡ None) (sym end.end) p)))

pub not_long : (m : Undivided) (e : Edge) (look : EdgeSeen) → IsSeenEdge m e look → look.long ≡ false → IsLongSettled m e
not_long m e look seen not_so long p = absurd (let k : false ≡ true = sym not_so ∙ seen.long ∙ long in cc)

-- the contractions of a short edge
pub short_wish : (o : Opening) (ps : List Held) (rich : ℕ) (es : List Entry) (m1 : Undivided) (e : Edge) (look : EdgeSeen) → m1 ≡ mesh_alone o es → ∥ KnowsAll o ps rich es ∥₁ → IsSorted e → IsSeenEdge (mesh_alone o es) e look → look.short ≡ true
    → first_failing m1 look.chunk (Contract e.lo e.hi) ≡ None → IsAnswer m1 look.chunk (normal_of (Contract e.lo e.hi))
short_wish o ps rich es m1 e look q k l seen short p =
    subst (λ (x : Undivided). IsAnswer x look.chunk (normal_of (Contract e.lo e.hi))) (sym q)
    (subst (λ (x : ℕ). IsAnswer (mesh_alone o es) x (normal_of (Contract e.lo e.hi))) (sym seen.chunk)
    (short-answer (mesh_alone o es) e (listed_alone o ps rich es e k l seen.edge) (sym seen.short ∙ short)
    (subst (λ (x : ℕ). first_failing (mesh_alone o es) x (Contract e.lo e.hi) ≡ None) seen.chunk (subst (λ (x : Undivided). first_failing x look.chunk (Contract e.lo e.hi) ≡ None) q p))))

pub short_wish_back : (o : Opening) (ps : List Held) (rich : ℕ) (es : List Entry) (m1 : Undivided) (e : Edge) (look : EdgeSeen) → m1 ≡ mesh_alone o es → ∥ KnowsAll o ps rich es ∥₁ → IsSorted e → IsSeenEdge (mesh_alone o es) e look → look.short ≡ true
    → first_failing m1 look.chunk (Contract e.hi e.lo) ≡ None → IsAnswer m1 look.chunk (normal_of (Contract e.hi e.lo))
short_wish_back o ps rich es m1 e look q k l seen short p =
    subst (λ (x : Undivided). IsAnswer x look.chunk (normal_of (Contract e.hi e.lo))) (sym q)
    (subst (λ (x : ℕ). IsAnswer (mesh_alone o es) x (normal_of (Contract e.hi e.lo))) (sym seen.chunk)
    (short-answer_back (mesh_alone o es) e (listed_alone o ps rich es e k l seen.edge) (sym seen.short ∙ short)
    (subst (λ (x : ℕ). first_failing (mesh_alone o es) x (Contract e.hi e.lo) ≡ None) seen.chunk (subst (λ (x : Undivided). first_failing x look.chunk (Contract e.hi e.lo) ≡ None) q p))))

-- what fails by the chunk that was seen fails by the acting chunk
pub fails_from : (m m1 : Undivided) (e : Edge) (look : EdgeSeen) (op : Op) → m1 ≡ m → IsSeenEdge m e look → first_failing m1 look.chunk op ≢ None → first_failing m (acting_chunk m e) op ≢ None
fails_from m m1 e look op q seen f p = f (subst (λ (x : Undivided). first_failing x look.chunk op ≡ None) (sym q) (subst (λ (x : ℕ). first_failing m x op ≡ None) (sym seen.chunk) p))

pub not_short : (m : Undivided) (e : Edge) (look : EdgeSeen) → IsSeenEdge m e look → look.short ≡ false → IsShortSettled m e
not_short m e look seen not_so short = absurd (let k : false ≡ true = sym not_so ∙ seen.short ∙ short in cc)

-- the flip
pub flip_wish : (o : Opening) (ps : List Held) (rich : ℕ) (es : List Entry) (e : Edge) (look : EdgeSeen) → ∥ KnowsAll o ps rich es ∥₁ → IsSorted e → IsSeenEdge (mesh_alone o es) e look
    → first_failing (mesh_alone o es) look.chunk (Flip e.lo e.hi) ≡ None → IsAnswer (mesh_alone o es) look.chunk (normal_of (Flip e.lo e.hi))
flip_wish o ps rich es e look k l seen p =
    subst (λ (x : ℕ). IsAnswer (mesh_alone o es) x (normal_of (Flip e.lo e.hi))) (sym seen.chunk)
    (flip-answer (mesh_alone o es) e (listed_alone o ps rich es e k l seen.edge) l
    (subst (λ (x : ℕ). first_failing (mesh_alone o es) x (Flip e.lo e.hi) ≡ None) seen.chunk p))

-- what was seen is so on the same mesh
pub seen_from : (m m1 : Undivided) (e : Edge) (look : EdgeSeen) → m1 ≡ m → IsSeenEdge m e look → IsSeenEdge m1 e look
seen_from m m1 e look q s = subst (λ (x : Undivided). IsSeenEdge x e look) (sym q) s

pub settled_edge : (m m1 m2 m3 : Undivided) (e e1 : Edge) → m1 ≡ m → m2 ≡ m → m3 ≡ m → e1 ≡ e → IsLongSettled m1 e1 → IsShortSettled m2 e1 → IsFlipSettled m3 e1 → IsSettled m e
settled_edge m m1 m2 m3 e e1 q r t n l s f edge = subst (λ (x : Edge). IsSettledEdge m x) n (record { long = subst (λ (x : Undivided). IsLongSettled x e1) q l; short = subst (λ (x : Undivided). IsShortSettled x e1) r s; flip = subst (λ (x : Undivided). IsFlipSettled x e1) t f })

-- what was seen of an edge is so of the same edge of the same mesh
pub looks_from : (m m1 : Undivided) (e e1 : Edge) (o : Option EdgeSeen) → m1 ≡ m → e1 ≡ e → LooksAt m e o → LooksAt m1 e1 o
looks_from m m1 e e1 o q r h = subst (λ (x : Undivided). LooksAt x e1 o) (sym q) (subst (λ (x : Edge). LooksAt m x o) (sym r) h)

pub not_settled : (m : Undivided) (e : Edge) → is_edge m.tris e.lo e.hi ≡ false → IsSettled m e
not_settled m e none edge = absurd (let k : false ≡ true = sym none ∙ edge in cc)

-- the star that was won is lent
pub won_lent : (a : ℕ) (s : Star) → star_held (won_pair a s ∷ []) a ≡ Some s
won_lent a s = ap (λ (b : Bool). cond b (Some s) None) (itself a)
  where
    itself : (a : ℕ) → (a == a) ≡ true
    itself a = grind (arith, nat_tests)

-- what the star shows that is lent
pub lent_sight : AreLaws → (m : Undivided) (bands bands1 : List Band) (a b : ℕ) (s s1 : Star) (o : Option EdgeSeen) → IsConforming m → m.bands ≡ bands → star_of m a ≡ Some s → s1 ≡ s → bands1 ≡ bands → is_none o ≡ not (is_neighbour b s1.spokes) → IfSome o (IsSeenIn bands1 s1 b) → LooksAt m (edge_of a b) o
lent_sight laws m bands bands1 a b s s1 o ok e h q r none is =
    star_sight laws m bands a b s o ok e h (subst (λ (x : Star). is_none o ≡ not (is_neighbour b x.spokes)) q none)
    (subst (λ (x : Star). IfSome o (IsSeenIn bands x b)) q (subst (λ (x : List Band). IfSome o (IsSeenIn x s1 b)) r is))

pub some_star : (s t : Star) → Some s ≡ Some t → s ≡ t
some_star s t e = cc

-- the wishes in the star that was won are those of the node
pub won_wishes : (o : Opening) (ps : List Held) (rich : ℕ) (es : List Entry) (a : ℕ) (s t : Star) (bands : List Band) (found : List ℕ) → ∥ KnowsAll o ps rich es ∥₁ → ps ≡ won_pair a s ∷ [] → star_of (mesh_alone o es) a ≡ Some t → HasWishes bands s found → HasWishes bands t found
won_wishes o ps rich es a s t bands found k e h w = subst (λ (x : Star). HasWishes bands x found) (some_star s t (sym (won_star o ps rich es a s k e) ∙ h)) w

-- a test that isn't turned down
pub not_not : (b : Bool) → not b ≡ false → b ≡ true
not_not true e = refl
not_not false e = absurd (let k : true ≡ false = e in cc)

pub on_ok : {A E : Type 0} (r : Result A E) (P Q : Type 0) → (P → Q) → OnOk r P → OnOk r Q
on_ok (Ok a) P Q f h = f h
on_ok (Err e) P Q f h = tt

pub ok_told : {A E : Type 0} (r : Result A E) (P : Type 0) → is_err r ≡ false → OnOk r P → P
ok_told (Ok a) P e h = h
ok_told (Err x) P e h = absurd (let k : true ≡ false = e in cc)
