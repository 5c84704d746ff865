-- The lines of the rest list that pass, and the operations that answer them.
use Rattle.std.proofs.Common.{◌≡◌, ℕ, ◌≤◌, List, [], ◌∷◌, ◌++◌, refl, ◌∙◌, ap, subst, Bool, true, false, ◌||◌, ◌⊎◌, inl, inr, arith}
use Rattle.std.specs.Prelude.{Contains, cond, flat_map, min, max, Option, Some, None, is_none}
use Rattle.std.specs.List.{list_any}
use Rattle.pf_model.specs.declared.Op.{Op}
use Rattle.pf_model.specs.declared.Op.TheVariants.{Flip, Bisect, Contract}
use Rattle.pf_model.specs.declared.Cond.{Cond}
use Rattle.pf_model.specs.declared.RestLine.{RestLine}
use Rattle.pf_model.specs.declared.RestLine.TheVariants as line
use Rattle.pf_model.specs.Ends.{normal_of}
use Rattle.pf_model.specs.Mesh.{Undivided}
use Rattle.pf_model.specs.Lengths.{Edge, is_long}
use Rattle.pf_model.specs.Sums.{edges_of}
use Rattle.pf_model.specs.Conditions.{first_failing}
use Rattle.pf_model.specs.Wishes.{acting_chunk, is_short, terminal_of, long_lines, short_lines, flip_lines, rest_of}
use Rattle.pf_model.proofs.ContractKeeps.{flat_map-out, flat_map-in}
use Rattle.pf_model.proofs.Kept.{any-from, any-means}
use Rattle.pf_model.proofs.Members.{nowhere, here, cases}
use Rattle.pf_core_model.proofs.Born.{in_contains, contains_in}
use Rattle.pf_core_model.proofs.Lists.{in_either, in_left, in_right}
use Rattle.pf_finish.specs.Passing.{passes, has_passing, Answers, IsAnswer}
use Rattle.pf_finish.specs.Seen.{IsSettledEdge}
use Rattle.pf_finish.proofs.Listed.{IsSorted, listed-member, is_same}

in_parts : {X : Type 0} (x : X) (xs ys : List X) → Contains (xs ++ ys) x → Contains xs x ⊎ Contains ys x
in_parts x xs ys h = elim (in_either x xs ys (contains_in x (xs ++ ys) h)) [ inl a ↦ inl (in_contains x xs a) | inr b ↦ inr (in_contains x ys b) ]

in_first : {X : Type 0} (x : X) (xs ys : List X) → Contains xs x → Contains (xs ++ ys) x
in_first x xs ys h = in_contains x (xs ++ ys) (in_left x xs ys (contains_in x xs h))

in_second : {X : Type 0} (x : X) (xs ys : List X) → Contains ys x → Contains (xs ++ ys) x
in_second x xs ys h = in_contains x (xs ++ ys) (in_right x xs ys (contains_in x ys h))

-- the lines of the long edges, the short edges and the flips stand in the rest list
long-stands : (m : Undivided) (e : Edge) (l : RestLine) → Contains (edges_of m) e → Contains (long_lines m e) l → Contains (rest_of m) l
long-stands m e l h k = in_first l (flat_map (long_lines m) (edges_of m)) _ (flat_map-in (long_lines m) (edges_of m) e l h k)

short-stands : (m : Undivided) (e : Edge) (l : RestLine) → Contains (edges_of m) e → Contains (short_lines m e) l → Contains (rest_of m) l
short-stands m e l h k = in_second l (flat_map (long_lines m) (edges_of m)) _ (in_first l (flat_map (short_lines m) (edges_of m)) _ (flat_map-in (short_lines m) (edges_of m) e l h k))

flip-stands : (m : Undivided) (e : Edge) (l : RestLine) → Contains (edges_of m) e → Contains (flip_lines m e) l → Contains (rest_of m) l
flip-stands m e l h k = in_second l (flat_map (long_lines m) (edges_of m)) _ (in_second l (flat_map (short_lines m) (edges_of m)) _ (flat_map-in (flip_lines m) (edges_of m) e l h k))

one : {X : Type 0} (x : X) (b : Bool) → b ≡ true → Contains (cond b (x ∷ []) []) x
one x true e = here x []
one x false e = absurd (let k : false ≡ true = e in cc)

one-means : {X : Type 0} (x y : X) (b : Bool) → Contains (cond b (x ∷ []) []) y → (b ≡ true) × (y ≡ x)
one-means x y true h = elim (cases y x [] h) [ inl e ↦ (refl, e) | inr n ↦ absurd (nowhere y n) ]
one-means x y false h = absurd (nowhere y h)

none-means : (o : Option Cond) → is_none o ≡ true → o ≡ None
none-means None h = refl
none-means (Some c) h = absurd (let k : false ≡ true = h in cc)

sorted-low : (a b : ℕ) → a ≤ b → min a b ≡ a
sorted-low a b l = omega arith

sorted-high : (a b : ℕ) → a ≤ b → max a b ≡ b
sorted-high a b l = omega arith

-- a bisection that passes at the end of the walk of a long edge answers its line
pub long-answer : (m : Undivided) (e t : Edge) → list_any (is_same e) (edges_of m) ≡ true → t ≡ terminal_of m e → IsSorted t → is_long m e.lo e.hi ≡ true → first_failing m (acting_chunk m t) (Bisect t.lo t.hi) ≡ None → IsAnswer m (acting_chunk m t) (normal_of (Bisect t.lo t.hi))
long-answer m e t h end l long p =
    let u : Edge = terminal_of m e in
    let why : Option Cond = first_failing m (acting_chunk m u) (Bisect u.lo u.hi) in
    record {
      line = line.Long e.lo e.hi u.lo u.hi why;
      stands = long-stands m e _ (listed-member m e h) (one (line.Long e.lo e.hi u.lo u.hi why) (is_long m e.lo e.hi) long);
      answers = (
        subst (λ (w : Edge). first_failing m (acting_chunk m w) (Bisect w.lo w.hi) ≡ None) end p,
        (λ i. Bisect ((sorted-low t.lo t.hi l ∙ ap (λ (w : Edge). w.lo) end) i) ((sorted-high t.lo t.hi l ∙ ap (λ (w : Edge). w.hi) end) i)),
        ap (acting_chunk m) end,
      );
    }

-- a contraction of a short edge that passes answers its line
pub short-answer : (m : Undivided) (e : Edge) → list_any (is_same e) (edges_of m) ≡ true → is_short m e.lo e.hi ≡ true → first_failing m (acting_chunk m e) (Contract e.lo e.hi) ≡ None → IsAnswer m (acting_chunk m e) (normal_of (Contract e.lo e.hi))
short-answer m e h short p =
    record {
      line = line.Short e.lo e.hi (first_failing m (acting_chunk m e) (Contract e.lo e.hi)) (first_failing m (acting_chunk m e) (Contract e.hi e.lo));
      stands = short-stands m e _ (listed-member m e h) (one _ (is_short m e.lo e.hi) short);
      answers = (refl, inl (p, refl));
    }

pub short-answer_back : (m : Undivided) (e : Edge) → list_any (is_same e) (edges_of m) ≡ true → is_short m e.lo e.hi ≡ true → first_failing m (acting_chunk m e) (Contract e.hi e.lo) ≡ None → IsAnswer m (acting_chunk m e) (normal_of (Contract e.hi e.lo))
short-answer_back m e h short p =
    record {
      line = line.Short e.lo e.hi (first_failing m (acting_chunk m e) (Contract e.lo e.hi)) (first_failing m (acting_chunk m e) (Contract e.hi e.lo));
      stands = short-stands m e _ (listed-member m e h) (one _ (is_short m e.lo e.hi) short);
      answers = (refl, inr (p, refl));
    }

-- a flip that passes answers its line
pub flip-answer : (m : Undivided) (e : Edge) → list_any (is_same e) (edges_of m) ≡ true → IsSorted e → first_failing m (acting_chunk m e) (Flip e.lo e.hi) ≡ None → IsAnswer m (acting_chunk m e) (normal_of (Flip e.lo e.hi))
flip-answer m e h l p =
    record {
      line = line.Flip e.lo e.hi;
      stands = flip-stands m e _ (listed-member m e h) (one (line.Flip e.lo e.hi) (is_none (first_failing m (acting_chunk m e) (Flip e.lo e.hi))) (ap is_none p));
      answers = (refl, λ i. Flip (sorted-low e.lo e.hi l i) (sorted-high e.lo e.hi l i));
    }

-- what answers a line says that one passes
pub answer-passing : (m : Undivided) (chunk : ℕ) (op : Op) → IsAnswer m chunk op → has_passing m ≡ true
answer-passing m chunk op a = any-from passes a.line (rest_of m) a.stands (go a.line a.answers)
  where
    go : (l : RestLine) → Answers m chunk op l → passes l ≡ true
    go (line.Long lo hi c d why) h = ap is_none h.0
    go (line.Short lo hi why why') h = elim h.1 [ inl k ↦ ap (λ w. is_none w || is_none why') k.0 | inr k ↦ second (is_none why) (is_none why') (ap is_none k.0) ]
      where
        second : (a b : Bool) → b ≡ true → (a || b) ≡ true
        second true b e = refl
        second false b e = e
    go (line.Flip lo hi) h = refl

-- where each edge is settled, no line passes
pub all-settled : (m : Undivided) → ((e : Edge) → Contains (edges_of m) e → IsSettledEdge m e) → has_passing m ≡ false
all-settled m all = go (has_passing m) refl
  where
    both : (a b : Bool) → (a || b) ≡ true → (a ≡ true) ⊎ (b ≡ true)
    both true b e = inl refl
    both false b e = inr e

    long : (e : Edge) (l : RestLine) → Contains (edges_of m) e → Contains (long_lines m e) l → passes l ≡ true → ⊥
    long e l h k p =
        let u : Edge = terminal_of m e in
        let r = one-means (line.Long e.lo e.hi u.lo u.hi (first_failing m (acting_chunk m u) (Bisect u.lo u.hi))) l (is_long m e.lo e.hi) k in
        (all e h).long r.0 (none-means (first_failing m (acting_chunk m u) (Bisect u.lo u.hi)) (subst (λ w. passes w ≡ true) r.1 p))

    short : (e : Edge) (l : RestLine) → Contains (edges_of m) e → Contains (short_lines m e) l → passes l ≡ true → ⊥
    short e l h k p =
        let forth : Option Cond = first_failing m (acting_chunk m e) (Contract e.lo e.hi) in
        let back : Option Cond = first_failing m (acting_chunk m e) (Contract e.hi e.lo) in
        let r = one-means (line.Short e.lo e.hi forth back) l (is_short m e.lo e.hi) k in
        let s = (all e h).short r.0 in
        elim (both (is_none forth) (is_none back) (subst (λ w. passes w ≡ true) r.1 p)) [ inl x ↦ s.0 (none-means forth x) | inr x ↦ s.1 (none-means back x) ]

    flip : (e : Edge) (l : RestLine) → Contains (edges_of m) e → Contains (flip_lines m e) l → ⊥
    flip e l h k = (all e h).flip (none-means (first_failing m (acting_chunk m e) (Flip e.lo e.hi)) (one-means (line.Flip e.lo e.hi) l (is_none (first_failing m (acting_chunk m e) (Flip e.lo e.hi))) k).0)

    parts : (l : RestLine) → Contains (rest_of m) l → passes l ≡ true → ⊥
    parts l h p = elim (in_parts l (flat_map (long_lines m) (edges_of m)) _ h) [
      | inl a ↦ (let f = flat_map-out (long_lines m) (edges_of m) l a in long f.0 l f.1 f.2 p)
      | inr b ↦ elim (in_parts l (flat_map (short_lines m) (edges_of m)) _ b) [
        | inl a ↦ (let f = flat_map-out (short_lines m) (edges_of m) l a in short f.0 l f.1 f.2 p)
        | inr a ↦ (let f = flat_map-out (flip_lines m) (edges_of m) l a in flip f.0 l f.1 f.2)
      ]
    ]

    go : (b : Bool) → has_passing m ≡ b → has_passing m ≡ false
    go false e = e
    go true e = absurd (let f = any-means passes (rest_of m) e in parts f.0 f.1 f.2)
