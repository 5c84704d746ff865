-- The due lists of copies of what is held.
use Rattle.std.proofs.Common.{◌≡◌, ◌≢◌, ◌⊎◌, ◌&&◌, ℕ, Bool, true, false, cond, ◌==◌, ◌||◌, List, [], ◌∷◌, refl, sym, ap, ◌∙◌, subst, inl, inr, arith}
use Rattle.std.specs.Prelude.{Option, Some, None, is_some}
use Rattle.std.specs.List.{list_all}
use Rattle.std.proofs.lemmas.Bool.Decides.{nat_tests}
use Rattle.pf_model.specs.Mesh.{Undivided, point_of, place_of}
use Rattle.pf_model.specs.Conforming.{IsConforming, IsLive}
use Rattle.pf_model.specs.Stars.{Star, star_of, spokes_of}
use Rattle.pf_star_model.specs.Lent.{Held, is_held, star_held}
use Rattle.pf_core_model.specs.declared.view.View.{View}
use Rattle.pf_core_model.specs.Lists.{In}
use Rattle.pf_core_model.specs.Sharers.{kept_in, sharers_in}
use Rattle.pf_core_model.specs.Core.{Opening, nodes_in}
use Rattle.pf_core_model.specs.Seats.{KnowsMesh}
use Rattle.pf_core_model.proofs.Sharing.{none_due, kept_is, star_shared}
use Rattle.pf_locks.specs.declared.kept.Kept.{Kept}
use Rattle.pf_locks.specs.Lists.{list_in}
use Rattle.pf_hand.specs.Hands.{AreDue}

pub eq_true : (a b : ℕ) → a ≡ b → (a == b) ≡ true
eq_true a b e = grind (arith, nat_tests)

pub eq_false : (a b : ℕ) → a ≢ b → (a == b) ≡ false
eq_false a b e = grind (arith, nat_tests)

-- a name that isn't live has no star
pub not_live : (m : Undivided) (n : ℕ) → (IsLive m n → ⊥) → star_of m n ≡ None
not_live m n out = go (is_some (point_of m.sites n)) refl
  where
    go : (b : Bool) → is_some (point_of m.sites n) ≡ b → cond {A = Option Star} b (Some record { node = n; at = place_of m n; spokes = spokes_of m n }) None ≡ None
    go true e = absurd (out e)
    go false e = refl

-- the pair of a node that is held
pub pair_at : (ps : List Held) (n : ℕ) → In n (nodes_in ps) → (p : Held) × In p ps × (p.node ≡ n)
pair_at [] n h = absurd h
pair_at (p ∷ ps) n (inl e) = (p, inl refl, sym e)
pair_at (p ∷ ps) n (inr h) = let r = pair_at ps n h in (r.0, inr r.1, r.2)

pub node_held : (ps : List Held) (n : ℕ) → In n (nodes_in ps) → is_held ps n ≡ true
node_held [] n h = absurd h
node_held (p ∷ ps) n h = go (p.node == n) refl h (node_held ps n)
  where
    go : (b : Bool) → (p.node == n) ≡ b → (n ≡ p.node) ⊎ In n (nodes_in ps) → (In n (nodes_in ps) → is_held ps n ≡ true) → (b || is_held ps n) ≡ true
    go true e k ih = refl
    go false e (inl f) ih = absurd (let q : false ≡ true = sym e ∙ eq_true p.node n (sym f) in cc)
    go false e (inr i) ih = ih i

-- where each pair has a star, one is held of each node
pub some_held : (ps : List Held) (n : ℕ) → In n (nodes_in ps) → ((p : Held) → In p ps → p.star ≢ None) → star_held ps n ≢ None
some_held [] n h all = absurd h
some_held (p ∷ ps) n h all = go (p.node == n) refl h (λ i. some_held ps n i (λ q j. all q (inr j)))
  where
    go : (b : Bool) → (p.node == n) ≡ b → (n ≡ p.node) ⊎ In n (nodes_in ps) → (In n (nodes_in ps) → star_held ps n ≢ None) → cond b p.star (star_held ps n) ≢ None
    go true e k ih = all p (inl refl)
    go false e (inl f) ih = absurd (let q : false ≡ true = sym e ∙ eq_true p.node n (sym f) in cc)
    go false e (inr i) ih = ih i

pub some_of : (x : Option Star) → x ≢ None → (s : Star) × (x ≡ Some s)
some_of None ne = absurd (ne refl)
some_of (Some s) ne = (s, refl)

pub all_held : (ps : List Held) (ns : List ℕ) → ((n : ℕ) → In n ns → In n (nodes_in ps)) → list_all (is_held ps) ns ≡ true
all_held ps [] h = refl
all_held ps (n ∷ ns) h = λ i. node_held ps n (h n (inl refl)) i && all_held ps ns (λ k j. h k (inr j)) i

-- the list of a node that is held is that of its star in a mesh which the view may be of
pub due_at : (chunks : ℕ) (held : List Held) (ks : List Kept) (m : Undivided) → AreDue chunks held ks → ((p : Held) → In p held → p.star ≡ star_of m p.node) → (n : ℕ) → In n (nodes_in held) → list_in ks n ≡ sharers_in chunks (star_of m n)
due_at chunks held ks m due are n h =
    let r = pair_at held n h in
    subst (λ (k : ℕ). list_in ks k ≡ sharers_in chunks (star_of m k)) r.2 (due r.0 r.1 ∙ ap (λ (x : Option Star). sharers_in chunks x) (are r.0 r.1))

-- the keeper's copy of a star is the star
pub kept_of : (m : Undivided) (n : ℕ) → IsConforming m → kept_in (sharers_in m.chunks (star_of m n)) ≡ star_of m n
kept_of m n c = go (star_of m n) refl
  where
    go : (x : Option Star) → star_of m n ≡ x → kept_in (sharers_in m.chunks x) ≡ x
    go None e = ap kept_in (none_due 0 m.chunks)
    go (Some s) e = let k = star_shared m n s c e in kept_is m.chunks k.0 s k.1 k.2

-- a node that is held, with its star or its absence, the list of its copies, and the first of them
pub record IsPaid (v : View) (ks : List Kept) (n : ℕ) : Type 0 where
  pub star : Option Star
  pub holds : In (record { node = n; star = star }) v.held
  pub due : list_in ks n ≡ sharers_in v.chunks star
  pub first : kept_in (list_in ks n) ≡ star

pub paid : (o : Opening) (v : View) (ks : List Kept) (n : ℕ) → KnowsMesh o v → AreDue v.chunks v.held ks → In n (nodes_in v.held) → IsPaid v ks n
paid o v ks n k due h =
    let r = pair_at v.held n h in
    let p = r.0 in
    let is = k.shown in
    let list : list_in ks n ≡ sharers_in v.chunks p.star = ap (λ (x : ℕ). list_in ks x) (sym r.2) ∙ due p r.1 in
    let star : p.star ≡ star_of k.mesh p.node = is.pairs p r.1 in
    record {
      star = p.star;
      holds = subst (λ (x : ℕ). In (record { node = x; star = p.star }) v.held) r.2 r.1;
      due = list;
      first = ap kept_in list ∙ ap (λ (x : ℕ). kept_in (sharers_in x p.star)) (sym is.chunks) ∙ ap (λ (x : Option Star). kept_in (sharers_in k.mesh.chunks x)) star ∙ kept_of k.mesh p.node is.conforming ∙ sym star;
    }
