-- What is owed: the lists of the pure core.
use Rattle.std.proofs.Common.{◌≡◌, ◌≢◌, ℕ, zero, suc, ◌+◌, ◌<◌, ◌≤◌, Bool, true, false, cond, ◌==◌, ◌&&◌, ◌||◌, List, [], ◌∷◌, ◌++◌, length, map, refl, sym, ap, ◌∙◌, subst, inl, inr, ⊎_elim, arith}
use Rattle.std.specs.Prelude.{Option, Some, None, is_some, slice_index, nat_lt}
use Rattle.std.proofs.lemmas.Bool.Decides.{nat_tests}
use Rattle.std.proofs.lemmas.List.{map-append}
use mathlib.Core.Option.{Option as Place, none, some, some-injective}
use mathlib.Core.Logic.{dite}
use native.Mathlib.Decide.{ℕ_discrete}
use lib.ListN.{get_elem?}
use Rattle.pf_model.specs.declared.Op.{Op}
use Rattle.pf_model.specs.declared.Op.TheVariants.{Flip, Bisect, Contract}
use Rattle.pf_model.specs.declared.Entry.{Entry}
use Rattle.pf_model.specs.Stars.{Star, is_sharer}
use Rattle.pf_core_model.specs.declared.sharer.Sharer.{Sharer}
use Rattle.pf_star_model.specs.Lent.{Held, spokes_in, star_held}
use Rattle.pf_core_model.specs.declared.event.Owed.{Owed}
use Rattle.pf_core_model.specs.Lists.{In}
use Rattle.pf_star_model.specs.Copies.{due_copy}
use Rattle.pf_core_model.specs.Moves.{made_list}
use Rattle.pf_core_model.specs.Same.{same_star}
use Rattle.pf_core_model.specs.Core.{nodes_in}
use Rattle.pf_star_model.specs.Patched.{patched, patched_pairs, made_by}
use Rattle.pf_core_model.specs.State.{new_pairs, fresh_pairs, homes_of, is_owed, without_owed, owed_from, owed_after}
use Rattle.pf_core_model.proofs.Lists.{in_either, in_left, in_right}
use Rattle.pf_core_model.proofs.Replays.{and_left, and_right}

-- the home of a name, by its word and list
abbrev pub home_from : ℕ → Place (List Sharer) → Place (Place (List Sharer))
home_from w none = none
home_from w (some r) = some (cond (nat_lt w 3) (some r) none)

pub homes_are : (ws : List ℕ) (rs : List (List Sharer)) (m : ℕ) → get_elem? (homes_of ws rs) m ≡ home_from (slice_index ws m) (get_elem? rs m)
homes_are ws [] m = refl
homes_are [] (r ∷ rs) zero = refl
homes_are [] (r ∷ rs) (suc m) = homes_are [] rs m
homes_are (w ∷ ws) (r ∷ rs) zero = refl
homes_are (w ∷ ws) (r ∷ rs) (suc m) = homes_are ws rs m

pub homes_long : (ws : List ℕ) (rs : List (List Sharer)) → length (homes_of ws rs) ≡ length rs
homes_long ws [] = refl
homes_long [] (r ∷ rs) = let z = homes_long [] rs in omega arith
homes_long (w ∷ ws) (r ∷ rs) = let z = homes_long ws rs in omega arith

-- the homes elsewhere, where one word and one list change
pub homes_else : (ws ws' : List ℕ) (rs rs' : List (List Sharer)) (m : ℕ) → slice_index ws' m ≡ slice_index ws m → get_elem? rs' m ≡ get_elem? rs m → get_elem? (homes_of ws' rs') m ≡ get_elem? (homes_of ws rs) m
homes_else ws ws' rs rs' m w r = homes_are ws' rs' m ∙ (λ i. home_from (w i) (r i)) ∙ sym (homes_are ws rs m)

-- the home of a name whose word says that nobody holds it
pub home_listed : (ws : List ℕ) (rs : List (List Sharer)) (m : ℕ) (r : List Sharer) → slice_index ws m < 3 → get_elem? rs m ≡ some r → get_elem? (homes_of ws rs) m ≡ some (some r)
home_listed ws rs m r low at =
    let is : nat_lt (slice_index ws m) 3 ≡ true = grind (arith, nat_tests) in
    homes_are ws rs m ∙ ap (home_from (slice_index ws m)) at ∙ ap (λ (b : Bool). some (cond b (some r) none)) is

pub places_same : (a b : List Sharer) → some (some a) ≡ some (some b) → a ≡ b
places_same a b e = some-injective a b (some-injective (some a) (some b) e)

-- the star in the pair of a node, where all pairs are true
pub star_in_is : (g : ℕ → Option Star) (n : ℕ) (ps : List Held) → ((p : Held) → In p ps → p.star ≡ g p.node) → In n (nodes_in ps) → star_held ps n ≡ g n
star_in_is g n [] all h = absurd h
star_in_is g n (p ∷ ps) all h = dite (ℕ_discrete p.node n)
    (λ e. let is : (p.node == n) ≡ true = grind (arith, nat_tests) in ap (λ (b : Bool). cond b p.star (star_held ps n)) is ∙ all p (inl refl) ∙ ap g e)
    (λ ne. let is : (p.node == n) ≡ false = grind (arith, nat_tests) in ap (λ (b : Bool). cond b p.star (star_held ps n)) is
    ∙ star_in_is g n ps (λ q k. all q (inr k)) (⊎_elim (λ (e : n ≡ p.node). absurd (ne (sym e))) (λ (k : In n (nodes_in ps)). k) h))

pub star_in_none : (n : ℕ) (ps : List Held) → (In n (nodes_in ps) → ⊥) → star_held ps n ≡ None
star_in_none n [] out = refl
star_in_none n (p ∷ ps) out =
    let is : (p.node == n) ≡ false = let far : p.node ≢ n = λ e. out (inl (sym e)) in grind (arith, nat_tests) in
    ap (λ (b : Bool). cond b p.star (star_held ps n)) is ∙ star_in_none n ps (λ h. out (inr h))

pub patched_nodes : (lent : ℕ → Option Star) (new : ℕ) (op : Op) (ps : List Held) → nodes_in (map (λ (h : Held). record { node = h.node; star = patched lent new op h.node }) ps) ≡ nodes_in ps
patched_nodes lent new op [] = refl
patched_nodes lent new op (p ∷ ps) = ap (λ (l : List ℕ). p.node ∷ l) (patched_nodes lent new op ps)

pub new_nodes : (lent : ℕ → Option Star) (new : ℕ) (op : Op) → nodes_in (new_pairs lent new op) ≡ made_by new op
new_nodes lent new (Flip a b) = refl
new_nodes lent new (Bisect a b) = refl
new_nodes lent new (Contract u v) = refl

-- the nodes of the pairs after an operation
pub fresh_nodes : (f : ℕ) (e : Entry) (held : List Held) → nodes_in (fresh_pairs f e held) ≡ made_list f e ++ nodes_in held
fresh_nodes f e held =
    map-append (λ (p : Held). p.node) (new_pairs (star_held held) (f + e.ticket) e.op) (patched_pairs held (f + e.ticket) e.op)
    ∙ (λ i. new_nodes (star_held held) (f + e.ticket) e.op i ++ patched_nodes (star_held held) (f + e.ticket) e.op held i)

-- one owed pair
abbrev pub owing : ℕ → ℕ → Owed
owing chunk n = record { chunk = chunk; node = n }

pub owed_is : (chunk n : ℕ) (d : Owed) → is_owed chunk n d ≡ true → d ≡ owing chunk n
owed_is chunk n d h =
    let a : (d.chunk == chunk) ≡ true = and_left (d.chunk == chunk) (d.node == n) h in
    let b : (d.node == n) ≡ true = and_right (d.chunk == chunk) (d.node == n) h in
    let p : d.chunk ≡ chunk = grind (arith, nat_tests) in
    let q : d.node ≡ n = grind (arith, nat_tests) in
    λ i. record { chunk = p i; node = q i }

pub owed_same : (chunk n : ℕ) (d : Owed) → d ≡ owing chunk n → is_owed chunk n d ≡ true
owed_same chunk n d e = ap (is_owed chunk n) e ∙ both (chunk == chunk) (n == n) (grind (arith, nat_tests)) (grind (arith, nat_tests))
  where
    both : (a b : Bool) → a ≡ true → b ≡ true → (a && b) ≡ true
    both a b p q = ap (λ (x : Bool). x && b) p ∙ q

pub in_without_owed : (chunk n : ℕ) (d : Owed) (ds : List Owed) → In d (without_owed chunk n ds) → In d ds × (d ≢ owing chunk n)
in_without_owed chunk n d [] h = absurd h
in_without_owed chunk n d (x ∷ xs) h = go (is_owed chunk n x) refl (λ k. in_without_owed chunk n d xs k) h
  where
    go : (b : Bool) → is_owed chunk n x ≡ b → (In d (without_owed chunk n xs) → In d xs × (d ≢ owing chunk n)) → In d (cond b (without_owed chunk n xs) (x ∷ without_owed chunk n xs)) → In d (x ∷ xs) × (d ≢ owing chunk n)
    go true e f k = let r = f k in (inr r.0, r.1)
    go false e f (inl is) = (inl is, λ same. let z : true ≡ false = sym (owed_same chunk n x (sym is ∙ same)) ∙ e in absurd (cc (z)))
    go false e f (inr k) = let r = f k in (inr r.0, r.1)

pub stays_owed : (chunk n : ℕ) (d : Owed) (ds : List Owed) → In d ds → d ≢ owing chunk n → In d (without_owed chunk n ds)
stays_owed chunk n d [] h ne = absurd h
stays_owed chunk n d (x ∷ xs) (inl is) ne = go (is_owed chunk n x) refl
  where
    go : (b : Bool) → is_owed chunk n x ≡ b → In d (cond b (without_owed chunk n xs) (x ∷ without_owed chunk n xs))
    go true e = absurd (ne (is ∙ owed_is chunk n x e))
    go false e = inl is
stays_owed chunk n d (x ∷ xs) (inr h) ne = go (is_owed chunk n x) (stays_owed chunk n d xs h ne)
  where
    go : (b : Bool) → In d (without_owed chunk n xs) → In d (cond b (without_owed chunk n xs) (x ∷ without_owed chunk n xs))
    go true k = k
    go false k = inr k

-- the chunk shares the node in its old or its new star
abbrev pub shares : ℕ → Option Star → Option Star → Bool
shares chunk old new = is_sharer chunk (spokes_in old) || is_sharer chunk (spokes_in new)

pub record IsOwedFrom (first more n : ℕ) (old new : Option Star) (d : Owed) : Type 0 where
  pub node : d.node ≡ n
  pub low : first ≤ d.chunk
  pub high : d.chunk < first + more
  pub shared : shares d.chunk old new ≡ true

pub in_owed_from : (first more n : ℕ) (old new : Option Star) (d : Owed) → In d (owed_from first more n old new) → IsOwedFrom first more n old new d
in_owed_from first zero n old new d h = absurd h
in_owed_from first (suc more) n old new d h = go (shares first old new) refl (λ k. in_owed_from (suc first) more n old new d k) h
  where
    further : IsOwedFrom (suc first) more n old new d → IsOwedFrom first (suc more) n old new d
    further r = let a = r.low in let b = r.high in record { node = r.node; low = omega arith; high = omega arith; shared = r.shared }

    go : (b : Bool) → shares first old new ≡ b → (In d (owed_from (suc first) more n old new) → IsOwedFrom (suc first) more n old new d) → In d (cond b (owing first n ∷ owed_from (suc first) more n old new) (owed_from (suc first) more n old new)) → IsOwedFrom first (suc more) n old new d
    go true e f (inl is) =
        let c : d.chunk ≡ first = ap (λ (x : Owed). x.chunk) is in
        record { node = ap (λ (x : Owed). x.node) is; low = omega arith; high = omega arith; shared = ap (λ (k : ℕ). shares k old new) c ∙ e }
    go true e f (inr k) = further (f k)
    go false e f k = further (f k)

pub owed_from_in : (first more n chunk : ℕ) (old new : Option Star) → first ≤ chunk → chunk < first + more → shares chunk old new ≡ true → In (owing chunk n) (owed_from first more n old new)
owed_from_in first zero n chunk old new low high shared = absurd (omega arith)
owed_from_in first (suc more) n chunk old new low high shared = dite (ℕ_discrete chunk first)
    (λ e. subst (λ (b : Bool). In (owing chunk n) (cond b (owing first n ∷ owed_from (suc first) more n old new) (owed_from (suc first) more n old new))) (sym (ap (λ (k : ℕ). shares k old new) (sym e) ∙ shared)) (inl (ap (λ (k : ℕ). owing k n) e)))
    (λ ne. go (shares first old new) (owed_from_in (suc first) more n chunk old new (omega arith) (omega arith) shared))
  where
    go : (b : Bool) → In (owing chunk n) (owed_from (suc first) more n old new) → In (owing chunk n) (cond b (owing first n ∷ owed_from (suc first) more n old new) (owed_from (suc first) more n old new))
    go true k = inr k
    go false k = k

-- an owed pair after an operation
pub record IsOwedAfter (chunks : ℕ) (old ps : List Held) (d : Owed) : Type 0 where
  pub pair : Held
  pub inside : In pair ps
  pub node : d.node ≡ pair.node
  pub low : d.chunk < chunks
  pub changed : same_star (star_held old pair.node) pair.star ≡ false
  pub shared : shares d.chunk (star_held old pair.node) pair.star ≡ true

pub in_owed_after : (chunks : ℕ) (old ps : List Held) (d : Owed) → In d (owed_after chunks old ps) → IsOwedAfter chunks old ps d
in_owed_after chunks old [] d h = absurd h
in_owed_after chunks old (p ∷ ps) d h = go (same_star (star_held old p.node) p.star) refl (λ k. in_owed_after chunks old ps d k) h
  where
    further : IsOwedAfter chunks old ps d → IsOwedAfter chunks old (p ∷ ps) d
    further r = record { pair = r.pair; inside = inr r.inside; node = r.node; low = r.low; changed = r.changed; shared = r.shared }

    go : (b : Bool) → same_star (star_held old p.node) p.star ≡ b → (In d (owed_after chunks old ps) → IsOwedAfter chunks old ps d) → In d (cond b [] (owed_from 0 chunks p.node (star_held old p.node) p.star) ++ owed_after chunks old ps) → IsOwedAfter chunks old (p ∷ ps) d
    go true e f k = further (f k)
    go false e f k = ⊎_elim
        (λ (x : In d (owed_from 0 chunks p.node (star_held old p.node) p.star)).
        let r = in_owed_from 0 chunks p.node (star_held old p.node) p.star d x in
        let b = r.high in
        record { pair = p; inside = inl refl; node = r.node; low = omega arith; changed = e; shared = r.shared })
        (λ (x : In d (owed_after chunks old ps)). further (f x))
        (in_either d (owed_from 0 chunks p.node (star_held old p.node) p.star) (owed_after chunks old ps) k)

pub owed_after_in : (chunks : ℕ) (old ps : List Held) (p : Held) (chunk : ℕ) → In p ps → chunk < chunks → same_star (star_held old p.node) p.star ≡ false → shares chunk (star_held old p.node) p.star ≡ true → In (owing chunk p.node) (owed_after chunks old ps)
owed_after_in chunks old [] p chunk h low changed shared = absurd h
owed_after_in chunks old (q ∷ qs) p chunk (inl e) low changed shared =
    let changed' : same_star (star_held old q.node) q.star ≡ false = subst (λ (x : Held). same_star (star_held old x.node) x.star ≡ false) e changed in
    let shared' : shares chunk (star_held old q.node) q.star ≡ true = subst (λ (x : Held). shares chunk (star_held old x.node) x.star ≡ true) e shared in
    let here : In (owing chunk q.node) (owed_from 0 chunks q.node (star_held old q.node) q.star) = owed_from_in 0 chunks q.node chunk (star_held old q.node) q.star (omega arith) (omega arith) shared' in
    subst (λ (b : Bool). In (owing chunk p.node) (cond b [] (owed_from 0 chunks q.node (star_held old q.node) q.star) ++ owed_after chunks old qs)) (sym changed')
    (subst (λ (x : Held). In (owing chunk x.node) (owed_from 0 chunks q.node (star_held old q.node) q.star ++ owed_after chunks old qs)) (sym e)
    (in_left (owing chunk q.node) (owed_from 0 chunks q.node (star_held old q.node) q.star) (owed_after chunks old qs) here))
owed_after_in chunks old (q ∷ qs) p chunk (inr h) low changed shared =
    in_right (owing chunk p.node) (cond (same_star (star_held old q.node) q.star) [] (owed_from 0 chunks q.node (star_held old q.node) q.star)) (owed_after chunks old qs) (owed_after_in chunks old qs p chunk h low changed shared)

-- where the chunk shares neither star, both due copies are none
pub due_none : (chunk : ℕ) (old new : Option Star) → shares chunk old new ≡ false → due_copy chunk old ≡ due_copy chunk new
due_none chunk None None h = refl
due_none chunk None (Some b) h = sym (ap (λ (x : Bool). cond x (Some b) None) h)
due_none chunk (Some a) None h = ap (λ (x : Bool). cond x (Some a) None) (left (is_sharer chunk a.spokes) false h)
  where
    left : (x y : Bool) → (x || y) ≡ false → x ≡ false
    left true y k = k
    left false y k = refl
due_none chunk (Some a) (Some b) h = pick (is_sharer chunk a.spokes) (is_sharer chunk b.spokes) h
  where
    pick : (x y : Bool) → (x || y) ≡ false → cond x (Some a) None ≡ cond y (Some b) None
    pick true y k = absurd (cc (k))
    pick false true k = absurd (cc (k))
    pick false false k = refl

none_not : (a : Star) → None ≡ Some a → ⊥
none_not a e = let z : false ≡ true = ap is_some e in absurd (cc (z))

-- where the chunk shares one of two stars that differ, the due copies differ
pub due_differ : (chunk : ℕ) (old new : Option Star) → old ≢ new → shares chunk old new ≡ true → due_copy chunk old ≢ due_copy chunk new
due_differ chunk None None ne h e = ne refl
due_differ chunk None (Some b) ne h e = none_not b (e ∙ ap (λ (x : Bool). cond x (Some b) None) h)
due_differ chunk (Some a) None ne h e = none_not a (sym e ∙ ap (λ (x : Bool). cond x (Some a) None) (left (is_sharer chunk a.spokes) h))
  where
    left : (x : Bool) → (x || false) ≡ true → x ≡ true
    left true k = refl
    left false k = k
due_differ chunk (Some a) (Some b) ne h e = pick (is_sharer chunk a.spokes) (is_sharer chunk b.spokes) h e
  where
    pick : (x y : Bool) → (x || y) ≡ true → cond x (Some a) None ≡ cond y (Some b) None → ⊥
    pick true true k z = ne z
    pick true false k z = none_not a (sym z)
    pick false true k z = none_not b z
    pick false false k z = absurd (cc (k))
