-- Stars that are put into the table, and what is owed of them.
use Rattle.std.proofs.Common.{◌≡◌, ◌≢◌, ℕ, zero, suc, ◌+◌, ◌<◌, ◌≤◌, Bool, true, false, cond, not, ◌==◌, ◌&&◌, ◌||◌, List, [], ◌∷◌, ◌++◌, length, map, set, refl, sym, ap, ◌∙◌, subst, inl, inr, ◌⊎◌, ⊎_elim, arith}
use Rattle.std.specs.Prelude.{Option, Some, None, is_some, is_none, filter, fold, Contains}
use Rattle.std.specs.List.{list_all, list_any}
use Rattle.std.proofs.lemmas.List.{length-set}
use mathlib.Core.Logic.{dite}
use native.Mathlib.Decide.{ℕ_discrete}
use Rattle.pf_model.specs.declared.Op.{Op}
use Rattle.pf_model.specs.declared.Op.TheVariants.{Flip, Bisect, Contract}
use Rattle.pf_model.specs.Ends.{first_end}
use Rattle.pf_star_model.specs.Cavity.{cavity_seen, needed}
use Rattle.pf_core_model.specs.Core.{nodes_in}
use Rattle.pf_model.specs.declared.Spoke.{Spoke}
use Rattle.pf_model.specs.Conditions.{lesser, least_that}
use Rattle.pf_model.specs.Stars.{Star, is_sharer}
use Rattle.pf_model.proofs.Members.{nowhere, cases, here, there}
use Rattle.pf_model.proofs.ContractClauses.{least_that-none}
use Rattle.pf_star_model.specs.Lent.{Held as Pair, is_held, star_held, spokes_in}
use Rattle.pf_core_model.specs.declared.event.Owed.{Owed}
use Rattle.pf_core_model.specs.declared.sharer.Sharer.{Sharer}
use Rattle.pf_core_model.specs.Lists.{In}
use Rattle.pf_core_model.specs.Same.{same_star}
use Rattle.pf_core_model.proofs.Lists.{in_either, in_left, in_right}
use Rattle.pf_core_model.proofs.Replays.{and_left, and_right, or_cases, or_right}
use Rattle.pf_core_model.proofs.Born.{in_contains, contains_in}
use Rattle.pf_core_model.proofs.Owing.{owing, shares}
use Rattle.pf_core.specs.declared.tables.Node.{Node}
use Rattle.pf_core.specs.declared.tables.Seat.{Seat}
use Rattle.pf_core.specs.Tables.{node_at, code_in, list_in, holds, star_seen}
use Rattle.pf_dues.specs.Owed.{owed_of, owed_by, owed_for, owed_all}
use Rattle.pf_core.specs.Making.{starred_node, starred}
use Rattle.pf_core.proofs.Kept.{codes_same, lists_same, eq_is, eq_true, eq_false, both_ways}
use Rattle.pf_core.proofs.Moves.{star_else, star_here}

pub starred_long : (hs : List Pair) (nodes : List Node) → length (starred hs nodes) ≡ length nodes
starred_long [] nodes = refl
starred_long (h ∷ hs) nodes = length-set (starred hs nodes) h.node (starred_node h.star (node_at (starred hs nodes) h.node)) ∙ starred_long hs nodes

pub starred_codes : (hs : List Pair) (nodes : List Node) → map code_in (starred hs nodes) ≡ map code_in nodes
starred_codes [] nodes = refl
starred_codes (h ∷ hs) nodes = codes_same (starred hs nodes) h.node (starred_node h.star (node_at (starred hs nodes) h.node)) refl ∙ starred_codes hs nodes

pub starred_lists : (hs : List Pair) (nodes : List Node) → map list_in (starred hs nodes) ≡ map list_in nodes
starred_lists [] nodes = refl
starred_lists (h ∷ hs) nodes = lists_same (starred hs nodes) h.node (starred_node h.star (node_at (starred hs nodes) h.node)) refl ∙ starred_lists hs nodes

pub starred_else : (hs : List Pair) (nodes : List Node) (n : ℕ) → ((h : Pair) → In h hs → h.node ≢ n) → (node_at (starred hs nodes) n).star ≡ (node_at nodes n).star
starred_else [] nodes n out = refl
starred_else (h ∷ hs) nodes n out = star_else (starred hs nodes) h.node n (starred_node h.star (node_at (starred hs nodes) h.node)) (λ e. out h (inl refl) (sym e)) ∙ starred_else hs nodes n (λ k i. out k (inr i))

pub starred_at : (hs : List Pair) (nodes : List Node) (n : ℕ) (star : Option Star) → n < length nodes → ((h : Pair) → In h hs → h.node ≡ n → h.star ≡ star) → (h : Pair) → In h hs → h.node ≡ n → (node_at (starred hs nodes) n).star ≡ star
starred_at [] nodes n star low all h i e = absurd i
starred_at (x ∷ xs) nodes n star low all h i e = dite (ℕ_discrete x.node n)
    (λ is.
    let here : n < length (starred xs nodes) = let z = starred_long xs nodes in omega arith in
    let y : Node = starred_node x.star (node_at (starred xs nodes) x.node) in
    ap (λ (k : ℕ). (node_at (set (starred xs nodes) k y) n).star) is ∙ star_here (starred xs nodes) n y here ∙ all x (inl refl) is)
    (λ ne. star_else (starred xs nodes) x.node n (starred_node x.star (node_at (starred xs nodes) x.node)) (λ k. ne (sym k))
    ∙ starred_at xs nodes n star low (λ k j. all k (inr j)) h (⊎_elim (λ (q : h ≡ x). absurd (ne (sym (ap (λ (p : Pair). p.node) q) ∙ e))) (λ (j : In h xs). j) i) e)

-- the first end is in the cavity
pub end_in : (lent : ℕ → Option Star) (op : Op) → In (first_end op) (cavity_seen lent op)
end_in lent (Flip a b) = inl refl
end_in lent (Bisect a b) = inl refl
end_in lent (Contract u v) = inl refl

pub all_in : (p : ℕ → Bool) (ns : List ℕ) → list_all p ns ≡ true → (n : ℕ) → In n ns → p n ≡ true
all_in p [] h n i = absurd i
all_in p (k ∷ ks) h n (inl e) = ap p e ∙ and_left (p k) (list_all p ks) h
all_in p (k ∷ ks) h n (inr i) = all_in p ks (and_right (p k) (list_all p ks) h) n i

pub in_held : (k : ℕ) (ps : List Pair) → In k (nodes_in ps) → is_held ps k ≡ true
in_held k [] i = absurd i
in_held k (p ∷ ps) (inl e) = ap (λ (b : Bool). b || is_held ps k) (eq_true p.node k (sym e))
in_held k (p ∷ ps) (inr i) = or_right (p.node == k) (is_held ps k) (in_held k ps i)

-- owners of spokes
in_owed_by : (n : ℕ) (ss : List Spoke) (d : Owed) → In d (owed_by n ss) → (d.node ≡ n) × (is_sharer d.chunk ss ≡ true)
in_owed_by n [] d h = absurd h
in_owed_by n (s ∷ ss) d (inl e) = (ap (λ (x : Owed). x.node) e, ap (λ (b : Bool). b || is_sharer d.chunk ss) (eq_true s.owner d.chunk (sym (ap (λ (x : Owed). x.chunk) e))))
in_owed_by n (s ∷ ss) d (inr h) = let r = in_owed_by n ss d h in (r.0, or_right (s.owner == d.chunk) (is_sharer d.chunk ss) r.1)

owed_by_in : (n chunk : ℕ) (ss : List Spoke) → is_sharer chunk ss ≡ true → In (owing chunk n) (owed_by n ss)
owed_by_in n chunk [] h = absurd (let z : false ≡ true = h in cc)
owed_by_in n chunk (s ∷ ss) h = ⊎_elim
    (λ (e : (s.owner == chunk) ≡ true). inl (ap (λ (k : ℕ). owing k n) (sym (eq_is s.owner chunk e))))
    (λ (e : is_sharer chunk ss ≡ true). inr (owed_by_in n chunk ss e))
    (or_cases (s.owner == chunk) (is_sharer chunk ss) h)

-- what is owed is owed of a pair whose star changed, to a chunk that shares it in its old or its new star
pub record IsOwing (lent : ℕ → Option Star) (hs : List Pair) (d : Owed) : Type 0 where
  pub pair : Pair
  pub inside : In pair hs
  pub node : d.node ≡ pair.node
  pub changed : same_star (lent pair.node) pair.star ≡ false
  pub shared : shares d.chunk (lent pair.node) pair.star ≡ true

pub in_owed_all : (lent : ℕ → Option Star) (hs : List Pair) (d : Owed) → In d (owed_all lent hs) → IsOwing lent hs d
in_owed_all lent [] d h = absurd h
in_owed_all lent (x ∷ xs) d h = ⊎_elim
    (λ (k : In d (owed_for lent x)). mine (same_star (lent x.node) x.star) refl k)
    (λ (k : In d (owed_all lent xs)). more (in_owed_all lent xs d k))
    (in_either d (owed_for lent x) (owed_all lent xs) h)
  where
    more : IsOwing lent xs d → IsOwing lent (x ∷ xs) d
    more r = record { pair = r.pair; inside = inr r.inside; node = r.node; changed = r.changed; shared = r.shared }

    both : List Owed
    both = owed_by x.node (spokes_in (lent x.node)) ++ owed_by x.node (spokes_in x.star)

    mine : (b : Bool) → same_star (lent x.node) x.star ≡ b → In d (cond b [] (owed_by x.node (spokes_in (lent x.node)) ++ owed_by x.node (spokes_in x.star))) → IsOwing lent (x ∷ xs) d
    mine true e k = absurd k
    mine false e k = ⊎_elim
        (λ (y : In d (owed_by x.node (spokes_in (lent x.node)))). let r = in_owed_by x.node (spokes_in (lent x.node)) d y in
        record { pair = x; inside = inl refl; node = r.0; changed = e; shared = ap (λ (b : Bool). b || is_sharer d.chunk (spokes_in x.star)) r.1 })
        (λ (y : In d (owed_by x.node (spokes_in x.star))). let r = in_owed_by x.node (spokes_in x.star) d y in
        record { pair = x; inside = inl refl; node = r.0; changed = e; shared = or_right (is_sharer d.chunk (spokes_in (lent x.node))) (is_sharer d.chunk (spokes_in x.star)) r.1 })
        (in_either d (owed_by x.node (spokes_in (lent x.node))) (owed_by x.node (spokes_in x.star)) k)

pub owed_all_in : (lent : ℕ → Option Star) (hs : List Pair) (h : Pair) (chunk : ℕ) → In h hs → same_star (lent h.node) h.star ≡ false → shares chunk (lent h.node) h.star ≡ true → In (owing chunk h.node) (owed_all lent hs)
owed_all_in lent [] h chunk i changed shared = absurd i
owed_all_in lent (x ∷ xs) h chunk (inr i) changed shared = in_right (owing chunk h.node) (owed_for lent x) (owed_all lent xs) (owed_all_in lent xs h chunk i changed shared)
owed_all_in lent (x ∷ xs) h chunk (inl i) changed shared =
    in_left (owing chunk h.node) (owed_for lent x) (owed_all lent xs)
    (subst (λ (y : Pair). In (owing chunk h.node) (owed_for lent y)) i
    (subst (λ (b : Bool). In (owing chunk h.node) (cond b [] (owed_by h.node (spokes_in (lent h.node)) ++ owed_by h.node (spokes_in h.star)))) (sym changed)
    (⊎_elim
    (λ (e : is_sharer chunk (spokes_in (lent h.node)) ≡ true). in_left (owing chunk h.node) (owed_by h.node (spokes_in (lent h.node))) (owed_by h.node (spokes_in h.star)) (owed_by_in h.node chunk (spokes_in (lent h.node)) e))
    (λ (e : is_sharer chunk (spokes_in h.star) ≡ true). in_right (owing chunk h.node) (owed_by h.node (spokes_in (lent h.node))) (owed_by h.node (spokes_in h.star)) (owed_by_in h.node chunk (spokes_in h.star) e))
    (or_cases (is_sharer chunk (spokes_in (lent h.node))) (is_sharer chunk (spokes_in h.star)) shared))))

-- where no pair is an absence, a node is held exactly where a star of it is
pub held_star : (ps : List Pair) → list_all (λ (p : Pair). is_some p.star) ps ≡ true → (n : ℕ) → is_held ps n ≡ is_some (star_held ps n)
held_star [] all n = refl
held_star (p ∷ ps) all n = go (p.node == n) (held_star ps (and_right (is_some p.star) (list_all (λ (q : Pair). is_some q.star) ps) all) n)
  where
    go : (b : Bool) → is_held ps n ≡ is_some (star_held ps n) → (b || is_held ps n) ≡ is_some (cond b p.star (star_held ps n))
    go true rest = sym (and_left (is_some p.star) (list_all (λ (q : Pair). is_some q.star) ps) all)
    go false rest = rest

-- all pass, or the least is there that doesn't
all_members : (p : ℕ → Bool) (ns : List ℕ) → ((n : ℕ) → In n ns → p n ≡ true) → list_all p ns ≡ true
all_members p [] f = refl
all_members p (n ∷ ns) f = (λ i. f n (inl refl) i && all_members p ns (λ k h. f k (inr h)) i)

none_fail : (p : ℕ → Bool) (ns : List ℕ) → list_all p ns ≡ true → filter (λ n. not (p n)) ns ≡ []
none_fail p [] h = refl
none_fail p (n ∷ ns) h = ap (λ (b : Bool). cond (not b) (n ∷ filter (λ k. not (p k)) ns) (filter (λ k. not (p k)) ns)) (and_left (p n) (list_all p ns) h) ∙ none_fail p ns (and_right (p n) (list_all p ns) h)

none_is : (x : Option ℕ) → is_none x ≡ true → x ≡ None
none_is None h = refl
none_is (Some k) h = absurd (let z : false ≡ true = h in cc)

not_not : (b : Bool) → not b ≡ false → b ≡ true
not_not true h = refl
not_not false h = absurd (let z : true ≡ false = h in cc)

pub whole_is : (p : ℕ → Bool) (ns : List ℕ) → list_all p ns ≡ is_none (least_that (λ n. not (p n)) ns)
whole_is p ns = both_ways (list_all p ns) (is_none (least_that (λ n. not (p n)) ns))
    (λ h. ap (λ (l : List ℕ). is_none (fold lesser None l)) (none_fail p ns h))
    (λ h. all_members p ns (λ n i. not_not (p n) (least_that-none (λ k. not (p k)) ns n (none_is (least_that (λ k. not (p k)) ns) h) (in_contains n ns i))))

-- where the cavity is lent, the first end is held
pub held_first : (nodes : List Node) (seats : List Seat) (a : ℕ) (op : Op) → is_none (needed (star_seen nodes seats a) op) ≡ true → holds nodes seats a (first_end op) ≡ true
held_first nodes seats a op h = go (holds nodes seats a (first_end op)) refl
  where
    there : is_some (star_seen nodes seats a (first_end op)) ≡ true
    there = all_in (λ n. is_some (star_seen nodes seats a n)) (cavity_seen (star_seen nodes seats a) op) (whole_is (λ n. is_some (star_seen nodes seats a n)) (cavity_seen (star_seen nodes seats a) op) ∙ h) (first_end op) (end_in (star_seen nodes seats a) op)

    go : (b : Bool) → holds nodes seats a (first_end op) ≡ b → b ≡ true
    go true e = refl
    go false e = absurd (let z : false ≡ true = sym (ap (λ (x : Bool). is_some (cond x (node_at nodes (first_end op)).star None)) e) ∙ there in cc (z))

-- pairs that are put one after another, from the last on
pub starred_last : (hs : List Pair) (h : Pair) (nodes : List Node) → starred (hs ++ h ∷ []) nodes ≡ starred hs (set nodes h.node (starred_node h.star (node_at nodes h.node)))
starred_last [] h nodes = refl
starred_last (x ∷ xs) h nodes = ap (λ (l : List Node). set l x.node (starred_node x.star (node_at l x.node))) (starred_last xs h nodes)

pub front_in : (h : Pair) (hs : List Pair) (k : Pair) → Contains hs k → Contains (hs ++ h ∷ []) k
front_in h [] k j = absurd (nowhere k j)
front_in h (x ∷ xs) k j = more x xs (front_in h xs k) (cases k x xs j)
  where
    more : (x : Pair) (xs : List Pair) → (Contains xs k → Contains (xs ++ h ∷ []) k) → (k ≡ x) ⊎ Contains xs k → Contains (x ∷ xs ++ h ∷ []) k
    more x xs f (inl e) = subst (λ (y : Pair). Contains (y ∷ xs ++ h ∷ []) k) e (here k (xs ++ h ∷ []))
    more x xs f (inr y) = there k x (xs ++ h ∷ []) (f y)

pub last_in : (h : Pair) (hs : List Pair) → Contains (hs ++ h ∷ []) h
last_in h [] = here h []
last_in h (x ∷ xs) = there h x (xs ++ h ∷ []) (last_in h xs)
