-- An operation that is committed from a hand.
use Rattle.std.proofs.Common.{◌≡◌, ◌≢◌, ◌⊎◌, ℕ, ◌+◌, ◌≤◌, Bool, true, false, cond, ◌==◌, ◌||◌, List, [], ◌∷◌, ◌++◌, map, refl, sym, ap, ◌∙◌, subst, ⊎_elim, inl, inr, arith}
use Rattle.std.specs.Prelude.{Option, Some, None, Contains}
use Rattle.std.specs.Option.{option_map}
use Rattle.std.specs.List.{list_all}
use mathlib.Core.Logic.{dite}
use native.Mathlib.Decide.{ℕ_discrete}
use Rattle.pf_model.specs.declared.Band.{Band}
use Rattle.pf_model.specs.declared.Op.{Op}
use Rattle.pf_model.specs.declared.Op.TheVariants.{Flip, Bisect, Contract}
use Rattle.pf_model.specs.declared.Entry.{Entry}
use Rattle.pf_model.specs.Rising.{AreDifferent}
use Rattle.pf_model.specs.Mesh.{Undivided}
use Rattle.pf_model.specs.Conforming.{IsLive}
use Rattle.pf_model.specs.Conditions.{first_failing}
use Rattle.pf_model.specs.Applied.{IsFresh, applied}
use Rattle.pf_model.specs.Stars.{Star, star_of}
use Rattle.pf_model.specs.Ends.{first_end, second_end}
use Rattle.pf_model.proofs.Members.{nowhere, cases, here, there}
use Rattle.pf_model.proofs.Totals.{map-in, map-means}
use Rattle.pf_model.proofs.ContractClauses.{contract_passes}
use Rattle.pf_star_model.specs.Lent.{Held, is_held, star_held, IsShown}
use Rattle.pf_star_model.specs.Judged.{judged}
use Rattle.pf_star_model.specs.Cavity.{cavity_of, cavity_seen}
use Rattle.pf_star_model.specs.Patched.{patched, kept_star, star_after, sight_after, removed_by, added_seen, made_star, patch_of, made_by, renamed, renamed_star, renamed_pair}
use Rattle.pf_star_model.specs.Laws.{CanApply, AreEndsShown, IsPatch}
use Rattle.pf_star_model.proofs.Cavities.{cavity_is_seen}
use Rattle.pf_star_model.proofs.Operations.{patch_is_whole, patched_is_star, outside_stays, passes_at_ends}
use Rattle.pf_star_model.proofs.Renames.{patch_is_renamed}
use Rattle.pf_core_model.specs.declared.sharer.Sharer.{Sharer}
use Rattle.pf_core_model.specs.declared.view.View.{View}
use Rattle.pf_core_model.specs.Lists.{In}
use Rattle.pf_core_model.specs.Cavity.{makes_node, makes, is_made}
use Rattle.pf_core_model.specs.Sharers.{sharers_in}
use Rattle.pf_core_model.specs.Moves.{committed, born}
use Rattle.pf_core_model.specs.Core.{Opening, nodes_in, nodes_of}
use Rattle.pf_core_model.specs.Guards.{IsMeshOf}
use Rattle.pf_core_model.specs.Seats.{KnowsMesh}
use Rattle.pf_core_model.proofs.Lists.{in_either, in_left, in_right}
use Rattle.pf_core_model.proofs.Replays.{and_left, or_cases}
use Rattle.pf_core_model.proofs.Told.{live_known}
use Rattle.pf_core_model.specs.State.{can_judge}
use Rattle.pf_core_model.proofs.Judged.{judged_is, can_judge_held}
use Rattle.pf_core_model.proofs.Sharing.{none_due}
use Rattle.pf_core_model.proofs.Owing.{fresh_nodes}
use Rattle.pf_board_steps.specs.Plays.{CanCommit, fresh_at}
use Rattle.pf_board_steps.proofs.Guards.{made_patch}
use Rattle.pf_ghost.specs.declared.ready.Listed.{Listed}
use Rattle.pf_ghost.specs.Prepared.{ready_of, listed_of}
use Rattle.pf_ghost.specs.Spread.{later_name, named_node, spread_at, SpreadPutsDue}
use Rattle.pf_holder.specs.Facts as holder
use Rattle.pf_holder.specs.Facts.{IsSeen}
use Rattle.pf_holder.specs.Prepared.{fresh_of, IsReady}
use Rattle.pf_holder.proofs.Held.{held_shown, end_within, in_has, has_in}
use Rattle.pf_holder.proofs.Patches.{rising_apart}
use Rattle.pf_locks.specs.declared.kept.Kept.{Kept}
use Rattle.pf_locks.specs.Lists.{list_in}
use Rattle.pf_locks.specs.declared.seat.BoardSeat.{BoardSeat}
use Rattle.pf_locks.specs.Seats.{entry_of, HoldsLive, IsSeat, TellsCommit}
use Rattle.pf_hand.specs.Hands.{AreDue, HasSome, IsHand, made_view}
use Rattle.pf_hand.specs.Later.{IsLater}
use Rattle.pf_hand.proofs.Due.{eq_true, eq_false, not_live, all_held, some_held, some_of, due_at}

-- a mesh that the view may be of is one that a holder sees
pub seen_mesh : (o : Opening) (v : View) (m : Undivided) → v.bands ≡ o.mesh.bands → IsMeshOf v m → IsSeen o.mesh.bands v.held m
seen_mesh o v m e is = record { conforming = is.conforming; banded = is.bands ∙ e; shown = is.pairs }

-- what a holder may commit, the board may
pub can_make : (o : Opening) (v : View) (chunk : ℕ) (op : Op) → KnowsMesh o v → holder.IsJudged o.mesh.bands v.held chunk op None → holder.HoldsCavity o.mesh.bands v.held chunk op → CanCommit v chunk op
can_make o v chunk op k j c = (all, ap (λ (l : List Band). judged (star_held v.held) l chunk op) (sym is.bands) ∙ judged_is k.mesh is.conforming v.held is.pairs chunk op able ∙ passes)
  where
    is : IsMeshOf v k.mesh
    is = k.shown

    seen : IsSeen o.mesh.bands v.held k.mesh
    seen = seen_mesh o v k.mesh k.opening.3 is

    passes : first_failing k.mesh chunk op ≡ None
    passes = j k.mesh seen

    shown : (n : ℕ) → Contains (cavity_of k.mesh chunk op) n → IsShown (star_held v.held) k.mesh n
    shown n i = held_shown k.mesh v.held is.pairs n (c k.mesh seen n i)

    ends : AreEndsShown (star_held v.held) k.mesh op
    ends = (shown (first_end op) (end_within k.mesh chunk op (first_end op) (inl refl)), shown (second_end op) (end_within k.mesh chunk op (second_end op) (inr refl)))

    same : cavity_seen (star_held v.held) op ≡ cavity_of k.mesh chunk op
    same = cavity_is_seen k.mesh (star_held v.held) chunk op is.conforming ends (passes_at_ends k.mesh chunk op passes)

    all : list_all (is_held v.held) (cavity_seen (star_held v.held) op) ≡ true
    all = all_held v.held (cavity_seen (star_held v.held) op) (λ n i. c k.mesh seen n (has_in n (cavity_of k.mesh chunk op) (subst (λ (l : List ℕ). In n l) same i)))

    able : can_judge v.held chunk op ≡ true
    able = can_judge_held k.mesh is.conforming v.held is.pairs chunk op all

-- a pair with this node is among these, or none is
find_at : (f : Held → ℕ) (hs : List Held) (n : ℕ) → ((h : Held) × Contains hs h × (f h ≡ n)) ⊎ ((h : Held) → Contains hs h → f h ≢ n)
find_at f [] n = inr (λ h i. absurd (nowhere h i))
find_at f (x ∷ xs) n = dite (ℕ_discrete (f x) n)
    (λ e. inl (x, here x xs, e))
    (λ ne. ⊎_elim
    (λ (r : (h : Held) × Contains xs h × (f h ≡ n)). inl (r.0, there r.0 x xs r.1, r.2))
    (λ (out : (h : Held) → Contains xs h → f h ≢ n). inr (λ h i. ⊎_elim (λ (q : h ≡ x). λ (z : f h ≡ n). ne (sym (ap f q) ∙ z)) (λ (j : Contains xs h). out h j) (cases h x xs i)))
    (find_at f xs n))

-- a pair that is held is the new form of one of these
held_in : (old new : ℕ) (hs : List Held) (n : ℕ) → is_held (map (renamed_pair old new) hs) n ≡ true → (h : Held) × Contains hs h × (renamed old new h.node ≡ n)
held_in old new [] n e = absurd (let q : false ≡ true = e in cc)
held_in old new (x ∷ xs) n e = dite (ℕ_discrete (renamed old new x.node) n)
    (λ q. (x, here x xs, q))
    (λ ne. let r = held_in old new xs n (sym (ap (λ (b : Bool). b || is_held (map (renamed_pair old new) xs) n) (eq_false (renamed old new x.node) n ne)) ∙ e) in (r.0, there r.0 x xs r.1, r.2))

same_nodes : (old new : ℕ) (hs : List Held) → map (λ (h : Held). h.node) (map (renamed_pair old new) hs) ≡ map (λ (h : Held). renamed old new h.node) hs
same_nodes old new [] = refl
same_nodes old new (h ∷ hs) = ap (λ (l : List ℕ). renamed old new h.node ∷ l) (same_nodes old new hs)

made_there : (new : ℕ) (op : Op) → makes_node op ≡ true → Contains (made_by new op) new
made_there new (Flip a b) e = absurd (let q : false ≡ true = e in cc)
made_there new (Bisect a b) e = here new []
made_there new (Contract u v) e = absurd (let q : false ≡ true = e in cc)

only_made : (new n : ℕ) (op : Op) → In n (made_by new op) → (makes_node op ≡ true) × (n ≡ new)
only_made new n (Flip a b) i = absurd i
only_made new n (Bisect a b) i = ⊎_elim (λ (e : n ≡ new). (refl, e)) (λ (j : ⊥). absurd j) i
only_made new n (Contract u v) i = absurd i

kept_some : (lent : ℕ → Option Star) (new : ℕ) (op : Op) (n : ℕ) (s : Star) → lent n ≡ Some s → (star : Star) × (kept_star lent new op n ≡ Some star)
kept_some lent new op n s e =
    let f : Star → Star = star_after (sight_after lent new op) (removed_by op) (added_seen lent new op) in
    (f s, ap (λ (x : Option Star). option_map f x) e)

-- the second end of an operation that passes keeps a star
second_patched : (lent : ℕ → Option Star) (new : ℕ) (m : Undivided) (chunk : ℕ) (op : Op) → first_failing m chunk op ≡ None → (s : Star) → lent (second_end op) ≡ Some s → (star : Star) × (patched lent new op (second_end op) ≡ Some star)
second_patched lent new m chunk (Flip a b) p s e = kept_some lent new (Flip a b) b s e
second_patched lent new m chunk (Bisect a b) p s e = go (b == new) (kept_some lent new (Bisect a b) b s e)
  where
    go : (t : Bool) → (star : Star) × (kept_star lent new (Bisect a b) b ≡ Some star) → (star : Star) × (cond t (Some (made_star lent new (Bisect a b))) (kept_star lent new (Bisect a b) b) ≡ Some star)
    go true k = (made_star lent new (Bisect a b), refl)
    go false k = k
second_patched lent new m chunk (Contract u v) p s e =
    let k = kept_some lent new (Contract u v) v s e in
    let apart = (contract_passes m chunk u v p).apart in
    (k.0, ap (λ (t : Bool). cond t None (kept_star lent new (Contract u v) v)) (eq_false v u (λ q. apart (sym q))) ∙ k.1)

module _ (v : View) (chunk t : ℕ) (op : Op) (can : CanCommit v chunk op) (m : Undivided) (is : IsMeshOf v m) (new : IsFresh m t) (small : v.first_new + t ≤ later_name) where
  abbrev lent : ℕ → Option Star
  lent = star_held v.held

  abbrev entry : Entry
  entry = entry_of t chunk op

  abbrev name : ℕ
  name = m.first_new + t

  abbrev fresh : List Held
  fresh = fresh_of lent op

  abbrev after : Undivided
  after = applied m entry

  passes : first_failing m chunk op ≡ None
  passes = (made_patch v entry can).0 m is

  applies : CanApply m entry
  applies = record { conforming = is.conforming; fresh = new; passes = passes }

  within : (n : ℕ) → Contains (cavity_of m chunk op) n → In n (nodes_of v)
  within n i = (made_patch v entry can).1 m is n (in_has n (cavity_of m chunk op) i)

  shown : (n : ℕ) → Contains (cavity_of m chunk op) n → IsShown lent m n
  shown n i = held_shown m v.held is.pairs n (within n i)

  ends : AreEndsShown lent m op
  ends = (shown (first_end op) (end_within m chunk op (first_end op) (inl refl)), shown (second_end op) (end_within m chunk op (second_end op) (inr refl)))

  whole : IsPatch m entry (patch_of lent name op)
  whole = patch_is_whole m lent chunk t op applies ends shown

  renames : map (renamed_pair later_name name) fresh ≡ patch_of lent name op
  renames = patch_is_renamed m lent chunk t op later_name applies ends shown (let s = small in let f = is.first_new in omega (arith, s, f))

  apart : AreDifferent (map (λ (h : Held). renamed later_name name h.node) fresh)
  apart = subst (λ (l : List ℕ). AreDifferent l) (sym (ap (λ (l : List Held). map (λ (h : Held). h.node) l) renames) ∙ same_nodes later_name name fresh) (rising_apart (patch_of lent name op) whole.rises)

  moved : (h : Held) → Contains fresh h → Contains (patch_of lent name op) (renamed_pair later_name name h)
  moved h i = subst (λ (l : List Held). Contains l (renamed_pair later_name name h)) renames (map-in (renamed_pair later_name name) fresh h i)

  -- each place is that of a node that is held afterwards
  placed : (h : Held) → Contains fresh h → In (renamed later_name name h.node) (made_by name op ++ nodes_of v)
  placed h i = ⊎_elim
      (λ (k : Contains (cavity_of m chunk op) (renamed later_name name h.node)). in_right (renamed later_name name h.node) (made_by name op) (nodes_of v) (within (renamed later_name name h.node) k))
      (λ (k : Contains (made_by name op) (renamed later_name name h.node)). in_left (renamed later_name name h.node) (made_by name op) (nodes_of v) (in_has (renamed later_name name h.node) (made_by name op) k))
      (whole.only (renamed_pair later_name name h) (moved h i))

  new_none : star_of m name ≡ None
  new_none = not_live m name (λ l. let f = new name l in absurd (omega (arith, f)))

  -- a node that isn't changed keeps its star
  outside : (n : ℕ) → ((h : Held) → Contains fresh h → renamed later_name name h.node ≢ n) → star_of after n ≡ star_of m n
  outside n out = dite (ℕ_discrete n name)
      (λ e. not_live after n (λ l. ⊎_elim
      (λ (k : IsLive m n). let f = new n k in absurd (omega (arith, f, e)))
      (λ (k : is_made m.first_new (entry ∷ []) n ≡ true). ⊎_elim
      (λ (k : makes m.first_new n entry ≡ true). missed (whole.made n (subst (λ (z : ℕ). Contains (made_by name op) z) (sym e) (made_there name op (and_left (makes_node op) (m.first_new + t == n) k)))))
      (λ (k : false ≡ true). absurd (let q : false ≡ true = k in cc))
      (or_cases (makes m.first_new n entry) false k))
      (live_known m (entry ∷ []) n l))
      ∙ sym (not_live m n (λ l. let f = new n l in absurd (omega (arith, f, e)))))
      (λ ne. outside_stays m chunk t op applies n ne (λ i. missed (whole.whole n i)))
    where
      missed : is_held (patch_of lent name op) n ≡ true → ⊥
      missed h = let r = held_in later_name name fresh n (ap (λ (l : List Held). is_held l n) renames ∙ h) in out r.0 r.1 r.2

  -- once all was put, a list that was due is due after the operation
  due_after : SpreadPutsDue → (copies : ℕ → List Sharer) (n : ℕ) → copies n ≡ sharers_in v.chunks (star_of m n) → spread_at name (ready_of v.chunks fresh) copies n ≡ sharers_in v.chunks (star_of after n)
  due_after due copies n e =
      let put = due v.chunks name fresh copies apart in
      ⊎_elim
      (λ (r : (h : Held) × Contains fresh h × (renamed later_name name h.node ≡ n)).
      let h = r.0 in
      let agrees : option_map (renamed_star later_name name) h.star ≡ star_of after (renamed later_name name h.node) = whole.agrees (renamed_pair later_name name h) (moved h r.1) in
      subst (λ (k : ℕ). spread_at name (ready_of v.chunks fresh) copies k ≡ sharers_in v.chunks (star_of after k)) r.2 (put.changed h r.1 ∙ ap (λ (x : Option Star). sharers_in v.chunks x) agrees))
      (λ (out : (h : Held) → Contains fresh h → renamed later_name name h.node ≢ n). put.others n out ∙ e ∙ ap (λ (x : Option Star). sharers_in v.chunks x) (sym (outside n out)))
      (find_at (λ (h : Held). renamed later_name name h.node) fresh n)

  -- the list of each node that is held afterwards, before anything was put
  due_before : (ks ks' : List Kept) → AreDue v.chunks v.held ks → (makes_node op ≡ true → (k : ℕ) → list_in ks' k ≡ cond (name == k) [] (list_in ks k)) → (makes_node op ≡ false → (k : ℕ) → list_in ks' k ≡ list_in ks k)
      → (n : ℕ) → In n (made_by name op ++ nodes_of v) → list_in ks' n ≡ sharers_in v.chunks (star_of m n)
  due_before ks ks' due made same n h = go (makes_node op) refl
    where
      old : In n (nodes_of v) → list_in ks n ≡ sharers_in v.chunks (star_of m n)
      old i = due_at v.chunks v.held ks m due is.pairs n i

      go : (b : Bool) → makes_node op ≡ b → list_in ks' n ≡ sharers_in v.chunks (star_of m n)
      go true e = dite (ℕ_discrete name n)
          (λ q. made e n ∙ ap (λ (b : Bool). cond b [] (list_in ks n)) (eq_true name n q) ∙ sym (none_due 0 v.chunks) ∙ ap (λ (x : Option Star). sharers_in v.chunks x) (sym new_none ∙ ap (star_of m) q))
          (λ ne. made e n ∙ ap (λ (b : Bool). cond b [] (list_in ks n)) (eq_false name n ne) ∙ old (⊎_elim (λ (i : In n (made_by name op)). absurd (ne (sym (only_made name n op i).1))) (λ (i : In n (nodes_of v)). i) (in_either n (made_by name op) (nodes_of v) h)))
      go false e = same e n ∙ old (⊎_elim (λ (i : In n (made_by name op)). absurd (let q : false ≡ true = sym e ∙ (only_made name n op i).0 in cc)) (λ (i : In n (nodes_of v)). i) (in_either n (made_by name op) (nodes_of v) h))

  -- the second end has a star afterwards
  second_stays : HoldsLive v → (star : Star) × (star_of after (second_end op) ≡ Some star)
  second_stays live =
      let n = second_end op in
      let s = some_of (lent n) (some_held v.held n (within n (end_within m chunk op n (inr refl))) live) in
      let p = second_patched lent name m chunk op passes s.0 s.1 in
      (p.0, sym (patched_is_star m lent chunk t op applies ends n ends.1) ∙ p.1)

module _ (o : Opening) (s t : BoardSeat) (chunk k name : ℕ) (op : Op) (ready : List Listed) (named : name ≡ o.mesh.first_new + k) (h : IsHand o s false) (can : CanCommit s.seat.me.0 chunk op) (told : TellsCommit o k chunk op s t) (are : IsReady (star_held s.seat.me.0.held) s.seat.me.0.chunks op ready) where
  abbrev v : View
  v = s.seat.me.0

  abbrev made : List Held
  made = fresh_at v (entry_of 0 chunk op) k

  low : v.first_new + k ≤ later_name
  low = let a = told.makes.name in let b = h.seat.knows.0.small in omega (arith, a, b)

  first : o.mesh.first_new ≡ told.makes.mesh.first_new
  first = sym h.seat.knows.0.opening.1 ∙ sym told.makes.before.first_new

  is_name : name ≡ told.makes.mesh.first_new + k
  is_name = named ∙ ap (λ (x : ℕ). x + k) first

  made_nodes : nodes_in made ≡ made_by (told.makes.mesh.first_new + k) op ++ nodes_of v
  made_nodes = fresh_nodes v.first_new (entry_of k chunk op) v.held ∙ ap (λ (x : ℕ). made_by (x + k) op ++ nodes_of v) (sym told.makes.before.first_new)

  held_is : t.seat.me.0.held ≡ made
  held_is = ap (λ (u : View). u.held) told.view

  -- each place is that of a node that is held after the commit
  pub places_held : (l : Listed) → Contains ready l → In (named_node name l) (nodes_of t.seat.me.0)
  places_held l i =
      let r = map-means (listed_of v.chunks) (fresh_of (star_held v.held) op) l (subst (λ (x : List Listed). Contains x l) are i) in
      subst (λ (x : List ℕ). In (named_node name l) x) (sym (ap (λ (x : List Held). nodes_in x) held_is ∙ made_nodes))
      (subst (λ (x : ℕ). In (named_node x l) (made_by (told.makes.mesh.first_new + k) op ++ nodes_of v)) (sym is_name)
      (subst (λ (x : Listed). In (named_node (told.makes.mesh.first_new + k) x) (made_by (told.makes.mesh.first_new + k) op ++ nodes_of v)) r.2
      (placed v chunk k op can told.makes.mesh told.makes.before told.makes.fresh low r.0 r.1)))

  agrees_after : (p : Held) → In p made → p.star ≡ star_of (applied told.makes.mesh (entry_of k chunk op)) p.node
  agrees_after p i = told.makes.after.pairs p (subst (λ (x : List Held). In p x) (sym held_is) i)

  node_among : (ps : List Held) (p : Held) → In p ps → In p.node (nodes_in ps)
  node_among [] p i = absurd i
  node_among (q ∷ qs) p (inl e) = inl (ap (λ (x : Held). x.node) e)
  node_among (q ∷ qs) p (inr i) = inr (node_among qs p i)

  -- the lists are due once all was put
  due_made : SpreadPutsDue → (ks : List Kept) → ((n : ℕ) → list_in ks n ≡ spread_at name ready (list_in t.kept.items) n) → AreDue v.chunks made ks
  due_made due ks put p i =
      let n = p.node in
      let new = told.makes.mesh.first_new + k in
      let among : In n (made_by new op ++ nodes_of v) = subst (λ (x : List ℕ). In n x) made_nodes (node_among made p i) in
      let before : list_in t.kept.items n ≡ sharers_in v.chunks (star_of told.makes.mesh n)
      = due_before v chunk k op can told.makes.mesh told.makes.before told.makes.fresh low s.kept.items t.kept.items h.due
      (λ e j. subst (λ (x : ℕ). list_in t.kept.items j ≡ cond (x == j) [] (list_in s.kept.items j)) (ap (λ (x : ℕ). x + k) (sym told.makes.before.first_new)) (told.made e j).0)
      (λ e j. ap (λ (l : List Kept). list_in l j) (told.same e))
      n among in
      put n
      ∙ (λ z. spread_at (is_name z) (are z) (list_in t.kept.items) n)
      ∙ due_after v chunk k op can told.makes.mesh told.makes.before told.makes.fresh low due (list_in t.kept.items) n before
      ∙ ap (λ (x : Option Star). sharers_in v.chunks x) (sym (agrees_after p i))

  -- a star is still held
  some_made : HasSome made
  some_made =
      let n = second_end op in
      let m = told.makes.mesh in
      let r = second_stays v chunk k op can m told.makes.before told.makes.fresh low (h.before refl).live in
      let among : In n (nodes_in made) = subst (λ (x : List ℕ). In n x) (sym made_nodes) (in_right n (made_by (m.first_new + k) op) (nodes_of v) (within v chunk k op can m told.makes.before told.makes.fresh low n (end_within m chunk op n (inr refl)))) in
      record { node = n; star = r.0; holds = held_shown (applied m (entry_of k chunk op)) made agrees_after n among ∙ r.1 }

  -- the hand after a commit whose copies were put
  pub made_hand : SpreadPutsDue → (u : BoardSeat) → IsSeat o u → u.seat.me.0 ≡ made_view v chunk op k → ((n : ℕ) → list_in u.kept.items n ≡ spread_at name ready (list_in t.kept.items) n) → IsHand o u true
  made_hand due u seat e put =
      record {
        seat = seat;
        clear = ap (λ (x : View). x.unborn) e;
        due = subst (λ (x : View). AreDue x.chunks x.held u.kept.items) (sym e) (due_made due u.kept.items put);
        before = λ b. absurd (let q : true ≡ false = b in cc);
        after = λ _. subst (λ (x : View). HasSome x.held) (sym e) some_made;
      }

-- the view once the new node is born
pub born_view : (u p t v : View) (e : Entry) (held : List Held) (unborn : Option ℕ) → u ≡ born p → p ≡ t → t ≡ committed v e held unborn → u ≡ committed v e held None
born_view u p t v e held unborn a b c = a ∙ ap (λ (w : View). born w) (b ∙ c)

-- where none is made
pub unborn_view : (p t v : View) (e : Entry) (held : List Held) (n : ℕ) (b : Bool) → p ≡ t → t ≡ committed v e held (cond b (Some n) None) → b ≡ false → p ≡ committed v e held None
unborn_view p t v e held n b x y z = x ∙ y ∙ ap (λ (c : Bool). committed v e held (cond c (Some n) None)) z

-- the view after a commit is a later one
pub later_made : (v w : View) (chunk t : ℕ) (op : Op) → w ≡ made_view v chunk op t → IsLater v w
later_made v w chunk t op e = subst (λ (x : View). IsLater v x) (sym e) (record { numbers = refl; workers = refl; entries = (entry_of t chunk op ∷ [], refl); refusals = ([], refl); lost = ([], refl); dead = ([], refl); never = ([], refl); marks = ([], refl) })
