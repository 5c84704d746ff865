-- Operations that a seat makes: what is prepared for them, and that each list is due once it is put.
use Rattle.std.proofs.Common.{◌≡◌, ◌≢◌, ℕ, ◌+◌, ◌≤◌, Bool, true, false, cond, ◌==◌, ◌||◌, ◌&&◌, List, [], ◌∷◌, ◌++◌, length, map, refl, sym, ap, ◌∙◌, subst, ◌⊎◌, inl, inr, ⊎_elim, arith}
use Rattle.std.specs.Prelude.{Option, Some, None, Contains, is_some, not}
use Rattle.std.specs.Option.{option_map}
use Rattle.std.specs.List.{list_all}
use mathlib.Core.Logic.{dite}
use native.Mathlib.Decide.{ℕ_discrete}
use Rattle.pf_model.specs.declared.Op.{Op}
use Rattle.pf_model.specs.declared.Op.TheVariants.{Flip, Bisect, Contract}
use Rattle.pf_model.specs.declared.Cond.{Cond}
use Rattle.pf_model.specs.declared.Entry.{Entry}
use Rattle.pf_model.specs.Rising.{AreDifferent}
use Rattle.pf_model.specs.Mesh.{Undivided, point_of, place_of as point_or}
use Rattle.pf_model.specs.Conforming.{IsLive}
use Rattle.pf_model.specs.Applied.{applied}
use Rattle.pf_model.specs.Ends.{first_end, second_end}
use Rattle.pf_model.specs.Stars.{Star, star_of, spokes_of}
use Rattle.pf_model.proofs.ContractClauses.{least_that-none}
use Rattle.pf_model.proofs.Members.{nowhere, cases, here, there}
use Rattle.pf_model.proofs.Totals.{map-in}
use Rattle.pf_star_model.specs.Lent.{Held, is_held, star_held, IsShown}
use Rattle.pf_star_model.specs.Cavity.{cavity_of, cavity_seen, needed}
use Rattle.pf_star_model.specs.Judged.{judged}
use Rattle.pf_star_model.specs.Patched.{patch_of, made_by, renamed, renamed_star, renamed_pair}
use Rattle.pf_star_model.specs.Laws.{CanApply, AreEndsShown, IsPatch}
use Rattle.pf_star_model.proofs.Operations.{patch_is_whole, outside_stays}
use Rattle.pf_star_model.proofs.Renames.{patch_is_renamed}
use Rattle.pf_cavity.specs.declared.answer.Need.TheVariants.{Hold, Whole}
use Rattle.pf_cavity.specs.Need.{need_of}
use Rattle.pf_core_model.specs.declared.sharer.Sharer.{Sharer}
use Rattle.pf_core_model.specs.declared.view.View.{View}
use Rattle.pf_core_model.specs.Lists.{In}
use Rattle.pf_core_model.specs.Cavity.{makes_node, makes, is_made}
use Rattle.pf_core_model.specs.Sharers.{sharers_in}
use Rattle.pf_core_model.specs.Moves.{committed, unborn_by, made_list}
use Rattle.pf_core_model.specs.Core.{Opening, nodes_in, nodes_of}
use Rattle.pf_core_model.specs.Guards.{IsMeshOf, IsViewJudged}
use Rattle.pf_core_model.specs.Seats.{Knows}
use Rattle.pf_core_model.proofs.Born.{in_contains}
use Rattle.pf_core_model.proofs.Lists.{in_map, in_mapped, in_either}
use Rattle.pf_core_model.proofs.Replays.{and_left, or_cases}
use Rattle.pf_core_model.proofs.Told.{live_known}
use Rattle.pf_core_model.proofs.Sharing.{none_due}
use Rattle.pf_board_steps.specs.Plays.{CanCommit, Makes, fresh_at}
use Rattle.pf_board_steps.proofs.Guards.{made_patch, seen_judged}
use Rattle.pf_ghost.specs.declared.ready.Listed.{Listed}
use Rattle.pf_ghost.specs.Prepared.{ready_of}
use Rattle.pf_ghost.specs.Spread.{later_name, named_node, named_list, spread_at, SpreadPutsDue}
use Rattle.pf_holder.specs.Prepared.{fresh_of, IsReady}
use Rattle.pf_holder.proofs.Held.{held_shown, end_within, lent_held, in_has}
use Rattle.pf_holder.proofs.Patches.{rising_apart}
use Rattle.pf_locks.specs.declared.kept.Kept.{Kept}
use Rattle.pf_locks.specs.declared.seat.BoardSeat.{BoardSeat}
use Rattle.pf_locks.specs.Lists.{list_in, lent_in}
use Rattle.pf_locks.specs.Seats.{entry_of, TellsCommit}
use Rattle.pf_locks.proofs.Seating.{made_away}
use Rattle.board_tests.specs.Holding.{PaidBy, LentBy, IsLending, put_at}
use Rattle.board_tests.proofs.Lending.{same, apart}

-- what is lent is what is held
pub lent_is : (v : View) (ks : List Kept) → LentBy v ks → lent_in ks ≡ star_held v.held
lent_is v ks l = λ i n. l.lends n i

-- what is held of a node is its star in the mesh that the seat knows
pub shown_there : (o : Opening) (v : View) (ks : List Kept) (n : ℕ) (k : Knows o v) → LentBy v ks → In n (nodes_of v) → IsShown (lent_in ks) k.0.mesh n
shown_there o v ks n k l i = l.lends n ∙ held_shown k.0.mesh v.held k.0.shown.pairs n i

pub lent_there : (v : View) (ks : List Kept) (n : ℕ) → LentBy v ks → is_some (lent_in ks n) ≡ true → In n (nodes_of v)
lent_there v ks n l e = lent_held v.held n (sym (ap (λ (x : Option Star). is_some x) (l.lends n)) ∙ e)

none_needed : (x : Option ℕ) → Whole ≡ need_of x → x ≡ None
none_needed None e = refl
none_needed (Some n) e = absurd (let k : Whole ≡ Hold n = e in cc (k))

all_members : (p : ℕ → Bool) (ns : List ℕ) → ((n : ℕ) → In n ns → p n ≡ true) → list_all p ns ≡ true
all_members p [] f = refl
all_members p (n ∷ ns) f = (λ i. f n (inl refl) i && all_members p ns (λ k h. f k (inr h)) i)

not_not : (b : Bool) → not b ≡ false → b ≡ true
not_not true h = refl
not_not false h = absurd (let z : true ≡ false = h in cc (z))

some_held : (n : ℕ) (ps : List Held) → is_some (star_held ps n) ≡ true → is_held ps n ≡ true
some_held n [] h = h
some_held n (p ∷ ps) h = go (p.node == n) h (some_held n ps)
  where
    go : (b : Bool) → is_some (cond b p.star (star_held ps n)) ≡ true → (is_some (star_held ps n) ≡ true → is_held ps n ≡ true) → (b || is_held ps n) ≡ true
    go true k ih = refl
    go false k ih = ih k

-- where no node is needed, the cavity is held
whole_held : (ps : List Held) (op : Op) → needed (star_held ps) op ≡ None → list_all (is_held ps) (cavity_seen (star_held ps) op) ≡ true
whole_held ps op h = all_members (is_held ps) (cavity_seen (star_held ps) op)
    (λ n i. some_held n ps (not_not (is_some (star_held ps n)) (least_that-none (λ k. not (is_some (star_held ps k))) (cavity_seen (star_held ps) op) n h (in_contains n (cavity_seen (star_held ps) op) i))))

pub can_make_by : (o : Opening) (v : View) (ks : List Kept) (chunk : ℕ) (op : Op) → Knows o v → LentBy v ks → Whole ≡ need_of (needed (lent_in ks) op) → judged (lent_in ks) o.mesh.bands chunk op ≡ None → CanCommit v chunk op
can_make_by o v ks chunk op k l w j = (
  whole_held v.held op (none_needed (needed (star_held v.held) op) (w ∙ (λ i. need_of (needed (lent_is v ks l i) op)))),
  (λ i. judged (sym (lent_is v ks l) i) (k.0.opening.3 i) chunk op) ∙ j,
)

module _ (o : Opening) (v : View) (ks : List Kept) (chunk : ℕ) (op : Op) (k : Knows o v) (l : LentBy v ks) (can : CanCommit v chunk op) where
  abbrev any : Entry
  any = record { ticket = 0; chunk = chunk; op = op }

  cavity_shown : (m : Undivided) → IsMeshOf v m → (n : ℕ) → Contains (cavity_of m chunk op) n → IsShown (lent_in ks) m n
  cavity_shown m is n i = l.lends n ∙ held_shown m v.held is.pairs n ((made_patch v any can).1 m is n (in_has n (cavity_of m chunk op) i))

  ends_shown : (m : Undivided) → IsMeshOf v m → AreEndsShown (lent_in ks) m op
  ends_shown m is = (cavity_shown m is (first_end op) (end_within m chunk op (first_end op) (inl refl)), cavity_shown m is (second_end op) (end_within m chunk op (second_end op) (inr refl)))

  pub patch_told : (fresh : List Held) → ((m : Undivided) (chunk ticket : ℕ) → CanApply m record { ticket = ticket; chunk = chunk; op = op } → AreEndsShown (lent_in ks) m op → m.first_new + ticket ≤ 4294967295 → fresh ≡ patch_of (lent_in ks) 4294967295 op) → fresh ≡ fresh_of (lent_in ks) op
  patch_told fresh told = told k.0.mesh chunk o.budget
      (record { conforming = k.0.shown.conforming; fresh = λ n a. (let b = k.0.live n a in let f = k.0.shown.first_new ∙ k.0.opening.1 in omega (arith, b, f)); passes = (made_patch v any can).0 k.0.mesh k.0.shown })
      (ends_shown k.0.mesh k.0.shown)
      (let f = k.0.shown.first_new ∙ k.0.opening.1 in let s = k.0.small in omega (arith, f, s))

star_none : (m : Undivided) (n : ℕ) → (IsLive m n → ⊥) → star_of m n ≡ None
star_none m n h = go (is_some (point_of m.sites n)) h
  where
    go : (b : Bool) → (b ≡ true → ⊥) → cond {A = Option Star} b (Some record { node = n; at = point_or m n; spokes = spokes_of m n }) None ≡ None
    go true q = absurd (q refl)
    go false q = refl

find_at : (f : Held → ℕ) (hs : List Held) (n : ℕ) → ((h : Held) × Contains hs h × (f h ≡ n)) ⊎ ((h : Held) → Contains hs h → f h ≢ n)
find_at f [] n = inr (λ h i. absurd (nowhere h i))
find_at f (x ∷ xs) n = dite (ℕ_discrete (f x) n)
    (λ e. inl (x, here x xs, e))
    (λ ne. ⊎_elim
    (λ (r : (h : Held) × Contains xs h × (f h ≡ n)). inl (r.0, there r.0 x xs r.1, r.2))
    (λ (out : (h : Held) → Contains xs h → f h ≢ n). inr (λ h i. ⊎_elim (λ (q : h ≡ x). λ (z : f h ≡ n). ne (sym (ap f q) ∙ z)) (λ (j : Contains xs h). out h j) (cases h x xs i)))
    (find_at f xs n))

held_in : (old new : ℕ) (hs : List Held) (n : ℕ) → is_held (map (renamed_pair old new) hs) n ≡ true → (h : Held) × Contains hs h × (renamed old new h.node ≡ n)
held_in old new [] n e = absurd (let q : false ≡ true = e in cc (q))
held_in old new (x ∷ xs) n e = dite (ℕ_discrete (renamed old new x.node) n)
    (λ q. (x, here x xs, q))
    (λ ne. let r = held_in old new xs n (sym (ap (λ (b : Bool). b || is_held (map (renamed_pair old new) xs) n) (apart (renamed old new x.node) n ne)) ∙ e) in (r.0, there r.0 x xs r.1, r.2))

same_nodes : (old new : ℕ) (hs : List Held) → map (λ (h : Held). h.node) (map (renamed_pair old new) hs) ≡ map (λ (h : Held). renamed old new h.node) hs
same_nodes old new [] = refl
same_nodes old new (h ∷ hs) = ap (λ (l : List ℕ). renamed old new h.node ∷ l) (same_nodes old new hs)

made_there : (new : ℕ) (op : Op) → makes_node op ≡ true → Contains (made_by new op) new
made_there new (Flip a b) e = absurd (let q : false ≡ true = e in cc (q))
made_there new (Bisect a b) e = here new []
made_there new (Contract u v) e = absurd (let q : false ≡ true = e in cc (q))

only_made : (new n : ℕ) (op : Op) → In n (made_by new op) → (n ≡ new) × (makes_node op ≡ true)
only_made new n (Flip a b) i = absurd i
only_made new n (Bisect a b) (inl e) = (e, refl)
only_made new n (Bisect a b) (inr i) = absurd i
only_made new n (Contract u v) i = absurd i

-- lists that were made for an operation, put by the name of its new node over lists that were due before it
module _ (m : Undivided) (lent : ℕ → Option Star) (chunk ticket : ℕ) (op : Op) (can : CanApply m (record { ticket = ticket; chunk = chunk; op = op })) (shown : (n : ℕ) → Contains (cavity_of m chunk op) n → IsShown lent m n) (low : m.first_new + ticket ≤ 4294967295) where
  abbrev entry : Entry
  entry = record { ticket = ticket; chunk = chunk; op = op }

  abbrev name : ℕ
  name = m.first_new + ticket

  abbrev fresh : List Held
  fresh = fresh_of lent op

  ends : AreEndsShown lent m op
  ends = (shown (first_end op) (end_within m chunk op (first_end op) (inl refl)), shown (second_end op) (end_within m chunk op (second_end op) (inr refl)))

  whole : IsPatch m entry (patch_of lent name op)
  whole = patch_is_whole m lent chunk ticket op can ends shown

  renames : map (renamed_pair later_name name) fresh ≡ patch_of lent name op
  renames = patch_is_renamed m lent chunk ticket op later_name can ends shown low

  differ : AreDifferent (map (λ (h : Held). renamed later_name name h.node) fresh)
  differ = subst (λ (l : List ℕ). AreDifferent l) (sym (ap (λ (l : List Held). map (λ (h : Held). h.node) l) renames) ∙ same_nodes later_name name fresh) (rising_apart (patch_of lent name op) whole.rises)

  moved : (h : Held) → Contains fresh h → Contains (patch_of lent name op) (renamed_pair later_name name h)
  moved h i = subst (λ (l : List Held). Contains l (renamed_pair later_name name h)) renames (map-in (renamed_pair later_name name) fresh h i)

  outside : (n : ℕ) → ((h : Held) → Contains fresh h → renamed later_name name h.node ≢ n) → star_of (applied m entry) n ≡ star_of m n
  outside n out = dite (ℕ_discrete n name)
      (λ e. star_none (applied m entry) n (λ l. ⊎_elim
      (λ (k : IsLive m n). let f = can.fresh n k in absurd (omega (arith, f, e)))
      (λ (k : is_made m.first_new (entry ∷ []) n ≡ true). ⊎_elim
      (λ (k : makes m.first_new n entry ≡ true). missed (whole.made n (subst (λ (z : ℕ). Contains (made_by name op) z) (sym e) (made_there name op (and_left (makes_node op) (m.first_new + ticket == n) k)))))
      (λ (k : false ≡ true). absurd (let q : false ≡ true = k in cc (q)))
      (or_cases (makes m.first_new n entry) false k))
      (live_known m (entry ∷ []) n l))
      ∙ sym (star_none m n (λ l. let f = can.fresh n l in absurd (omega (arith, f, e)))))
      (λ ne. outside_stays m chunk ticket op can n ne (λ i. missed (whole.whole n i)))
    where
      missed : is_held (patch_of lent name op) n ≡ true → ⊥
      missed h = let r = held_in later_name name fresh n (ap (λ (l : List Held). is_held l n) renames ∙ h) in out r.0 r.1 r.2

  spread_due : SpreadPutsDue → (chunks : ℕ) (copies : ℕ → List Sharer) (n : ℕ) → copies n ≡ sharers_in chunks (star_of m n) → spread_at name (ready_of chunks fresh) copies n ≡ sharers_in chunks (star_of (applied m entry) n)
  spread_due law chunks copies n is =
      let put = law chunks name fresh copies differ in
      ⊎_elim
      (λ (r : (h : Held) × Contains fresh h × (renamed later_name name h.node ≡ n)).
      let h = r.0 in
      let agrees : option_map (renamed_star later_name name) h.star ≡ star_of (applied m entry) (renamed later_name name h.node) = whole.agrees (renamed_pair later_name name h) (moved h r.1) in
      let at : spread_at name (ready_of chunks fresh) copies (renamed later_name name h.node) ≡ sharers_in chunks (star_of (applied m entry) (renamed later_name name h.node))
      = put.changed h r.1 ∙ ap (λ (x : Option Star). sharers_in chunks x) agrees in
      subst (λ (z : ℕ). spread_at name (ready_of chunks fresh) copies z ≡ sharers_in chunks (star_of (applied m entry) z)) r.2 at)
      (λ (out : (h : Held) → Contains fresh h → renamed later_name name h.node ≢ n). put.others n out ∙ is ∙ sym (ap (λ (x : Option Star). sharers_in chunks x) (outside n out)))
      (find_at (λ (h : Held). renamed later_name name h.node) fresh n)

-- what a commit makes due is put
module _ (law : SpreadPutsDue) (o : Opening) (v w : View) (ks js ls : List Kept) (chunk t : ℕ) (op : Op) (ready : List Listed) (k : Knows o v) (l : LentBy v ks) (can : CanCommit v chunk op)
    (view : w ≡ committed v (entry_of t chunk op) (fresh_at v (entry_of 0 chunk op) t) (unborn_by v.first_new (entry_of t chunk op))) (made : Makes o v w (entry_of t chunk op))
    (one : makes_node op ≡ true → (n : ℕ) → (list_in js n ≡ cond (v.first_new + t == n) [] (list_in ks n)) × (lent_in js n ≡ cond (v.first_new + t == n) None (lent_in ks n))) (none : makes_node op ≡ false → js ≡ ks)
    (is_ready : IsReady (lent_in ks) o.mesh.chunks op ready) (puts : (n : ℕ) → list_in ls n ≡ spread_at (v.first_new + t) ready (list_in js) n) where
  abbrev mesh : Undivided
  mesh = made.mesh

  able : CanApply mesh (entry_of t chunk op)
  able = record { conforming = made.before.conforming; fresh = made.fresh; passes = (made_patch v (entry_of 0 chunk op) can).0 mesh made.before }

  pub new_low : mesh.first_new + t ≤ 4294967295
  new_low = let f = made.before.first_new in let n = made.name in let s = k.0.small in omega (arith, f, n, s)

  new_away : In (v.first_new + t) (nodes_of v) → ⊥
  new_away = made_away v mesh t made.before made.fresh l.live

  old_list : (n : ℕ) → In n (nodes_of v) → list_in js n ≡ list_in ks n
  old_list n i = go (makes_node op) refl
    where
      go : (b : Bool) → makes_node op ≡ b → list_in js n ≡ list_in ks n
      go true e = (one e n).0 ∙ ap (λ (b : Bool). cond b [] (list_in ks n)) (apart (v.first_new + t) n (λ z. new_away (subst (λ (x : ℕ). In x (nodes_of v)) (sym z) i)))
      go false e = ap (λ (x : List Kept). list_in x n) (none e)

  old_due : (n : ℕ) → In n (nodes_of v) → list_in js n ≡ sharers_in o.mesh.chunks (star_of mesh n)
  old_due n i =
      let r = in_mapped (λ (p : Held). p.node) n v.held i in
      let is : list_in ks r.0.node ≡ sharers_in v.chunks r.0.star = l.paid.due r.0 r.1 in
      old_list n i ∙ ap (λ (x : ℕ). list_in ks x) r.2 ∙ is ∙ (λ j. sharers_in (k.0.opening.2 j) (made.before.pairs r.0 r.1 j)) ∙ ap (λ (x : ℕ). sharers_in o.mesh.chunks (star_of mesh x)) (sym r.2)

  new_due : (n : ℕ) → n ≡ v.first_new + t → makes_node op ≡ true → list_in js n ≡ sharers_in o.mesh.chunks (star_of mesh n)
  new_due n e f =
      let hit : (v.first_new + t == n) ≡ true = ap (λ (x : ℕ). v.first_new + t == x) e ∙ same (v.first_new + t) in
      let gone : star_of mesh n ≡ None = star_none mesh n (λ a. let b = made.fresh n a in let g = made.before.first_new in absurd (omega (arith, b, g, e))) in
      (one f n).0 ∙ ap (λ (b : Bool). cond b [] (list_in ks n)) hit ∙ sym (ap (λ (x : Option Star). sharers_in o.mesh.chunks x) gone ∙ none_due 0 o.mesh.chunks)

  at_name : spread_at (v.first_new + t) ready (list_in js) ≡ spread_at (mesh.first_new + t) (ready_of o.mesh.chunks (fresh_of (lent_in ks) op)) (list_in js)
  at_name = λ i. spread_at (sym made.before.first_new i + t) (is_ready i) (list_in js)

  put_due : (n : ℕ) → list_in js n ≡ sharers_in o.mesh.chunks (star_of mesh n) → list_in ls n ≡ sharers_in o.mesh.chunks (star_of (applied mesh (entry_of t chunk op)) n)
  put_due n is = puts n ∙ (λ i. at_name i n) ∙ spread_due mesh (lent_in ks) chunk t op able (λ x c. cavity_shown o v ks chunk op k l can mesh made.before x c) new_low law o.mesh.chunks (list_in js) n is

  pub made_due : (p : Held) → In p w.held → list_in ls p.node ≡ sharers_in w.chunks p.star
  made_due p i =
      let j : In p (fresh_at v (entry_of 0 chunk op) t) = subst (λ (u : View). In p u.held) view i in
      let nodes : nodes_in (fresh_at v (entry_of 0 chunk op) t) ≡ made_list v.first_new (entry_of t chunk op) ++ nodes_of v = ((made_patch v (entry_of 0 chunk op) can).2 t).nodes in
      let among : In p.node (made_list v.first_new (entry_of t chunk op) ++ nodes_of v) = subst (λ (x : List ℕ). In p.node x) nodes (in_map (λ (q : Held). q.node) p (fresh_at v (entry_of 0 chunk op) t) j) in
      let before : list_in js p.node ≡ sharers_in o.mesh.chunks (star_of mesh p.node) = ⊎_elim
      (λ (h : In p.node (made_by (v.first_new + t) op)). let r = only_made (v.first_new + t) p.node op h in new_due p.node r.0 r.1)
      (λ (h : In p.node (nodes_of v)). old_due p.node h)
      (in_either p.node (made_list v.first_new (entry_of t chunk op)) (nodes_of v) among) in
      put_due p.node before ∙ (λ a. sharers_in (sym (ap (λ (u : View). u.chunks) view ∙ k.0.opening.2) a) (sym (made.after.pairs p i) a))

-- so is a view whose new node was born
pub born_paid : (v : View) (ks : List Kept) → ((p : Held) → In p v.held → list_in ks p.node ≡ sharers_in v.chunks p.star) → (u : View) → u ≡ record v { unborn = None } → PaidBy u ks
born_paid v ks d u e = subst (λ (x : View). PaidBy x ks) (sym e) (record { clear = refl; due = d })

-- what is seen of a bisection, whose ends are lent, is so on each mesh that the view may be of
pub seen_by : (o : Opening) (v : View) (ks : List Kept) (chunk a b : ℕ) (x : Option Cond) → Knows o v → LentBy v ks → is_some (lent_in ks a) ≡ true → is_some (lent_in ks b) ≡ true → judged (lent_in ks) o.mesh.bands chunk (Bisect a b) ≡ x → IsViewJudged v chunk (Bisect a b) x
seen_by o v ks chunk a b x k l e f j = seen_judged v chunk (Bisect a b) x (
  (λ i. held a e i && (held b f i && true)),
  (λ i. judged (sym (lent_is v ks l) i) (k.0.opening.3 i) chunk (Bisect a b)) ∙ j,
)
  where
    held : (n : ℕ) → is_some (lent_in ks n) ≡ true → is_held v.held n ≡ true
    held n g = some_held n v.held (sym (ap (λ (x : Option Star). is_some x) (l.lends n)) ∙ g)

-- the last list is put first
spread_last : (name : ℕ) (ls : List Listed) (l : Listed) (f g : ℕ → List Sharer) (n : ℕ) → g n ≡ put_at name l f n → spread_at name ls g n ≡ spread_at name (ls ++ l ∷ []) f n
spread_last name [] l f g n e = e
spread_last name (x ∷ xs) l f g n e = ap (λ (y : List Sharer). cond (n == named_node name x) (named_list name x) y) (spread_last name xs l f g n e)

pub one_put : (name : ℕ) (all ls : List Listed) (l : Listed) (f g : ℕ → List Sharer) (whole : ℕ → List Sharer) → all ≡ ls ++ l ∷ [] → ((n : ℕ) → g n ≡ put_at name l f n) → ((n : ℕ) → spread_at name all f n ≡ whole n) → (n : ℕ) → spread_at name ls g n ≡ whole n
one_put name all ls l f g whole is put kept n = spread_last name ls l f g n (put n) ∙ ap (λ (x : List Listed). spread_at name x f n) (sym is) ∙ kept n

pub no_lists : (ls : List Listed) → length ls ≡ 0 → ls ≡ []
no_lists [] e = refl
no_lists (x ∷ xs) e = absurd (omega (arith, e))

-- so it is of a seat, once all lists are put
pub make_paid : SpreadPutsDue → (o : Opening) (s w u : BoardSeat) (chunk t name : ℕ) (op : Op) (ready : List Listed) → Knows o s.seat.me.0 → IsLending s → CanCommit s.seat.me.0 chunk op → TellsCommit o t chunk op s w → IsReady (lent_in s.kept.items) o.mesh.chunks op ready
    → u.seat.me.0 ≡ w.seat.me.0 → name ≡ s.seat.me.0.first_new + t → ((n : ℕ) → list_in u.kept.items n ≡ spread_at name ready (list_in w.kept.items) n) → (p : Held) → In p u.seat.me.0.held → list_in u.kept.items p.node ≡ sharers_in u.seat.me.0.chunks p.star
make_paid law o s w u chunk t name op ready k l can told is same named puts = subst (λ (x : View). (p : Held) → In p x.held → list_in u.kept.items p.node ≡ sharers_in x.chunks p.star) (sym same)
    (made_due law o s.seat.me.0 w.seat.me.0 s.kept.items w.kept.items u.kept.items chunk t op ready k l can told.view told.makes told.made told.same is (λ n. puts n ∙ ap (λ (x : ℕ). spread_at x ready (list_in w.kept.items) n) named))
