-- The stars after an operation that passes.
use Rattle.std.proofs.Common.{◌≡◌, ◌≢◌, ℕ, zero, suc, ◌+◌, ◌<◌, Bool, true, false, ◌==◌, ◌||◌, List, [], ◌∷◌, ◌++◌, length, map, refl, sym, ap, ◌∙◌, subst, ⊎_elim, ◌⊎◌, inl, inr, arith}
use Rattle.std.specs.Prelude.{Option, Some, None, Contains}
use Rattle.std.specs.Option.{option_map}
use Rattle.std.proofs.Props.{props}
use Rattle.std.proofs.Math.Logic.{∥∥₁_elim, ∥∥₁_map}
use mathlib.Core.Logic.{dite}
use native.Mathlib.Decide.{ℕ_discrete}
use Rattle.pf_model.specs.declared.Op.{Op}
use Rattle.pf_model.specs.declared.Op.TheVariants.{Flip, Bisect, Contract}
use Rattle.pf_model.specs.declared.Entry.{Entry}
use Rattle.pf_model.specs.Rising.{AreDifferent}
use Rattle.pf_model.specs.Mesh.{Undivided}
use Rattle.pf_model.specs.Conforming.{IsConforming, IsLive}
use Rattle.pf_model.specs.Applied.{applied}
use Rattle.pf_model.specs.Stars.{Star, star_of}
use Rattle.pf_model.specs.Ends.{first_end, second_end}
use Rattle.pf_model.proofs.Members.{nowhere, cases, here, there}
use Rattle.pf_model.proofs.Totals.{map-in, map-means}
use Rattle.pf_star_model.specs.Lent.{Held, is_held, star_held, IsShown}
use Rattle.pf_star_model.specs.Cavity.{cavity_of}
use Rattle.pf_star_model.specs.Patched.{patch_of, made_by, renamed, renamed_star, renamed_pair}
use Rattle.pf_star_model.specs.Laws.{CanApply, AreEndsShown, IsPatch}
use Rattle.pf_star_model.proofs.Operations.{patch_is_whole, outside_stays}
use Rattle.pf_star_model.proofs.Renames.{patch_is_renamed}
use Rattle.pf_core_model.specs.declared.sharer.Sharer.{Sharer}
use Rattle.pf_core_model.specs.Lists.{In}
use Rattle.pf_core_model.specs.Cavity.{makes_node, makes, is_made}
use Rattle.pf_core_model.specs.Sharers.{kept_in, sharers_in}
use Rattle.pf_core_model.specs.Core.{Opening, names_of, mesh_after}
use Rattle.pf_core_model.proofs.Replays.{conforms_after, fresh_after, replayed_more, replayed_chunks, replayed_first_new, and_left, or_cases}
use Rattle.pf_core_model.proofs.Told.{live_known}
use Rattle.pf_core_model.proofs.Sharing.{none_due, kept_is, star_shared}
use Rattle.pf_ghost.specs.declared.ready.Listed.{Listed}
use Rattle.pf_ghost.specs.Prepared.{ready_of, listed_of}
use Rattle.pf_ghost.specs.Spread.{later_name, named_node, spread_at, SpreadPutsDue}
use Rattle.pf_holder.specs.Facts.{IsJudged, HoldsCavity}
use Rattle.pf_holder.specs.Prepared.{fresh_of, IsReady}
use Rattle.pf_holder.proofs.Held.{held_shown, end_within}
use Rattle.pf_holder.proofs.Patches.{rising_apart}
use Rattle.pf_plain.specs.Stars.{star_by, spread_by}
use Rattle.pf_plain.specs.Plains.{IsPlain, AreStars, pairs_at}
use Rattle.pf_plain.specs.PlainLaws.{seen_now, commit_made, pairs_true, nodes_same, not_live}
use Rattle.pf_plain.proofs.Placed.{eq_false, spread_kept}

-- the keeper's copy of a star is the star
pub kept_of : (m : Undivided) (n : ℕ) → IsConforming m → kept_in (sharers_in m.chunks (star_of m n)) ≡ star_of m n
kept_of m n c = go (star_of m n) refl
  where
    go : (x : Option Star) → star_of m n ≡ x → kept_in (sharers_in m.chunks x) ≡ x
    go None e = ap kept_in (none_due 0 m.chunks)
    go (Some s) e = let k = star_shared m n s c e in kept_is m.chunks k.0 s k.1 k.2

-- a pair with this node is among these, or none is
find_at : (f : Held → ℕ) (hs : List Held) (n : ℕ) → ((h : Held) × Contains hs h × (f h ≡ n)) ⊎ ((h : Held) → Contains hs h → f h ≢ n)
find_at f [] n = inr (λ h i. absurd (nowhere h i))
find_at f (x ∷ xs) n = dite (ℕ_discrete (f x) n)
    (λ e. inl (x, here x xs, e))
    (λ ne. ⊎_elim
    (λ (r : (h : Held) × Contains xs h × (f h ≡ n)). inl (r.0, there r.0 x xs r.1, r.2))
    (λ (out : (h : Held) → Contains xs h → f h ≢ n). inr (λ h i. ⊎_elim (λ (q : h ≡ x). λ (z : f h ≡ n). ne (sym (ap f q) ∙ z)) (λ (j : Contains xs h). out h j) (cases h x xs i)))
    (find_at f xs n))

-- a pair that is held is the new form of one of these
held_in : (old new : ℕ) (hs : List Held) (n : ℕ) → is_held (map (renamed_pair old new) hs) n ≡ true → (h : Held) × Contains hs h × (renamed old new h.node ≡ n)
held_in old new [] n e = absurd (let q : false ≡ true = e in cc)
held_in old new (x ∷ xs) n e = dite (ℕ_discrete (renamed old new x.node) n)
    (λ q. (x, here x xs, q))
    (λ ne. let r = held_in old new xs n (sym (ap (λ (b : Bool). b || is_held (map (renamed_pair old new) xs) n) (eq_false (renamed old new x.node) n ne)) ∙ e) in (r.0, there r.0 x xs r.1, r.2))

same_nodes : (old new : ℕ) (hs : List Held) → map (λ (h : Held). h.node) (map (renamed_pair old new) hs) ≡ map (λ (h : Held). renamed old new h.node) hs
same_nodes old new [] = refl
same_nodes old new (h ∷ hs) = ap (λ (l : List ℕ). renamed old new h.node ∷ l) (same_nodes old new hs)

made_there : (new : ℕ) (op : Op) → makes_node op ≡ true → Contains (made_by new op) new
made_there new (Flip a b) e = absurd (let q : false ≡ true = e in cc)
made_there new (Bisect a b) e = here new []
made_there new (Contract u v) e = absurd (let q : false ≡ true = e in cc)

only_made : (new n : ℕ) (op : Op) → Contains (made_by new op) n → n ≡ new
only_made new n (Flip a b) i = absurd (nowhere n i)
only_made new n (Bisect a b) i = ⊎_elim (λ (e : n ≡ new). e) (λ (j : Contains [] n). absurd (nowhere n j)) (cases n new [] i)
only_made new n (Contract u v) i = absurd (nowhere n i)

module _ (o : Opening) (log : List Entry) (nodes : List ℕ) (left chunk : ℕ) (op : Op) (p : IsPlain o log nodes (suc left)) (j : IsJudged o.mesh.bands (pairs_at (mesh_after o log) nodes) chunk op None) (c : HoldsCavity o.mesh.bands (pairs_at (mesh_after o log) nodes) chunk op) where
  abbrev now : Undivided
  now = mesh_after o log

  abbrev lent : ℕ → Option Star
  lent = star_held (pairs_at now nodes)

  abbrev entry : Entry
  entry = record { ticket = length log; chunk = chunk; op = op }

  abbrev name : ℕ
  name = now.first_new + length log

  abbrev fresh : List Held
  fresh = fresh_of lent op

  abbrev after : Undivided
  after = applied now entry

  can : CanApply now entry
  can = record { conforming = conforms_after o log p.conforming p.fresh p.legal; fresh = fresh_after o log p.conforming p.fresh p.legal; passes = j now (seen_now o log nodes (suc left) p) }

  within : (n : ℕ) → Contains (cavity_of now chunk op) n → In n nodes
  within n i = subst (λ (l : List ℕ). In n l) (nodes_same now nodes) (c now (seen_now o log nodes (suc left) p) n i)

  shown : (n : ℕ) → Contains (cavity_of now chunk op) n → IsShown lent now n
  shown n i = held_shown now (pairs_at now nodes) (pairs_true now nodes) n (c now (seen_now o log nodes (suc left) p) n i)

  ends : AreEndsShown lent now op
  ends = (shown (first_end op) (end_within now chunk op (first_end op) (inl refl)), shown (second_end op) (end_within now chunk op (second_end op) (inr refl)))

  whole : IsPatch now entry (patch_of lent name op)
  whole = patch_is_whole now lent chunk (length log) op can ends shown

  low : name < names_of o
  low = let f = replayed_first_new o.mesh log in let b = p.budget in omega (arith, f, b)

  renames : map (renamed_pair later_name name) fresh ≡ patch_of lent name op
  renames = patch_is_renamed now lent chunk (length log) op later_name can ends shown (let l = low in let s = p.small in omega (arith, l, s))

  apart : AreDifferent (map (λ (h : Held). renamed later_name name h.node) fresh)
  apart = subst (λ (l : List ℕ). AreDifferent l) (sym (ap (λ (l : List Held). map (λ (h : Held). h.node) l) renames) ∙ same_nodes later_name name fresh) (rising_apart (patch_of lent name op) whole.rises)

  moved : (h : Held) → Contains fresh h → Contains (patch_of lent name op) (renamed_pair later_name name h)
  moved h i = subst (λ (l : List Held). Contains l (renamed_pair later_name name h)) renames (map-in (renamed_pair later_name name) fresh h i)

  -- each place is a name
  place_low : (h : Held) → Contains fresh h → renamed later_name name h.node < names_of o
  place_low h i = ⊎_elim
      (λ (k : Contains (cavity_of now chunk op) (renamed later_name name h.node)). p.near (renamed later_name name h.node) (within (renamed later_name name h.node) k))
      (λ (k : Contains (made_by name op) (renamed later_name name h.node)). let e = only_made name (renamed later_name name h.node) op k in let l = low in omega (arith, e, l))
      (whole.only (renamed_pair later_name name h) (moved h i))

  -- a node that isn't changed keeps its star
  outside : (n : ℕ) → ((h : Held) → Contains fresh h → renamed later_name name h.node ≢ n) → star_of after n ≡ star_of now n
  outside n out = dite (ℕ_discrete n name)
      (λ e. not_live after n (λ l. ⊎_elim
      (λ (k : IsLive now n). let f = can.fresh n k in absurd (omega (arith, f, e)))
      (λ (k : is_made now.first_new (entry ∷ []) n ≡ true). ⊎_elim
      (λ (k : makes now.first_new n entry ≡ true). missed (whole.made n (subst (λ (z : ℕ). Contains (made_by name op) z) (sym e) (made_there name op (and_left (makes_node op) (now.first_new + length log == n) k)))))
      (λ (k : false ≡ true). absurd (let q : false ≡ true = k in cc))
      (or_cases (makes now.first_new n entry) false k))
      (live_known now (entry ∷ []) n l))
      ∙ sym (not_live now n (λ l. let f = can.fresh n l in absurd (omega (arith, f, e)))))
      (λ ne. outside_stays now chunk (length log) op can n ne (λ i. missed (whole.whole n i)))
    where
      missed : is_held (patch_of lent name op) n ≡ true → ⊥
      missed h = let r = held_in later_name name fresh n (ap (λ (l : List Held). is_held l n) renames ∙ h) in out r.0 r.1 r.2

  abbrev copies : ℕ → List Sharer
  copies n = sharers_in o.mesh.chunks (star_of now n)

  chunks_after : after.chunks ≡ o.mesh.chunks
  chunks_after = replayed_chunks now (entry ∷ []) ∙ replayed_chunks o.mesh log

  after_conforms : IsConforming after
  after_conforms = subst (λ (m : Undivided). IsConforming m) (replayed_more o.mesh log entry) (let q = commit_made o log nodes left chunk op p j in conforms_after o (log ++ entry ∷ []) q.conforming q.fresh q.legal)

  kept_after : (n : ℕ) → kept_in (sharers_in o.mesh.chunks (star_of after n)) ≡ star_of after n
  kept_after n = subst (λ (k : ℕ). kept_in (sharers_in k (star_of after n)) ≡ star_of after n) chunks_after (kept_of after n after_conforms)

  kept_now : (n : ℕ) → kept_in (copies n) ≡ star_of now n
  kept_now n = subst (λ (k : ℕ). kept_in (sharers_in k (star_of now n)) ≡ star_of now n) (replayed_chunks o.mesh log) (kept_of now n can.conforming)

  -- what was spread shows the mesh after
  spread_shows : SpreadPutsDue → (n : ℕ) → kept_in (spread_at name (ready_of o.mesh.chunks fresh) copies n) ≡ star_of after n
  spread_shows due n =
      let put = due o.mesh.chunks name fresh copies apart in
      ⊎_elim
      (λ (r : (h : Held) × Contains fresh h × (renamed later_name name h.node ≡ n)).
      let h = r.0 in
      let agrees : option_map (renamed_star later_name name) h.star ≡ star_of after (renamed later_name name h.node) = whole.agrees (renamed_pair later_name name h) (moved h r.1) in
      let at : kept_in (spread_at name (ready_of o.mesh.chunks fresh) copies (renamed later_name name h.node)) ≡ star_of after (renamed later_name name h.node)
      = ap kept_in (put.changed h r.1) ∙ ap (λ (x : Option Star). kept_in (sharers_in o.mesh.chunks x)) agrees ∙ kept_after (renamed later_name name h.node) in
      subst (λ (k : ℕ). kept_in (spread_at name (ready_of o.mesh.chunks fresh) copies k) ≡ star_of after k) r.2 at)
      (λ (out : (h : Held) → Contains fresh h → renamed later_name name h.node ≢ n). ap kept_in (put.others n out) ∙ kept_now n ∙ sym (outside n out))
      (find_at (λ (h : Held). renamed later_name name h.node) fresh n)

  stars_after : SpreadPutsDue → (stars stars' : List (Option Star)) → AreStars stars now → ((n : ℕ) → star_by stars' n ≡ spread_by name (ready_of o.mesh.chunks fresh) (star_by stars) n) → AreStars stars' after
  stars_after due stars stars' are put n = put n ∙ spread_kept name (ready_of o.mesh.chunks fresh) copies (star_by stars) n (are n ∙ sym (kept_now n)) ∙ spread_shows due n

  ready_low : (l : Listed) → Contains (ready_of o.mesh.chunks fresh) l → named_node name l < names_of o
  ready_low l i = let r = map-means (listed_of o.mesh.chunks) fresh l i in subst (λ (x : Listed). named_node name x < names_of o) r.2 (place_low r.0 r.1)

-- the same from what a struct keeps
pub spread_plain : (o : Opening) (log log' : List Entry) (nodes : List ℕ) (allowance chunk name : ℕ) (op : Op) (ready : List Listed) (stars stars' : List (Option Star)) → SpreadPutsDue → 0 < allowance → name ≡ o.mesh.first_new + length log → log' ≡ log ++ record { ticket = length log; chunk = chunk; op = op } ∷ [] → IsJudged o.mesh.bands (pairs_at (mesh_after o log) nodes) chunk op None
    → HoldsCavity o.mesh.bands (pairs_at (mesh_after o log) nodes) chunk op → IsReady (star_held (pairs_at (mesh_after o log) nodes)) o.mesh.chunks op ready → ((n : ℕ) → star_by stars' n ≡ spread_by name ready (star_by stars) n) → ∥ IsPlain o log nodes allowance ∥₁ → ∥ AreStars stars (mesh_after o log) ∥₁ → ∥ AreStars stars' (mesh_after o log') ∥₁
spread_plain o log log' nodes zero chunk name op ready stars stars' due rich e f j c r put p are = absurd (omega (arith, rich))
spread_plain o log log' nodes (suc left) chunk name op ready stars stars' due rich e f j c r put p are =
    ∥∥₁_elim p (hlevel props) (λ (y : IsPlain o log nodes (suc left)). ∥∥₁_map are (λ (a : AreStars stars (mesh_after o log)).
    let named : name ≡ (mesh_after o log).first_new + length log = e ∙ ap (λ (k : ℕ). k + length log) (sym (replayed_first_new o.mesh log)) in
    let put' : (n : ℕ) → star_by stars' n ≡ spread_by ((mesh_after o log).first_new + length log) (ready_of o.mesh.chunks (fresh_of (star_held (pairs_at (mesh_after o log) nodes)) op)) (star_by stars) n = λ n. put n ∙ (λ i. spread_by (named i) (r i) (star_by stars) n) in
    subst (λ (m : Undivided). AreStars stars' m) (sym (ap (λ (l : List Entry). mesh_after o l) f ∙ replayed_more o.mesh log record { ticket = length log; chunk = chunk; op = op }))
    (stars_after o log nodes left chunk op y j c due stars stars' a put')))

pub places_low : (o : Opening) (log : List Entry) (nodes : List ℕ) (allowance chunk name : ℕ) (op : Op) (ready : List Listed) → 0 < allowance → name ≡ o.mesh.first_new + length log → IsJudged o.mesh.bands (pairs_at (mesh_after o log) nodes) chunk op None → HoldsCavity o.mesh.bands (pairs_at (mesh_after o log) nodes) chunk op → IsReady (star_held (pairs_at (mesh_after o log) nodes)) o.mesh.chunks op ready
    → ∥ IsPlain o log nodes allowance ∥₁ → (l : Listed) → Contains ready l → named_node name l < names_of o
places_low o log nodes zero chunk name op ready rich e j c r p l i = absurd (omega (arith, rich))
places_low o log nodes (suc left) chunk name op ready rich e j c r p l i =
    ∥∥₁_elim p (hlevel props) (λ (y : IsPlain o log nodes (suc left)).
    let named : name ≡ (mesh_after o log).first_new + length log = e ∙ ap (λ (k : ℕ). k + length log) (sym (replayed_first_new o.mesh log)) in
    subst (λ (k : ℕ). named_node k l < names_of o) (sym named) (ready_low o log nodes left chunk op y j c l (subst (λ (x : List Listed). Contains x l) r i)))
