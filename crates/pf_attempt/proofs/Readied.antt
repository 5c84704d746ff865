-- What is prepared for an operation that passes, and whose cavity is held: one conforming mesh agrees with what is held, and it can be
-- applied there.
use Rattle.std.proofs.Common.{◌≡◌, ◌≢◌, ℕ, suc, ◌+◌, ◌<◌, ◌≤◌, List, [], ◌∷◌, length, refl, sym, ◌∙◌, ap, subst, Bool, true, false, inl, inr, arith}
use Rattle.std.specs.Prelude.{Contains, Option, Some, None, is_some, map}
use Rattle.std.specs.Option.{option_map}
use Rattle.std.proofs.Props.{props}
use Rattle.std.proofs.Math.Logic.{∥∥₁_elim}
use Rattle.pf_model.specs.declared.Band.{Band}
use Rattle.pf_model.specs.declared.Spoke.{Spoke}
use Rattle.pf_model.specs.declared.Op.{Op}
use Rattle.pf_model.specs.declared.Entry.{Entry}
use Rattle.pf_model.specs.Ends.{first_end, second_end}
use Rattle.pf_model.specs.Mesh.{Undivided}
use Rattle.pf_model.specs.Conforming.{IsConforming}
use Rattle.pf_model.specs.Applied.{applied}
use Rattle.pf_model.specs.Stars.{Star, star_of, spokes_of}
use Rattle.pf_model.proofs.Members.{nowhere}
use Rattle.pf_model.proofs.Totals.{map-in}
use Rattle.pf_model.proofs.Triangles.{tri_of-owner}
use Rattle.pf_model.proofs.Spokes.{spokes-means}
use Rattle.pf_model.proofs.ReplayKeeps.{applied_conforms}
use Rattle.pf_star_model.specs.Lent.{Held, star_held, spokes_in, IsShown}
use Rattle.pf_star_model.specs.Cavity.{cavity_of}
use Rattle.pf_star_model.specs.Patched.{patch_of, renamed, renamed_spoke, renamed_star, renamed_pair}
use Rattle.pf_star_model.specs.Laws.{CanApply, AreEndsShown, IsPatch}
use Rattle.pf_star_model.proofs.Shown.{star_parts}
use Rattle.pf_star_model.proofs.Operations.{patch_is_whole}
use Rattle.pf_star_model.proofs.Renames.{patch_is_renamed}
use Rattle.pf_core_model.specs.Lists.{In}
use Rattle.pf_core_model.specs.Core.{Opening, nodes_in}
use Rattle.pf_core_model.proofs.Replays.{replayed_chunks}
use Rattle.pf_ghost.specs.Prepared.{AreOwnersBelow}
use Rattle.pf_holder.specs.Facts.{AreSeen, IsJudged, HoldsCavity}
use Rattle.pf_holder.specs.Prepared.{fresh_of}
use Rattle.pf_holder.proofs.Held.{held_shown, lent_held, end_within}
use Rattle.pf_attempt.specs.Stages.{CanMake}

-- the operation can be applied on a mesh that agrees, with a ticket that is as great as any
can_apply : (o : Opening) (ps : List Held) (chunk : ℕ) (op : Op) (a : AreSeen o ps) → IsJudged o.mesh.bands ps chunk op None → CanApply a.mesh (record { ticket = o.budget; chunk = chunk; op = op })
can_apply o ps chunk op a j = record { conforming = a.seen.conforming; fresh = λ n l. (let k = a.live n l in let f = a.first_new in omega (arith, k, f)); passes = j a.mesh a.seen }

name_low : (o : Opening) (ps : List Held) (a : AreSeen o ps) → a.mesh.first_new + o.budget ≤ 4294967295
name_low o ps a = let f = a.first_new in let s = a.small in omega (arith, f, s)

node_shown : (o : Opening) (ps : List Held) (chunk : ℕ) (op : Op) (a : AreSeen o ps) → HoldsCavity o.mesh.bands ps chunk op → (n : ℕ) → Contains (cavity_of a.mesh chunk op) n → IsShown (star_held ps) a.mesh n
node_shown o ps chunk op a c n i = held_shown a.mesh ps a.seen.shown n (c a.mesh a.seen n i)

both_shown : (o : Opening) (ps : List Held) (chunk : ℕ) (op : Op) (a : AreSeen o ps) → HoldsCavity o.mesh.bands ps chunk op → AreEndsShown (star_held ps) a.mesh op
both_shown o ps chunk op a c = (node_shown o ps chunk op a c (first_end op) (end_within a.mesh chunk op (first_end op) (inl refl)), node_shown o ps chunk op a c (second_end op) (end_within a.mesh chunk op (second_end op) (inr refl)))

-- what was patched is the patch
pub patch_told : (o : Opening) (ps : List Held) (chunk : ℕ) (op : Op) (v : List Held) → ∥ AreSeen o ps ∥₁ → IsJudged o.mesh.bands ps chunk op None → HoldsCavity o.mesh.bands ps chunk op
    → ((m : Undivided) (chunk ticket : ℕ) → CanApply m (record { ticket = ticket; chunk = chunk; op = op }) → AreEndsShown (star_held ps) m op → m.first_new + ticket ≤ 4294967295 → v ≡ patch_of (star_held ps) 4294967295 op) → v ≡ fresh_of (star_held ps) op
patch_told o ps chunk op v a j c told = ∥∥₁_elim a (hlevel props) (λ (x : AreSeen o ps). told x.mesh chunk o.budget (can_apply o ps chunk op x j) (both_shown o ps chunk op x c) (name_low o ps x))

-- the owners in a star of a conforming mesh are chunks of the mesh
owner_below : (m : Undivided) → IsConforming m → (n : ℕ) (star : Star) → star_of m n ≡ Some star → (s : Spoke) → Contains star.spokes s → s.owner < m.chunks
owner_below m ok n star e s i =
    let here_too = subst (λ (ss : List Spoke). Contains ss s) (star_parts m n star e).spokes i in
    subst (λ (k : ℕ). k < m.chunks) (tri_of-owner n s.right s.left s.owner) (ok.owned _ (spokes-means m ok n s here_too))

old_below : (o : Opening) (ps : List Held) (a : AreSeen o ps) (n : ℕ) (s : Spoke) → Contains (spokes_in (star_held ps n)) s → s.owner < o.mesh.chunks
old_below o ps a n s i = go (star_held ps n) refl i
  where
    go : (x : Option Star) → star_held ps n ≡ x → Contains (spokes_in x) s → s.owner < o.mesh.chunks
    go None e k = absurd (nowhere s k)
    go (Some star) e k =
        let held : In n (nodes_in ps) = lent_held ps n (ap (λ (x : Option Star). is_some x) e) in
        let shown : star_of a.mesh n ≡ Some star = sym (held_shown a.mesh ps a.seen.shown n held) ∙ e in
        subst (λ (c : ℕ). s.owner < c) a.chunks (owner_below a.mesh a.seen.conforming n star shown s k)

after_below : (o : Opening) (ps : List Held) (chunk : ℕ) (op : Op) (a : AreSeen o ps) → IsJudged o.mesh.bands ps chunk op None → (star : Star) (n : ℕ) → star_of (applied a.mesh (record { ticket = o.budget; chunk = chunk; op = op })) n ≡ Some star
    → (s : Spoke) → Contains star.spokes s → s.owner < o.mesh.chunks
after_below o ps chunk op a j star n e s i =
    let can = can_apply o ps chunk op a j in
    let m : Undivided = applied a.mesh (record { ticket = o.budget; chunk = chunk; op = op }) in
    let ok : IsConforming m = applied_conforms a.mesh chunk o.budget op can.conforming can.fresh can.passes in
    subst (λ (c : ℕ). s.owner < c) (replayed_chunks a.mesh (record { ticket = o.budget; chunk = chunk; op = op } ∷ []) ∙ a.chunks) (owner_below m ok n star e s i)

new_below : (o : Opening) (ps : List Held) (chunk : ℕ) (op : Op) (a : AreSeen o ps) → IsJudged o.mesh.bands ps chunk op None → HoldsCavity o.mesh.bands ps chunk op → (h : Held) → Contains (fresh_of (star_held ps) op) h → (s : Spoke) → Contains (spokes_in h.star) s
    → s.owner < o.mesh.chunks
new_below o ps chunk op a j c h i s k = go h.star refl k
  where
    name : ℕ
    name = a.mesh.first_new + o.budget

    whole : IsPatch a.mesh (record { ticket = o.budget; chunk = chunk; op = op }) (patch_of (star_held ps) name op)
    whole = patch_is_whole a.mesh (star_held ps) chunk o.budget op (can_apply o ps chunk op a j) (both_shown o ps chunk op a c) (node_shown o ps chunk op a c)

    same : map (renamed_pair 4294967295 name) (patch_of (star_held ps) 4294967295 op) ≡ patch_of (star_held ps) name op
    same = patch_is_renamed a.mesh (star_held ps) chunk o.budget op 4294967295 (can_apply o ps chunk op a j) (both_shown o ps chunk op a c) (node_shown o ps chunk op a c) (name_low o ps a)

    moved : Contains (patch_of (star_held ps) name op) (renamed_pair 4294967295 name h)
    moved = subst (λ (l : List Held). Contains l (renamed_pair 4294967295 name h)) same (map-in (renamed_pair 4294967295 name) (patch_of (star_held ps) 4294967295 op) h i)

    go : (x : Option Star) → h.star ≡ x → Contains (spokes_in x) s → s.owner < o.mesh.chunks
    go None e q = absurd (nowhere s q)
    go (Some star) e q =
        let there : star_of (applied a.mesh (record { ticket = o.budget; chunk = chunk; op = op })) (renamed 4294967295 name h.node) ≡ Some (renamed_star 4294967295 name star)
        = sym (whole.agrees (renamed_pair 4294967295 name h) moved) ∙ ap (option_map (renamed_star 4294967295 name)) e in
        after_below o ps chunk op a j (renamed_star 4294967295 name star) (renamed 4294967295 name h.node) there (renamed_spoke 4294967295 name s) (map-in (renamed_spoke 4294967295 name) star.spokes s q)

-- each owner in the stars of a patch, and in those before, is a chunk
pub owners_told : (o : Opening) (ps : List Held) (chunk : ℕ) (op : Op) → ∥ AreSeen o ps ∥₁ → IsJudged o.mesh.bands ps chunk op None → HoldsCavity o.mesh.bands ps chunk op → AreOwnersBelow (star_held ps) o.mesh.chunks (fresh_of (star_held ps) op)
owners_told o ps chunk op a j c h i = ((λ s k. ∥∥₁_elim a (hlevel props) (λ (x : AreSeen o ps). new_below o ps chunk op x j c h i s k)), (λ s k. ∥∥₁_elim a (hlevel props) (λ (x : AreSeen o ps). old_below o ps x h.node s k)))

-- the same by what is lent
pub patch_is : (o : Opening) (ps : List Held) (lent : ℕ → Option Star) (op : Op) (v : List Held) → lent ≡ star_held ps → ∥ AreSeen o ps ∥₁ → CanMake o.mesh.bands ps op
    → ((m : Undivided) (chunk ticket : ℕ) → CanApply m (record { ticket = ticket; chunk = chunk; op = op }) → AreEndsShown lent m op → m.first_new + ticket ≤ 4294967295 → v ≡ patch_of lent 4294967295 op) → v ≡ fresh_of lent op
patch_is o ps lent op v e a k = subst (λ (f : ℕ → Option Star). ((m : Undivided) (chunk ticket : ℕ) → CanApply m (record { ticket = ticket; chunk = chunk; op = op }) → AreEndsShown f m op → m.first_new + ticket ≤ 4294967295 → v ≡ patch_of f 4294967295 op) → v ≡ fresh_of f op) (sym e) (patch_told o ps k.0 op v a k.1 k.2)

pub owners_are : (o : Opening) (ps : List Held) (lent : ℕ → Option Star) (op : Op) → lent ≡ star_held ps → ∥ AreSeen o ps ∥₁ → CanMake o.mesh.bands ps op → AreOwnersBelow lent o.mesh.chunks (fresh_of lent op)
owners_are o ps lent op e a k = subst (λ (f : ℕ → Option Star). AreOwnersBelow f o.mesh.chunks (fresh_of f op)) (sym e) (owners_told o ps k.0 op a k.1 k.2)
