use Rattle.std.proofs.Common.{◌≡◌, ◌∙◌, ◌++◌, ℕ, ◌<◌, List, ap, length, subst, sym, arith, Vec, Global}
use Rattle.pf_assemble.specs.Placed.{row_at, is_owned_at, is_ghost_at, is_sharer_at}
use Rattle.pf_assemble.specs.Rows.{taken, AreBelow}
use Rattle.pf_assemble.proofs.ByPlaces.{text-placed}
use Rattle.pf_assemble.proofs.Filling.{row-taken, taken-below}
use Rattle.pf_assemble.proofs.chunks.put_listed.Goals as goal

pub put_part-requires-clause-nodes : goal.put_part-requires-clause-nodes
put_part-requires-clause-nodes c =
    let r = c.requires.lists in
    let p = is_sharer_at c.args.stars.now in
    let row = c.row_of-nodes.ensures ∙ (ap (λ (l : List (Vec ℕ Global)). row_at l c.args.chunk) c.deref.ensures.value ∙ row-taken c.args.lists.now.nodes.items p (length c.args.stars.now) c.args.chunk c.index.result.now r.nodes_is (subst (λ (n : ℕ). c.args.chunk < n) (sym r.nodes_len) c.requires.within)) in
    subst (AreBelow (length c.args.stars.now)) (sym row) (taken-below (p c.args.chunk) (length c.args.stars.now))

pub put_part-requires-clause-ghosts : goal.put_part-requires-clause-ghosts
put_part-requires-clause-ghosts c =
    let r = c.requires.lists in
    let p = is_ghost_at c.args.tris.now in
    let row = c.row_of-ghosts.ensures ∙ (ap (λ (l : List (Vec ℕ Global)). row_at l c.args.chunk) c.deref-2.ensures.value ∙ row-taken c.args.lists.now.ghosts.items p (length c.args.tris.now) c.args.chunk c.index.result.now r.ghosts_is (subst (λ (n : ℕ). c.args.chunk < n) (sym r.ghosts_len) c.requires.within)) in
    subst (AreBelow (length c.args.tris.now)) (sym row) (taken-below (p c.args.chunk) (length c.args.tris.now))

pub returns : goal.returns
returns c =
    let r = c.requires.lists in
    let stars = c.args.stars.now in
    let tris = c.args.tris.now in
    let k = c.args.chunk in
    let lists = c.args.lists.now in
    let some = c.index.result.now in
    let nodes = c.row_of-nodes.ensures ∙ (ap (λ (l : List (Vec ℕ Global)). row_at l k) c.deref.ensures.value ∙ row-taken lists.nodes.items (is_sharer_at stars) (length stars) k some r.nodes_is (subst (λ (n : ℕ). k < n) (sym r.nodes_len) c.requires.within)) in
    let ghosts = c.row_of-ghosts.ensures ∙ (ap (λ (l : List (Vec ℕ Global)). row_at l k) c.deref-2.ensures.value ∙ row-taken lists.ghosts.items (is_ghost_at tris) (length tris) k some r.ghosts_is (subst (λ (n : ℕ). k < n) (sym r.ghosts_len) c.requires.within)) in
    let owned : c.len-owned.result ≡ length (taken (is_owned_at tris k) (length tris)) =
    (let long = some.ok in let e : c.len-owned.result ≡ length some.items = omega (arith, long, c.len-owned.ensures) in e)
    ∙ ap (λ (l : List ℕ). length l) (ap (λ (v : Vec ℕ Global). v.items) c.index.ensures ∙ r.owned_is k _ (subst (λ (n : ℕ). k < n) (sym r.owned_len) c.requires.within)) in
    let all : (p : ℕ) → p < length stars → row_at c.deref-3.result.now p ≡ taken (λ d. is_sharer_at stars d p) c.args.chunks =
    λ p l. ap (λ (rows : List (Vec ℕ Global)). row_at rows p) c.deref-3.ensures.value ∙ row-taken lists.owners.items (λ n d. is_sharer_at stars d n) c.args.chunks p some r.owners_is (subst (λ (n : ℕ). p < n) (sym r.owners_len) l) in
    c.in_ok-put_part.ensures ∙ ap (λ (l : List ℕ). c.args.text.now.items ++ l) (text-placed stars tris c.deref-3.result.now c.args.chunks k all c.len-owned.result c.row_of-nodes.result.now c.row_of-ghosts.result.now owned nodes ghosts)
