use Rattle.std.proofs.Common.{◌∙◌, ℕ, Bool, List, ap, length, subst, sym, Vec, Global}
use Rattle.pf_assemble.specs.Placed.{is_sharer_at}
use Rattle.pf_assemble.specs.Rows.{AreTaken}
use Rattle.pf_assemble.proofs.lists.lists_of.Goals as goal

pub returns : goal.returns
returns c =
    let p = is_sharer_at c.args.stars.now in
    let q : ℕ → ℕ → Bool = λ n k. p k n in
    let nodes_are = c.in_ok-nodes.ensures.rows in
    let lent = subst (λ (l : List (Vec ℕ Global)). AreTaken l p (length c.args.stars.now)) (sym c.deref.ensures.value) nodes_are in
    let many = ap (λ (l : List (Vec ℕ Global)). length l) c.deref.ensures.value ∙ c.in_ok-nodes.ensures.len in
    record {
      owned_len = c.in_ok-owned.ensures.len;
      owned_is = c.in_ok-owned.ensures.rows;
      nodes_len = c.in_ok-nodes.ensures.len;
      nodes_is = nodes_are;
      owners_len = c.in_ok-owners.ensures.len;
      owners_is = subst (λ (k : ℕ). AreTaken c.in_ok-owners.owners.items q k) many (c.in_ok-owners.ensures.rows p lent);
      ghosts_len = c.in_ok-ghosts.ensures.len ∙ (ap (λ (l : List (Vec ℕ Global)). length l) c.deref-2.ensures.value ∙ c.in_ok-owned.ensures.len);
      ghosts_is = c.in_ok-ghosts.ensures.rows;
    }
