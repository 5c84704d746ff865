-- The nodes of a patch differ, whatever name the new one has.
use Rattle.std.proofs.Common.{◌≡◌, ◌≢◌, ℕ, suc, ◌<◌, List, [], ◌∷◌, ◌∙◌, subst, inl, inr, arith}
use Rattle.std.specs.Prelude.{Contains, Option, map, AllPairs}
use Rattle.pf_model.specs.declared.Op.{Op}
use Rattle.pf_model.specs.Stars.{Star}
use Rattle.pf_model.proofs.Members.{nowhere, here, there, cases}
use Rattle.pf_star_model.specs.Lent.{Held}
use Rattle.pf_star_model.proofs.Operations.{patch_rises}
use Rattle.pf_ghost.specs.Prepared.{AreNodesApart}
use Rattle.pf_ghost.specs.Spread.{later_name}
use Rattle.pf_holder.specs.Prepared.{fresh_of}

named : (hs : List Held) (z : ℕ) → Contains (map (λ (h : Held). h.node) hs) z → (h : Held) × Contains hs h × (z ≡ h.node)
named [] z c = absurd (nowhere z c)
named (h ∷ hs) z c = elim (cases z h.node (map (λ (h : Held). h.node) hs) c) [ inl e ↦ (h, here h hs, e) | inr i ↦ (let r = named hs z i in (r.0, there r.0 h hs r.1, r.2)) ]

rising_rest : (h : Held) (hs : List Held) → AllPairs (λ (x y : Held). x.node < y.node) (h ∷ hs) → AllPairs (λ (x y : Held). x.node < y.node) hs
rising_rest h hs up i j d l k = up (suc i) (suc j) d (omega (arith, l)) (omega (arith, k))

rising_first : (h : Held) (hs : List Held) → AllPairs (λ (x y : Held). x.node < y.node) (h ∷ hs) → (k : Held) → Contains hs k → h.node < k.node
rising_first h hs up k c = subst (λ (w : Held). h.node < w.node) c.2 (up 0 (suc c.0) k (omega arith) (let l = c.1 in omega (arith, l)))

pub rising_apart : (hs : List Held) → AllPairs (λ (x y : Held). x.node < y.node) hs → AreNodesApart hs
rising_apart [] up = tt
rising_apart (h ∷ hs) up = ((λ z c e. (let r = named hs z c in let l = rising_first h hs up r.0 r.1 in let f : h.node ≡ r.0.node = e ∙ r.2 in omega (arith, l, f))), rising_apart hs (rising_rest h hs up))

pub patch_apart : (lent : ℕ → Option Star) (op : Op) → AreNodesApart (fresh_of lent op)
patch_apart lent op = rising_apart (fresh_of lent op) (patch_rises lent later_name op)
