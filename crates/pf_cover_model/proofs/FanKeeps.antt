-- An operation that passes leaves one fan at each node that had one, and at a new node.
-- Assumes `IsConforming m` and that each live name is below the new one of the ticket (`IsFresh`).
use Rattle.std.proofs.Common.{◌≡◌, ◌≢◌, ℕ, ◌+◌, List, [], ◌∷◌, ◌++◌, refl, sym, ◌∙◌, ap, subst, true, false, inl, inr, arith}
use Rattle.std.specs.Prelude.{Option, Some, None, is_some, min, max}
use Rattle.std.proofs.lemmas.Bool.Decides.{nat_tests}
use Rattle.pf_geom.specs.declared.Point.{Point}
use Rattle.pf_model.specs.declared.Op.{Op}
use Rattle.pf_model.specs.declared.Op.TheVariants.{Flip, Bisect, Contract}
use Rattle.pf_model.specs.Mesh.{Undivided, point_of}
use Rattle.pf_model.specs.Conforming.{IsConforming, IsLive}
use Rattle.pf_model.specs.Applied.{IsFresh, op_applied}
use Rattle.pf_model.specs.Conditions.{first_failing}
use Rattle.pf_model.specs.Stars.{spokes_of, is_one_fan}
use Rattle.pf_model.proofs.SitesAfter.{point_of-past}
use Rattle.pf_model.proofs.SitesLess.{point_of-without, point_of-gone}
use Rattle.pf_model.proofs.FlipKeeps.{flip_conforms}
use Rattle.pf_model.proofs.BisectKeeps.{bisect_conforms}
use Rattle.pf_model.proofs.ContractKeeps.{contract_conforms}
use Rattle.pf_model.specs.declared.Entry.{Entry}
use Rattle.pf_model.specs.Replay.{replayed, IsLegal}
use Rattle.pf_cover_model.proofs.Replays.{legal_keeps_fact}
use Rattle.pf_cover_model.proofs.FlipRounds.{flip_by}
use Rattle.pf_cover_model.proofs.BisectRounds.{bisect_by}
use Rattle.pf_cover_model.proofs.ContractRounds.{contract_by}
use Rattle.pf_cover_model.proofs.FanTriangles.{IsLinkedAt, linked_at-from, linked_at-fan}
use Rattle.pf_cover_model.proofs.FlipFans.{mesh_then as flip_then, flip_linked}
use Rattle.pf_cover_model.proofs.BisectFans.{mesh_then as bisect_then, bisect_linked, bisect_linked_new}
use Rattle.pf_cover_model.proofs.ContractFans.{mesh_then as contract_then, contract_linked, contract_linked_onto}
use Rattle.std.proofs.lemmas.Bool.{cases_eq}
use Rattle.pf_cover_model.specs.Alike.{KeepsFans}
use Rattle.pf_model.specs.Applied.{applied}

-- n has one fan in r, where it had one in m or wasn't live there
abbrev IsFanKept : Undivided → ℕ → Undivided → Type 0
IsFanKept m n r = (IsLive m n → is_one_fan (spokes_of m n) ≡ true) → IsLive r n → is_one_fan (spokes_of r n) ≡ true

-- a name that is live after a node is put in is that node's, or was live
live_before : (m : Undivided) (k n : ℕ) (at : Point) → k ≢ n → is_some (point_of (m.sites ++ record { name = n; at = at } ∷ []) k) ≡ true → IsLive m k
live_before m k n at d l = go (point_of m.sites k) refl
  where
    only : is_some (point_of (record { name = n; at = at } ∷ []) k) ≡ true → k ≡ n
    only e = grind (arith, nat_tests)

    go : (o : Option Point) → point_of m.sites k ≡ o → IsLive m k
    go (Some p) e = ap is_some e
    go None e = absurd (d (only (ap is_some (sym (point_of-past m.sites (record { name = n; at = at } ∷ []) k e)) ∙ l)))

pub op_fans : (m : Undivided) (chunk ticket : ℕ) (op : Op) (n : ℕ) → IsConforming m → IsFresh m ticket → first_failing m chunk op ≡ None → (IsLive m n → is_one_fan (spokes_of m n) ≡ true) → IsLive (op_applied m ticket op) n → is_one_fan (spokes_of (op_applied m ticket op) n) ≡ true
op_fans m chunk ticket (Flip a b) n ok fresh h =
    flip_by (IsFanKept m n) m chunk a b ok h
    (λ l r f p fan live. linked_at-fan (flip_then m ok (min a b) (max a b) l.apex r.apex l.owner r.owner f) (flip_conforms m ok (min a b) (max a b) l.apex r.apex l.owner r.owner f) n live
    (flip_linked m ok (min a b) (max a b) l.apex r.apex l.owner r.owner f n (linked_at-from m ok n (fan live))))
op_fans m chunk ticket (Bisect a b) n ok fresh h =
    bisect_by (IsFanKept m n) m chunk a b (m.first_new + ticket) ok fresh h
    (λ mid middle edge fan live. linked_at-fan (bisect_then m ok (m.first_new + ticket) (min a b) (max a b) mid fresh middle edge) (bisect_conforms m ok (m.first_new + ticket) (min a b) (max a b) mid fresh middle edge) n live
    (elim (cases_eq n (m.first_new + ticket)) [
      | inl e ↦ subst (λ w. IsLinkedAt (bisect_then m ok (m.first_new + ticket) (min a b) (max a b) mid fresh middle edge) w) (sym e) (bisect_linked_new m ok (m.first_new + ticket) (min a b) (max a b) mid fresh middle edge)
      | inr d ↦ bisect_linked m ok (m.first_new + ticket) (min a b) (max a b) mid fresh middle edge n d (linked_at-from m ok n (fan (live_before m n (m.first_new + ticket) mid d live)))
    ]))
op_fans m chunk ticket (Contract u v) n ok fresh h =
    contract_by (IsFanKept m n) m chunk u v ok h
    (λ p fan live. linked_at-fan (contract_then m ok u v p) (contract_conforms m ok u v p) n live
    (elim (cases_eq n u) [
      | inl e ↦ absurd (let a : is_some (point_of (contract_then m ok u v p).sites u) ≡ true = subst (λ w. is_some (point_of (contract_then m ok u v p).sites w) ≡ true) e live in let z : false ≡ true = sym (ap is_some (point_of-gone u m.sites)) ∙ a in cc)
      | inr d ↦ (let old : IsLive m n = sym (ap is_some (point_of-without u n m.sites d)) ∙ live in
          let linked = linked_at-from m ok n (fan old) in
          elim (cases_eq n v) [
            | inl e ↦ subst (λ w. IsLinkedAt (contract_then m ok u v p) w) (sym e) (contract_linked_onto m ok u v p (subst (λ w. IsLinkedAt m w) e linked))
            | inr k ↦ contract_linked m ok u v p n d k linked
          ])
    ]))

pub applied_fans : (m : Undivided) (e : Entry) → IsConforming m → IsFresh m e.ticket → first_failing m e.chunk e.op ≡ None → KeepsFans m (applied m e)
applied_fans m e ok fresh h n live fan = op_fans m e.chunk e.ticket e.op n ok fresh h fan live

pub replayed_fans : (m : Undivided) (es : List Entry) → IsConforming m → IsFresh m 0 → IsLegal m es → KeepsFans m (replayed m es)
replayed_fans m es ok fresh legal n live fan = legal_keeps_fact (λ k. IsLive k n → is_one_fan (spokes_of k n) ≡ true) (λ k e ok' fresh' h before live'. op_fans k e.chunk e.ticket e.op n ok' fresh' h before live') 0 m es ok fresh legal fan live
