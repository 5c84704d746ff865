-- An operation that passes, and the replay of a legal journal, keep a mesh conforming and its area, and its live names stay below
-- the next new one. Assumes `IsConforming m` and that each live name of m is below that of the first ticket (`IsFresh`).
use Rattle.std.proofs.Common.{◌≡◌, ◌≢◌, ℕ, suc, ◌+◌, ◌<◌, List, [], ◌∷◌, ◌++◌, refl, sym, ◌∙◌, ap, subst, true, false, ◌⊎◌, inl, inr, arith}
use Rattle.std.specs.Prelude.{Option, Some, None, is_some, min, max}
use Rattle.std.proofs.lemmas.Bool.Decides.{nat_tests}
use Rattle.std.proofs.lemmas.Bool.{cases_eq}
use Rattle.pf_geom.specs.declared.Point.{Point}
use Rattle.pf_geom.specs.Plane.{middle_of}
use Rattle.pf_model.specs.declared.Site.{Site}
use Rattle.pf_model.specs.declared.Op.{Op}
use Rattle.pf_model.specs.declared.Op.TheVariants.{Flip, Bisect, Contract}
use Rattle.pf_model.specs.declared.Entry.{Entry}
use Rattle.pf_model.specs.Mesh.{Undivided, point_of, place_of}
use Rattle.pf_model.specs.Conforming.{IsConforming}
use Rattle.pf_model.specs.Applied.{IsFresh, applied, op_applied, new_site}
use Rattle.pf_model.specs.Conditions.{first_failing}
use Rattle.pf_model.specs.Replay.{replayed, IsLegalFrom, IsLegal}
use Rattle.pf_model.specs.Sums.{area2_of}
use Rattle.pf_model.proofs.SitesAfter.{AreBelow, point_of-past}
use Rattle.pf_model.proofs.SitesLess.{without_name, point_of-without, point_of-gone}
use Rattle.pf_model.proofs.FlipKeeps.{flip_keeps}
use Rattle.pf_model.proofs.FlipArea.{flip_keeps_area}
use Rattle.pf_model.proofs.BisectKeeps.{bisect_keeps}
use Rattle.pf_model.proofs.BisectArea.{bisect_keeps_area}
use Rattle.pf_model.proofs.ContractKeeps.{contract_keeps}
use Rattle.pf_model.proofs.ContractArea.{contract_keeps_area}

pub applied_conforms : (m : Undivided) (chunk ticket : ℕ) (op : Op) → IsConforming m → IsFresh m ticket → first_failing m chunk op ≡ None → IsConforming (op_applied m ticket op)
applied_conforms m chunk ticket (Flip a b) ok fresh h = flip_keeps m chunk a b ticket ok h
applied_conforms m chunk ticket (Bisect a b) ok fresh h = bisect_keeps m chunk a b ticket ok fresh h
applied_conforms m chunk ticket (Contract u v) ok fresh h = contract_keeps m chunk u v ticket ok h

pub applied_area : (m : Undivided) (chunk ticket : ℕ) (op : Op) → IsConforming m → IsFresh m ticket → first_failing m chunk op ≡ None → area2_of (op_applied m ticket op) ≡ area2_of m
applied_area m chunk ticket (Flip a b) ok fresh h = flip_keeps_area m chunk a b ticket ok h
applied_area m chunk ticket (Bisect a b) ok fresh h = bisect_keeps_area m chunk a b ticket ok fresh h
applied_area m chunk ticket (Contract u v) ok fresh h = contract_keeps_area m chunk u v ticket ok h

fresh-push : (ss : List Site) (n : ℕ) (o : Option Point) → AreBelow ss n → AreBelow (ss ++ new_site n o) (suc n)
fresh-push ss n o f k l = go (point_of ss k) refl
  where
    only : (q : Option Point) → is_some (point_of (new_site n q) k) ≡ true → k ≡ n
    only None e = absurd (let z : false ≡ true = e in cc)
    only (Some p) e = grind (arith, nat_tests)

    go : (q : Option Point) → point_of ss k ≡ q → k < suc n
    go (Some p) e = let a = f k (ap is_some e) in omega arith
    go None e = let a = only o (ap is_some (sym (point_of-past ss (new_site n o) k e)) ∙ l) in omega arith

fresh-less : (u : ℕ) (ss : List Site) (n : ℕ) → AreBelow ss n → AreBelow (without_name u ss) (suc n)
fresh-less u ss n f k l = go (cases_eq k u)
  where
    go : (k ≡ u) ⊎ (k ≢ u) → k < suc n
    go (inl e) = absurd (let a : is_some (point_of (without_name u ss) u) ≡ true = subst (λ w. is_some (point_of (without_name u ss) w) ≡ true) e l in let z : false ≡ true = sym (ap is_some (point_of-gone u ss)) ∙ a in cc)
    go (inr n') = let a = f k (sym (ap is_some (point_of-without u k ss n')) ∙ l) in omega arith

-- each live name after is below the next new one
pub applied_fresh : (m : Undivided) (ticket : ℕ) (op : Op) → IsFresh m ticket → IsFresh (op_applied m ticket op) (suc ticket)
applied_fresh m ticket (Flip a b) f k l = let x = f k l in omega arith
applied_fresh m ticket (Bisect a b) f k l = let x = fresh-push m.sites (m.first_new + ticket) (middle_of (place_of m (min a b)) (place_of m (max a b))) f k l in omega arith
applied_fresh m ticket (Contract u v) f k l = let x = fresh-less u m.sites (m.first_new + ticket) f k l in omega arith

pub record IsReplayed (m r : Undivided) : Type 0 where
  pub conforming : IsConforming r
  pub area : area2_of r ≡ area2_of m

legal_from : (t : ℕ) (m : Undivided) (es : List Entry) → IsConforming m → IsFresh m t → IsLegalFrom t m es → IsReplayed m (replayed m es)
legal_from t m [] ok f l = record { conforming = ok; area = refl }
legal_from t m (e ∷ es) ok f l =
    let now : IsFresh m e.ticket = subst (λ w. IsFresh m w) (sym l.0) f in
    let next : IsFresh (applied m e) (suc t) = subst (λ w. IsFresh (applied m e) (suc w)) l.0 (applied_fresh m e.ticket e.op now) in
    let r = legal_from (suc t) (applied m e) es (applied_conforms m e.chunk e.ticket e.op ok now l.1) next l.2 in
    record { conforming = r.conforming; area = r.area ∙ applied_area m e.chunk e.ticket e.op ok now l.1 }

-- the replay of a legal journal
pub legal_keeps : (m : Undivided) (es : List Entry) → IsConforming m → IsFresh m 0 → IsLegal m es → IsReplayed m (replayed m es)
legal_keeps m es ok f l = legal_from 0 m es ok f l
