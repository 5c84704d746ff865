-- Which names are live along a history.
use Rattle.std.proofs.Common.{◌≡◌, ℕ, suc, ◌+◌, ◌<◌, ◌≤◌, true, List, [], ◌∷◌, ◌++◌, length, take, refl, subst, ⊎_elim, arith}
use Rattle.std.proofs.lemmas.List.{length-take}
use Rattle.pf_model.specs.declared.Entry.{Entry}
use Rattle.pf_model.specs.Mesh.{Undivided}
use Rattle.pf_model.specs.Conforming.{IsConforming, IsLive}
use Rattle.pf_model.specs.Applied.{IsFresh, applied}
use Rattle.pf_model.specs.Replay.{replayed, IsLegalFrom, IsLegal}
use Rattle.pf_core_model.specs.Cavity.{is_made}
use Rattle.pf_core_model.specs.Core.{Opening, mesh_after}
use Rattle.pf_core_model.proofs.Replays.{fresh_after, replayed_first_new, made_below}
use Rattle.pf_core_model.proofs.Told.{live_known}
use Rattle.pf_model.proofs.Replays.{legal-take}

replayed_on : (m : Undivided) (log more : List Entry) → replayed m (log ++ more) ≡ replayed (replayed m log) more
replayed_on m [] more = refl
replayed_on m (e ∷ es) more = replayed_on (applied m e) es more

legal_on : (t : ℕ) (m : Undivided) (log more : List Entry) → IsLegalFrom t m (log ++ more) → IsLegalFrom (t + length log) (replayed m log) more
legal_on t m [] more l = subst (λ (k : ℕ). IsLegalFrom k m more) (let z : t ≡ t + 0 = omega arith in z) l
legal_on t m (e ∷ es) more l = subst (λ (k : ℕ). IsLegalFrom k (replayed m (e ∷ es)) more) (let z : suc t + length es ≡ t + suc (length es) = omega arith in z) (legal_on (suc t) (applied m e) es more l.2)

pub live_below : (o : Opening) (log : List Entry) → IsConforming o.mesh → IsFresh o.mesh 0 → IsLegal o.mesh log → (n : ℕ) → IsLive (mesh_after o log) n → n < o.mesh.first_new + length log
live_below o log ok fresh legal n live = let z = fresh_after o log ok fresh legal n live in let y = replayed_first_new o.mesh log in omega arith

pub later_never : (o : Opening) (log : List Entry) → IsConforming o.mesh → IsFresh o.mesh 0 → IsLegal o.mesh log → (n i : ℕ) → o.mesh.first_new + length log ≤ n → IsLive (mesh_after o (take i log)) n → ⊥
later_never o log ok fresh legal n i up live =
    let low = live_below o (take i log) ok fresh (legal-take 0 o.mesh log i legal) n live in
    let long = length-take i log in
    absurd (omega arith)

pub gone_stays : (o : Opening) (log more : List Entry) → IsLegal o.mesh (log ++ more) → (n : ℕ) → n < o.mesh.first_new + length log → (IsLive (mesh_after o log) n → ⊥) → IsLive (mesh_after o (log ++ more)) n → ⊥
gone_stays o log more legal n low off live =
    let m : Undivided = mesh_after o log in
    ⊎_elim
    (λ (x : IsLive m n). off x)
    (λ (x : is_made m.first_new more n ≡ true).
    let name = (made_below (0 + length log) m.first_new n m more (legal_on 0 o.mesh log more legal) x).0 in
    let same = replayed_first_new o.mesh log in absurd (omega arith))
    (live_known m more n (subst (λ (r : Undivided). IsLive r n) (replayed_on o.mesh log more) live))
