-- What a mesh, its history and its parts are to one who began with the mesh.
use Rattle.std.proofs.Common.{◌≡◌, ◌∙◌, ◌≤◌, ◌<◌, ℕ, List, length, sym, ap, subst, arith}
use Rattle.std.specs.Prelude.{slice_index_or}
use Rattle.pf_model.specs.declared.Entry.{Entry}
use Rattle.pf_model.specs.Mesh.{Undivided}
use Rattle.pf_core_model.specs.Core.{Opening, mesh_after}
use Rattle.pf_core_model.specs.Seats.{own_log}
use Rattle.pf_core_model.specs.Guards.{IsAlone}
use Rattle.pf_locks.specs.declared.seat.BoardSeat.{BoardSeat}
use Rattle.pf_locks.specs.Seats.{IsSeat}
use Rattle.pf_workers.specs.declared.parts.Part.{Part}
use Rattle.pf_workers.specs.Parts.{chunks_for, starts_for}
use Rattle.pf_workers.specs.Jobs.{IsPartFor}
use Rattle.pf_adapt.specs.Adapted.{HasEnded, IsAdapted}
use Rattle.pf_adapt.proofs.Owned.{legal-owned}

-- the journal is the history of a seat that is alone, and ended
pub adapted-by : (o : Opening) (m : Undivided) (budget : ℕ) (s : BoardSeat) (journal : List Entry) → o.mesh ≡ m → o.budget ≡ budget → IsSeat o s → IsAlone s.seat.me.0 → journal ≡ own_log s.seat.me.0 → HasEnded (mesh_after o (own_log s.seat.me.0)) o.budget (length (own_log s.seat.me.0)) → IsAdapted m budget journal
adapted-by o m budget s journal same rich seat alone is ended =
    let w = seat.knows.1 alone in
    let log = own_log s.seat.me.0 in
    let long = w.long in
    let paid = w.budget in
    let within : length log ≤ o.budget = omega (arith, long, paid) in
    subst (λ (j : List Entry). IsAdapted m budget j) (sym is)
    (subst (λ (b : ℕ). IsAdapted m b log) rich
    (subst (λ (x : Undivided). IsAdapted x o.budget log) same
    (record { legal = w.legal; within = within; owned = legal-owned 0 o.mesh log w.legal; ended = ended })))

-- the parts of all workers
pub parts_are : (m o : Undivided) (workers : ℕ) (parts now : List Part) → o ≡ m → now ≡ parts → length parts ≡ workers → ((w : ℕ) (d : Part) → w < workers → (slice_index_or parts w d).chunks.items ≡ chunks_for workers w m.chunks) → ((w : ℕ) (d : Part) → w < workers → (slice_index_or parts w d).start.items ≡ starts_for m workers w) → (w : ℕ) (d : Part) → w < length now → IsPartFor o (length now) w (slice_index_or now w d)
parts_are m o workers parts now same is long chunks start w d low =
    let l = ap (λ (x : List Part). length x) is ∙ long in
    let near : w < workers = omega (arith, l, low) in
    subst (λ (x : List Part). IsPartFor o (length now) w (slice_index_or x w d)) (sym is)
    (subst (λ (x : Undivided). IsPartFor x (length now) w (slice_index_or parts w d)) (sym same)
    (subst (λ (n : ℕ). IsPartFor m n w (slice_index_or parts w d)) (sym l)
    (record { chunks = chunks w d near; start = start w d near })))
