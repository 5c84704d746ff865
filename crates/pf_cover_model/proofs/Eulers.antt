-- An operation that passes, and the replay of a legal journal, keep the Euler number.
-- Assumes `IsConforming m` and that each live name is below that of the first ticket (`IsFresh`).
use Rattle.std.proofs.Common.{◌≡◌, ℕ, ◌+◌, List}
use Rattle.std.specs.Prelude.{None}
use Rattle.pf_model.specs.declared.Op.{Op}
use Rattle.pf_model.specs.declared.Op.TheVariants.{Flip, Bisect, Contract}
use Rattle.pf_model.specs.declared.Entry.{Entry}
use Rattle.pf_model.specs.Mesh.{Undivided}
use Rattle.pf_model.specs.Conforming.{IsConforming}
use Rattle.pf_model.specs.Applied.{IsFresh, applied, op_applied}
use Rattle.pf_model.specs.Conditions.{first_failing}
use Rattle.pf_model.specs.Replay.{replayed, IsLegal}
use Rattle.pf_model.specs.Sums.{euler_of}
use Rattle.pf_cover_model.proofs.Replays.{legal_keeps_number}
use Rattle.pf_cover_model.proofs.FlipEuler.{flip_keeps_euler}
use Rattle.pf_cover_model.proofs.BisectEuler.{bisect_keeps_euler}
use Rattle.pf_cover_model.proofs.ContractEuler.{contract_keeps_euler}

pub op_euler : (m : Undivided) (chunk ticket : ℕ) (op : Op) → IsConforming m → IsFresh m ticket → first_failing m chunk op ≡ None → euler_of (op_applied m ticket op) ≡ euler_of m
op_euler m chunk ticket (Flip a b) ok fresh h = flip_keeps_euler m chunk a b ok h
op_euler m chunk ticket (Bisect a b) ok fresh h = bisect_keeps_euler m chunk a b (m.first_new + ticket) ok fresh h
op_euler m chunk ticket (Contract u v) ok fresh h = contract_keeps_euler m chunk u v ok h

pub applied_euler : (m : Undivided) (e : Entry) → IsConforming m → IsFresh m e.ticket → first_failing m e.chunk e.op ≡ None → euler_of (applied m e) ≡ euler_of m
applied_euler m e ok fresh h = op_euler m e.chunk e.ticket e.op ok fresh h

pub replayed_euler : (m : Undivided) (es : List Entry) → IsConforming m → IsFresh m 0 → IsLegal m es → euler_of (replayed m es) ≡ euler_of m
replayed_euler m es ok fresh legal = legal_keeps_number euler_of (λ k e ok' fresh' h. op_euler k e.chunk e.ticket e.op ok' fresh' h) 0 m es ok fresh legal
