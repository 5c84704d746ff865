-- What the replay of a legal journal keeps: cover, Euler number and fans.
use Rattle.std.proofs.Common.{◌≡◌, ◌∙◌, List, take, sym, subst, ap}
use Rattle.std.specs.Prelude.{Result, Ok, Err, OnOk, IfErr}
use Rattle.pf_model.specs.declared.Entry.{Entry}
use Rattle.pf_model.specs.Mesh.{Undivided}
use Rattle.pf_model.specs.Conforming.{IsConforming}
use Rattle.pf_model.specs.Applied.{IsFresh}
use Rattle.pf_model.specs.Replay.{replayed, HasTickets, IsLegal}
use Rattle.pf_model.specs.Sums.{euler_of}
use Rattle.pf_model.proofs.Replays.{unrefused-legal, tickets-take}
use Rattle.pf_cover_model.specs.Alike.{CoversAlike, KeepsFans}
use Rattle.pf_cover_model.proofs.Covers.{replayed_cover}
use Rattle.pf_cover_model.proofs.Eulers.{replayed_euler}
use Rattle.pf_cover_model.proofs.FanKeeps.{replayed_fans}
use Rattle.pf_apply.specs.declared.run.RunErr.{RunErr}
use Rattle.pf_apply.specs.Run.{IsStopped}

-- r is the replay of a legal journal on m
pub record IsReplay (m r : Undivided) : Type 0 where
  pub entries : List Entry
  pub legal : IsLegal m entries
  pub is : r ≡ replayed m entries

pub replay-covers : (m r : Undivided) → IsConforming m → IsFresh m 0 → IsReplay m r → CoversAlike m r
replay-covers m r ok fresh p = subst (λ k. CoversAlike m k) (sym p.is) (replayed_cover m p.entries ok fresh p.legal)

pub replay-euler : (m r : Undivided) → IsConforming m → IsFresh m 0 → IsReplay m r → euler_of r ≡ euler_of m
replay-euler m r ok fresh p = ap euler_of p.is ∙ replayed_euler m p.entries ok fresh p.legal

pub replay-fans : (m r : Undivided) → IsConforming m → IsFresh m 0 → IsReplay m r → KeepsFans m r
replay-fans m r ok fresh p = subst (λ k. KeepsFans m k) (sym p.is) (replayed_fans m p.entries ok fresh p.legal)
