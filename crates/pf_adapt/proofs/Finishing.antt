-- What the last pass is given, and what it leaves.
use Rattle.std.proofs.Common.{◌≡◌, ◌∙◌, ℕ, ◌+◌, ◌<◌, ◌≤◌, List, [], None, length, sym, ap, subst, arith}
use Rattle.std.specs.Prelude.{Contains}
use Rattle.std.specs.List.{range_with_len}
use Rattle.std.proofs.lemmas.List.FromFn.{length-range_with_len, get_or-range_with_len}
use Rattle.pf_model.specs.declared.Entry.{Entry}
use Rattle.pf_model.specs.Conforming.{IsLive}
use Rattle.pf_core_model.specs.Core.{Opening, mesh_after}
use Rattle.pf_core_model.specs.Guards.{IsAlone}
use Rattle.pf_core_model.specs.Seats.{own_log}
use Rattle.pf_core_model.proofs.Replays.{fresh_after, replayed_first_new}
use Rattle.pf_holder.specs.Facts.{history_in, mesh_alone}
use Rattle.pf_locks.specs.declared.board.Board.{Board}
use Rattle.pf_locks.specs.declared.seat.BoardSeat.{BoardSeat}
use Rattle.pf_locks.specs.Seats.{IsSeat}
use Rattle.pf_hand.specs.declared.hand.Hand.{Hand}
use Rattle.pf_hand.specs.Later.{IsLater, later_alone}
use Rattle.pf_hand.specs.Laws.{AloneLogIsOwn}
use Rattle.pf_adapt.specs.Adapted.{HasEnded}
use Rattle.pf_adapt.specs.Crew.{IsLone}

in_range : (n k : ℕ) → k < n → Contains (range_with_len 0 n) k
in_range n k l = (k, (let e = length-range_with_len 0 n in omega (arith, e, l)), get_or-range_with_len 0 n k k l ∙ zero_add k)
  where
    zero_add : (j : ℕ) → 0 + j ≡ j
    zero_add j = omega arith

-- the live nodes are among the names up to the last that was given
pub names_cover : AloneLogIsOwn → (o : Opening) (s : BoardSeat) → IsSeat o s → IsAlone s.seat.me.0 → (first seen : ℕ) (names : List ℕ) → first ≡ o.mesh.first_new → seen ≡ s.seen → names ≡ range_with_len 0 (first + seen) → (n : ℕ) → IsLive (mesh_alone o s.seat.me.0.entries) n → Contains names n
names_cover law o s seat alone first seen names f t is n live =
    let w = seat.knows.1 alone in
    let own = law o s seat alone in
    let log = own_log s.seat.me.0 in
    let there : IsLive (mesh_after o log) n = subst (λ (l : List Entry). IsLive (mesh_after o l) n) own live in
    let low = fresh_after o log w.conforming w.fresh w.legal n there in
    let long = w.long in
    let same = replayed_first_new o.mesh log in
    let counted = seat.counts.seen in
    let near : n < first + seen = omega (arith, low, long, same, f, t, counted) in
    subst (λ (l : List ℕ). Contains l n) (sym is) (in_range (first + seen) n near)

-- the numbers of names can be added
pub names_small : (o : Opening) (s : BoardSeat) → IsSeat o s → s.seen + o.mesh.first_new ≤ 1048576
names_small o s seat = let a = seat.counts.seen in let b = seat.knows.0.seen in let c = seat.knows.0.small in omega (arith, a, b, c)

-- what the last pass says of the entries is said of the history
pub ended_own : AloneLogIsOwn → (o : Opening) (s : BoardSeat) → IsSeat o s → IsAlone s.seat.me.0 → HasEnded (mesh_alone o s.seat.me.0.entries) o.budget (length (history_in s.seat.me.0.entries)) → HasEnded (mesh_after o (own_log s.seat.me.0)) o.budget (length (own_log s.seat.me.0))
ended_own law o s seat alone h = subst (λ (l : List Entry). HasEnded (mesh_after o l) o.budget (length l)) (law o s seat alone) h

-- the seat of a hand after the last pass
module _ (board : Board) (g h : Hand) (s : BoardSeat) (on : g.board.now ≡ board) (alone : IsAlone g.seat.seat.me.0) (same : (g.board ≡ h.board) × IsLater g.seat.seat.me.0 h.seat.seat.me.0) (nothing : h.seat.seat.me.0.held ≡ []) (value : s ≡ h.seat) (id : s.seat.table_id ≡ h.board.now.table.shared.table_id) (fits : IsSeat h.board.now.table.shared.key s) (clear : s.seat.me.0.unborn ≡ None) where
  there : h.board.now ≡ board
  there = sym (ap (λ b. b.now) same.0) ∙ on

  seat_there : IsSeat board.table.shared.key s
  seat_there = subst (λ (b : Board). IsSeat b.table.shared.key s) there fits

  alone_there : IsAlone s.seat.me.0
  alone_there = subst (λ (x : BoardSeat). IsAlone x.seat.me.0) (sym value) (later_alone g.seat.seat.me.0 h.seat.seat.me.0 same.1 alone)

  pub finished_lone : IsLone board.table.shared.table_id board.table.shared.key s
  finished_lone =
      record {
        board = id ∙ ap (λ (b : Board). b.table.shared.table_id) there;
        seat = seat_there;
        alone = alone_there;
        nothing = ap (λ (x : BoardSeat). x.seat.me.0.held) value ∙ nothing;
        clear = clear;
      }

  pub finished_ended : AloneLogIsOwn → HasEnded (mesh_alone g.board.now.table.shared.key h.seat.seat.me.0.entries) g.board.now.table.shared.key.budget (length (history_in h.seat.seat.me.0.entries)) → HasEnded (mesh_after board.table.shared.key (own_log s.seat.me.0)) board.table.shared.key.budget (length (own_log s.seat.me.0))
  finished_ended law ended =
      let here = subst (λ (b : Board). HasEnded (mesh_alone b.table.shared.key h.seat.seat.me.0.entries) b.table.shared.key.budget (length (history_in h.seat.seat.me.0.entries))) on ended in
      let mine = subst (λ (x : BoardSeat). HasEnded (mesh_alone board.table.shared.key x.seat.me.0.entries) board.table.shared.key.budget (length (history_in x.seat.me.0.entries))) (sym value) here in
      ended_own law board.table.shared.key s seat_there alone_there mine
