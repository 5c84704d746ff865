-- Each step on a word, as the board's calls ask for it.
use Rattle.std.proofs.Common.{◌≡◌, ◌≢◌, ℕ, ◌+◌, ◌<◌, ◌≤◌, ◌%◌, ◌^◌, List, [], ◌∷◌, length, set, refl, sym, ◌∙◌, subst, arith}
use Rattle.std.specs.Prelude.{slice_index, Some, None}
use Rattle.std.proofs.lemmas.List.{set-get_or}
use Rattle.std.proofs.Math.Decide.{dec_lt}
use mathlib.Core.Option.{none, some}
use mathlib.Core.Logic.{dite}
use lib.ListN.{get_elem?}
use Rattle.atomic_table.specs.Table.{step, keeps, Allows, rest}
use Rattle.pf_model.specs.declared.Cond.{Cond}
use Rattle.pf_model.specs.declared.Entry.{Entry}
use Rattle.pf_model.specs.Stars.{Star}
use Rattle.pf_core_model.specs.declared.sharer.Sharer.{Sharer}
use Rattle.pf_core_model.specs.declared.view.View.{View}
use Rattle.pf_core_model.specs.Lists.{In, times}
use Rattle.pf_core_model.specs.Sharers.{sharers_in}
use Rattle.pf_core_model.specs.Core.{Opening, names_of, tickets_of, IsSound}
use Rattle.pf_core_model.specs.Guards.{IsViewJudged}
use Rattle.pf_core_model.proofs.Lists.{set_again, total_at, times_out}
use Rattle.pf_core_model.proofs.Seats.{seat_knows}
use Rattle.pf_board_steps.specs.Plays.{BoardState, Mine, Holds, Frees, CanCommit, fresh_at}
use Rattle.pf_board_steps.proofs.Steps.{refuses_step, commits_step, releases_step, buries_step}
use Rattle.pf_board_steps.proofs.Guards.{made_patch}
use Rattle.pf_locks.specs.Told.{Looks, FailsNoted, DrawsFor}

-- no ticket stands twice in a view
once_in : (o : Opening) (s : BoardState) (h : Holds o s) (id : ℕ) (v : View) → get_elem? s.views id ≡ some v → (t : ℕ) → times t (tickets_of v) ≤ 1
once_in o s h id v at t =
    let one = total_at (λ (u : View). times t (tickets_of u)) s.views id v at in
    dite (dec_lt t (length h.0))
    (λ low. let e = h.1.once t low in omega arith)
    (λ high. let e = h.1.no_more t (omega arith) in omega arith)

number_in : (o : Opening) (s : BoardState) (h : Holds o s) (id : ℕ) (v : View) → get_elem? s.views id ≡ some v → (k : ℕ) → times k v.numbers ≤ 1
number_in o s h id v at k =
    dite (dec_lt k o.workers)
    (λ low. let one = total_at (λ (u : View). times k u.numbers) s.views id v at in let e = h.1.numbers k low in omega arith)
    (λ high. let none = times_out k v.numbers (λ i. high ((h.1.fits id v at).below k i)) in omega arith)

rich_in : (o : Opening) (s : BoardState) (h : Holds o s) (id : ℕ) (v : View) → get_elem? s.views id ≡ some v → v.allowance ≤ o.budget
rich_in o s h id v at =
    let one = total_at (λ (u : View). u.allowance) s.views id v at in
    let e = h.1.budget in
    omega arith

module _ (o : Opening) (slots id : ℕ) (me : Mine) where
  pub looks : me.0.numbers ≢ [] → Allows (Holds o) slots id me (names_of o) (λ x. x) (Looks o (step slots (names_of o) 0 0 none) me)
  looks actor s h long at small =
      let same : IsSound o (set s.words (names_of o) (slice_index s.words (names_of o))) s.homes (set s.views id me.0)
      = subst (λ (l : List View). IsSound o (set s.words (names_of o) (slice_index s.words (names_of o))) s.homes l) (sym (set_again s.views id me.0 at))
      (subst (λ (l : List ℕ). IsSound o l s.homes s.views) (sym (set-get_or s.words (names_of o) 0)) h) in
      (me.0, keeps, tt, same, ((seat_knows o s.words s.homes s.views h.0 h.1 id me.0 at actor, sym long ∙ h.1.homes_long), once_in o s h id me.0 at, number_in o s h id me.0 at, rich_in o s h id me.0 at, refl))

  pub fails_noted : (e : Entry) (why : Cond) → me.0.numbers ≢ [] → IsViewJudged me.0 e.chunk e.op (Some why)
      → Allows (Holds o) slots id me (names_of o) (λ x. x) (FailsNoted o e (step slots (names_of o) 0 0 none) me)
  fails_noted e why actor judged s h long at small =
      let r = refuses_step o slots id me e.chunk e.op why actor judged s h long at small in
      (r.0, r.1, r.2, r.3, (why, judged, r.4))

  pub draws_for : (e : Entry) → me.0.numbers ≢ [] → me.0.unborn ≡ None → 0 < me.0.allowance → CanCommit me.0 e.chunk e.op
      → Allows (Holds o) slots id me (names_of o) (λ x. (x + 1) % 2 ^ 64) (DrawsFor o e (step slots (names_of o) 1 0 none) me)
  draws_for e actor clear rich can = let r = made_patch me.0 e can in commits_step o slots id me e (fresh_at me.0 e) actor clear rich r.0 r.1 r.2

  pub frees_as : (n : ℕ) (star : Star) → me.0.numbers ≢ [] → In (record { node = n; star = Some star }) me.0.held → me.0.unborn ≡ None → me.1 ≡ (n, sharers_in me.0.chunks (Some star)) ∷ rest me.1
      → Allows (Holds o) slots id me n (λ _. 0) (λ _. Frees o (step slots n 0 0 none) me 0)
  frees_as n star actor mine clear front =
      subst (λ (l : List (ℕ × List Sharer)). Allows (Holds o) slots id (me.0, l) n (λ _. 0) (λ _. Frees o (step slots n 0 0 none) (me.0, l) 0)) (sym front) (releases_step o slots id me.0 n star (rest me.1) actor mine clear)

  pub buries_as : (n : ℕ) → In (record { node = n; star = None }) me.0.held → me.0.unborn ≡ None → me.1 ≡ (n, []) ∷ rest me.1
      → Allows (Holds o) slots id me n (λ _. 1) (λ _. Frees o (step slots n 1 0 none) me 1)
  buries_as n mine clear front =
      subst (λ (l : List (ℕ × List Sharer)). Allows (Holds o) slots id (me.0, l) n (λ _. 1) (λ _. Frees o (step slots n 1 0 none) (me.0, l) 1)) (sym front) (buries_step o slots id me.0 n (rest me.1) mine clear)
