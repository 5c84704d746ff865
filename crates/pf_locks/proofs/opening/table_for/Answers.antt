use Rattle.std.proofs.Common.{◌≡◌, ◌+◌, ◌++◌, ◌∷◌, [], ℕ, List, length, map, sym, ap, ◌∙◌, subst, length-append, arith}
use Rattle.atomic_table.specs.Table.{opening}
use Rattle.pf_core_model.specs.Lists.{counting}
use Rattle.pf_core_model.specs.Core.{Opening}
use Rattle.pf_core_model.specs.State.{first_view}
use Rattle.pf_core_model.specs.Shown.{CanOpen}
use Rattle.pf_board_steps.specs.Plays.{Holds}
use Rattle.pf_locks.specs.First.{start_word, opening_of}
use Rattle.pf_locks.proofs.Opens.{opens, long_map}
use Rattle.pf_locks.proofs.opening.table_for.Goals as goal

pub new-requires : goal.new-requires
new-requires c =
    let m = c.args.m.now.mesh in
    let o : Opening = opening_of m c.args.budget c.args.workers in
    let is : c.of.result ≡ o = λ i. record { mesh = c.of.ensures.0 i; budget = c.of.ensures.1 i; workers = c.of.ensures.2 i } in
    let can : CanOpen o = record { conforming = c.first_new-first.ensures.conforming; fresh = c.requires.fresh; some_worker = c.requires.some_worker; small = c.requires.small } in
    let first = c.first_new-first.ensures.value in
    let words = c.as_slice.ensures.value ∙ c.in_ok-words.ensures ∙ ap (λ (f : ℕ). map (start_word m) (counting 0 (f + c.args.budget)) ++ 0 ∷ []) first in
    let long : length c.in_ok-lists.lists.items ≡ m.first_new + c.args.budget = omega (arith, c.in_ok-lists.ensures.len, c.in_ok-lists.lists.ok, first) in
    subst (λ (p : Opening). Holds p (opening c.as_slice.result.now c.in_ok-lists.lists.items (first_view p))) (sym is) (opens o _ _ can words long c.in_ok-lists.ensures.copies)

pub returns-in-Ok-clause-counts : goal.returns-in-Ok-clause-counts
returns-in-Ok-clause-counts c =
    let m = c.args.m.now.mesh in
    let first = c.first_new-first.ensures.value in
    let n : ℕ = c.first_new-first.result + c.args.budget in
    let words : length c.as_slice.result.now ≡ n + 1
    = ap (λ (l : List ℕ). length l) (c.as_slice.ensures.value ∙ c.in_ok-words.ensures) ∙ length-append (map (start_word m) (counting 0 n)) (0 ∷ []) ∙ ap (λ (k : ℕ). k + 1) (long_map (start_word m) 0 n) in
    let lists : length c.in_ok-lists.lists.items ≡ n = omega (arith, c.in_ok-lists.ensures.len, c.in_ok-lists.lists.ok) in
    (c.in-Ok.ensures.ok.0 ∙ words ∙ ap (λ (k : ℕ). k + c.args.budget + 1) first, c.in-Ok.ensures.ok.1 ∙ lists ∙ ap (λ (k : ℕ). k + c.args.budget) first)
