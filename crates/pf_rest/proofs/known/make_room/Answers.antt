use Rattle.std.proofs.Common.{◌≡◌, ◌==◌, ℕ, arith, true, refl, sym, ◌∙◌}
use Rattle.std.proofs.lemmas.Bool.Decides.{nat_tests}
use Rattle.std.specs.Prelude.{vec_len}
use Rattle.pf_rest.proofs.WalksLocated.{all-open}
use Rattle.pf_rest.proofs.known.make_room.Goals as goal

pub returns-in-Ok : goal.returns-in-Ok
returns-in-Ok c =
    let empty : (vec_len c.args.ends.now == 0) ≡ true = sym c.is_empty.ensures ∙ c.if-not-is_empty.false in
    let len = c.in-Ok.ensures.len in
    λ m edges are. all-open m edges c.resize.new.self.items (λ k d l. c.in-Ok.ensures.by_index.1 k d refl (omega (arith, zero_of _ empty)) (omega (arith, l, len, c.resize.new.self.ok)))
  where
    zero_of : (n : ℕ) → (n == 0) ≡ true → n ≡ 0
    zero_of n h = grind (arith, nat_tests)
