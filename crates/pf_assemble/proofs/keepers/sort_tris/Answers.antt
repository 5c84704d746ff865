use Rattle.std.proofs.Common.{◌≡◌, ℕ, ◌+◌, false, ◌&&◌, ◌||◌, ◌==◌, get_or, rules, arith}
use Rattle.std.specs.Prelude.{nat_lt}
use Rattle.std.specs.Ordering.{is_lt, nat_cmp, ordering_then}
use Rattle.std.proofs.lemmas.Bool.Decides.{nat_tests}
use Rattle.std.proofs.lemmas.List.Sorted.{answers_always}
use Rattle.pf_model.specs.declared.Tri.{Tri}
use Rattle.pf_model.specs.Mesh.{tri_lt}
use Rattle.pf_assemble.proofs.Sorts.{sorts, of_success}
use Rattle.pf_assemble.proofs.Gathered.{same_corners, tri-tests}
use Rattle.pf_assemble.proofs.keepers.sort_tris.Goals as goal

not_before : (a b c x y z : ℕ) → is_lt (ordering_then (ordering_then (nat_cmp x a) (nat_cmp y b)) (nat_cmp z c)) ≡ false → (nat_lt x a || (x == a && (nat_lt y b || (y == b && nat_lt z c)))) ≡ false
not_before a b c x y z h = grind (arith, nat_tests)

not_after : (s t : Tri) → is_lt (ordering_then (ordering_then (nat_cmp t.a s.a) (nat_cmp t.b s.b)) (nat_cmp t.c s.c)) ≡ false → tri_lt t s ≡ false
not_after s t h = not_before s.a s.b s.c t.a t.b t.c h

pub returns : goal.returns
returns c =
    let key : Tri → ℕ × ℕ × ℕ = λ t. (t.a, t.b, t.c) in
    let new = c.sort_by_key.new.self.items in
    let sorted = of_success c.sort_by_key.result c.if-is_err.ensures.value c.sort_by_key.ensures.sorted in
    sorts tri_lt same_corners tri-tests c.args.tris.now.items new c.sort_by_key.ensures.permutation
    (λ k d l. not_after (get_or new k d) (get_or new (k + 1) d) (sorted key (answers_always _ _ _ (λ f a r g h. search rules)) k d (omega arith) l))
