-- The part of a worker is one of the mesh.
use Rattle.std.proofs.Common.{◌<◌, ℕ, List, sym, subst, arith}
use Rattle.std.specs.Prelude.{All}
use Rattle.std.specs.List.{range_with_len}
use Rattle.std.proofs.lemmas.List.Elements.{All-filter}
use Rattle.std.proofs.lemmas.List.FromFn.{length-range_with_len, get_or-range_with_len}
use Rattle.pf_model.specs.Mesh.{Undivided}
use Rattle.pf_workers.specs.declared.parts.Part.{Part}
use Rattle.pf_workers.specs.Jobs.{IsPartOf, IsPartFor}

below : (n : ℕ) → All (λ k. k < n) (range_with_len 0 n)
below n k d low = let l = length-range_with_len 0 n in let near : k < n = omega (arith, l, low) in let at = get_or-range_with_len 0 n k d near in omega (arith, at, near)

pub part_of : (m : Undivided) (workers w : ℕ) (part : Part) → IsPartFor m workers w part → IsPartOf m part
part_of m workers w part own =
    record {
      chunks = subst (λ (l : List ℕ). All (λ c. c < m.chunks) l) (sym own.chunks) (All-filter _ (λ c. c < m.chunks) (range_with_len 0 m.chunks) (below m.chunks));
      start = subst (λ (l : List ℕ). All (λ n. n < m.first_new) l) (sym own.start) (All-filter _ (λ n. n < m.first_new) (range_with_len 0 m.first_new) (below m.first_new));
    }
