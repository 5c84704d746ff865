-- Stars without a name stay as they are where it gives way to another.
use Rattle.std.proofs.Common.{◌≡◌, ℕ, Bool, false, cond, ◌==◌, ◌||◌, List, [], ◌∷◌, refl, sym, ap}
use Rattle.std.specs.Prelude.{map}
use Rattle.std.proofs.lemmas.Bool.{or_parts}
use Rattle.pf_model.specs.declared.Spoke.{Spoke}
use Rattle.pf_model.specs.Stars.{Star, is_neighbour}
use Rattle.pf_star_model.specs.Patched.{renamed, renamed_spoke, renamed_star}

other_name : (old new n : ℕ) → (n == old) ≡ false → n ≡ renamed old new n
other_name old new n h = ap (λ (b : Bool). cond b new n) (sym h)

other_spokes : (old new : ℕ) (ss : List Spoke) → is_neighbour old ss ≡ false → ss ≡ map (renamed_spoke old new) ss
other_spokes old new [] h = refl
other_spokes old new (s ∷ ss) h =
    let p = or_parts (s.right == old || s.left == old) (is_neighbour old ss) h in
    let q = or_parts (s.right == old) (s.left == old) p.0 in
    λ i. record s { right = other_name old new s.right q.0 i; left = other_name old new s.left q.1 i } ∷ other_spokes old new ss p.1 i

pub other_star : (old new : ℕ) (s : Star) → (s.node == old || is_neighbour old s.spokes) ≡ false → s ≡ renamed_star old new s
other_star old new s h =
    let p = or_parts (s.node == old) (is_neighbour old s.spokes) h in
    λ i. record s { node = other_name old new s.node p.0 i; spokes = other_spokes old new s.spokes p.1 i }
