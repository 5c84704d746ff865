-- Texts that are said in parts.
use Rattle.std.proofs.Common.{◌≡◌, ℕ, ◌+◌, List, ◌++◌, length, take, refl, sym, ◌∙◌, ap, Option, Some, None, arith, append_assoc, length-append}
use Rattle.std.proofs.lemmas.List.{take-append-le}
use Rattle.std.proofs.Math.Seq.{take-append-add}
use Rattle.pf_shelf.specs.Sink.{extended, GainsPrefix}

-- two parts are one text
pub extended-twice : (told : Option (List ℕ)) (a b : List ℕ) → extended (extended told a) b ≡ extended told (a ++ b)
extended-twice None a b = refl
extended-twice (Some text) a b = ap (λ t. Some t) (append_assoc text a b)

-- a prefix of the first part
pub gains-front : (a b : List ℕ) (old new : Option (List ℕ)) → GainsPrefix a old new → GainsPrefix (a ++ b) old new
gains-front a b old new h = (h.0, (let l = h.1 in omega (arith, length-append a b)), h.2 ∙ ap (extended old) (sym (take-append-le h.0 a b h.1)))

-- the first part, and a prefix of the second
pub gains-back : (a b : List ℕ) (old mid new : Option (List ℕ)) → mid ≡ extended old a → GainsPrefix b mid new → GainsPrefix (a ++ b) old new
gains-back a b old mid new e h = (
  length a + h.0,
  (let l = h.1 in omega (arith, length-append a b)),
  h.2 ∙ (ap (λ m. extended m (take h.0 b)) e ∙ (extended-twice old a (take h.0 b) ∙ ap (extended old) (sym (take-append-add a b h.0)))),
)
