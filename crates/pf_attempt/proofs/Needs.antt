-- What an answer of `need` says of the node that is needed.
use Rattle.std.proofs.Common.{◌≡◌, ℕ, refl}
use Rattle.std.specs.Prelude.{Option, Some, None}
use Rattle.pf_cavity.specs.declared.answer.Need.{Need}
use Rattle.pf_cavity.specs.declared.answer.Need.TheVariants.{Hold, Whole}
use Rattle.pf_cavity.specs.Need.{need_of}

pub none_needed : (x : Option ℕ) → Whole ≡ need_of x → x ≡ None
none_needed None e = refl
none_needed (Some n) e = absurd (let k : Whole ≡ Hold n = e in cc)

pub one_needed : (x : Option ℕ) (n : ℕ) → Hold n ≡ need_of x → x ≡ Some n
one_needed None n e = absurd (let k : Hold n ≡ Whole = e in cc)
one_needed (Some k) n e = (let q : Hold n ≡ Hold k = e in cc)
