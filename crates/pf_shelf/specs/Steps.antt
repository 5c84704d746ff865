-- What two calls in a row leave of the files, for callers of several.
use Rattle.std.proofs.Common.{◌∙◌}
use Rattle.std.specs.Prelude.{◌≡◌, ℕ, List, Option, is_some}
use Rattle.pf_shelf.specs.Files.{Files, Tells, IsAsBefore, ChangesOnly}

-- a shelf that told its files still tells them
pub still_tells : (old new : Option Files) → is_some new ≡ is_some old → Tells old → Tells new
still_tells old new same tells = same ∙ tells

-- two changes at one name in a row are a change at that name
pub changes_then : (name : List ℕ) (a b c : Option Files) → ChangesOnly name a b → ChangesOnly name b c → ChangesOnly name a c
changes_then name a b c first second = record {
  tells = second.tells ∙ first.tells;
  others = λ other differs. second.others other differs ∙ first.others other differs;
}

-- files that are as before, twice in a row
pub before_then : (a b c : Option Files) → IsAsBefore a b → IsAsBefore b c → IsAsBefore a c
before_then a b c first second = record {
  tells = second.tells ∙ first.tells;
  same = λ name. second.same name ∙ first.same name;
}

-- where all files are as before, none has changed but one
pub before_changes : (name : List ℕ) (a b : Option Files) → IsAsBefore a b → ChangesOnly name a b
before_changes name a b same = record { tells = same.tells; others = λ other differs. same.same other }
