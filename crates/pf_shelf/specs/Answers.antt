-- What `read_all` may answer.
use Rattle.std.specs.Prelude.{ℕ}
use Rattle.pf_shelf.specs.declared.all.ReadErr.{ReadErr}
use Rattle.pf_shelf.specs.declared.all.ReadErr.TheVariants.{TooLong}

-- a fact about the limit that the error names, if it is TooLong
abbrev pub IfTooLong : ReadErr → (ℕ → Type 0) → Type 0
IfTooLong (TooLong limit) P = P limit
IfTooLong _ P = Unit {0}
