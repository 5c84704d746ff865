use Rattle.std.proofs.Common.{◌≡◌, ℕ, List, Option, drop, map}
use Rattle.std.specs.Prelude.{is_some}
use Rattle.pf_shelf.specs.Files.{Tells, held}
use Rattle.pf_say.specs.declared.place.Place.{Place}
use Rattle.pf_cmd.specs.Output.{named_text, written, IsNoneOf}
use Rattle.pf_cmd.specs.CutOff.{IsCutAt}
use Rattle.pf_cmd.specs.Causes.{IsQuiet}
use Rattle.pf_cmd.proofs.output.write_files.Given as goal

abbrev pub invariant-loop-file : goal.invariant-loop-file
invariant-loop-file g l = record {
  written : Tells (g.S.Shelf.seen l.initial.shelf).told → written (map named_text (drop l.file-index l.files)) (held (g.S.Shelf.seen l.shelf).told) ≡ written (map named_text l.files) (held (g.S.Shelf.seen l.initial.shelf).told);
  cut : Tells (g.S.Shelf.seen l.initial.shelf).told → (place : Place) (new : List ℕ → Option (List ℕ)) → IsCutAt (map named_text (drop l.file-index l.files)) (held (g.S.Shelf.seen l.shelf).told) new place → IsCutAt (map named_text l.files) (held (g.S.Shelf.seen l.initial.shelf).told) new place;
  others : (name : List ℕ) → IsNoneOf (map named_text l.files) name → held (g.S.Shelf.seen l.shelf).told name ≡ held (g.S.Shelf.seen l.initial.shelf).told name;
  tells : is_some (g.S.Shelf.seen l.shelf).told ≡ is_some (g.S.Shelf.seen l.initial.shelf).told;
  write_faults : (g.S.Shelf.seen l.shelf).write_faults ≡ (g.S.Shelf.seen l.initial.shelf).write_faults;
  quiet : IsQuiet (g.S.Shelf.seen l.initial.shelf) (g.S.Shelf.seen l.shelf);
}
