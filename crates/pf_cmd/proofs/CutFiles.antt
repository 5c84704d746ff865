-- Files that are written one after another, up to one that isn't.
use Rattle.std.proofs.Common.{◌≡◌, ℕ, ◌+◌, ◌<◌, List, length, drop, map, get_or, refl, sym, subst, Option, ◌⊎◌, inl, inr}
use Rattle.pf_shelf.specs.Files.{Files, held, IsAsBefore, ChangesOnly, HoldsPrefix}
use Rattle.pf_say.specs.declared.place.Place.{Place}
use Rattle.pf_cmd.specs.declared.output.OutFile.{OutFile}
use Rattle.pf_cmd.specs.Output.{NamedText, named_text, with_file}
use Rattle.pf_cmd.specs.CutOff.{IsCutOff, IsCutAt}
use Rattle.pf_cmd.proofs.OutputLemmas.{front}

-- what a write that failed leaves
pub cut-off : (file : NamedText) (name bytes : List ℕ) (old new : Option Files) → name ≡ file.name → bytes ≡ file.text → ChangesOnly name old new → IsAsBefore old new ⊎ HoldsPrefix name bytes new → IsCutOff file (held old) (held new)
cut-off file name bytes old new e f others partly =
    record {
      others = (subst (λ n. ChangesOnly n old new) e others).others;
      itself =
          elim (subst (λ b. IsAsBefore old new ⊎ HoldsPrefix file.name b new) f (subst (λ n. IsAsBefore old new ⊎ HoldsPrefix n bytes new) e partly)) [
            | inl before ↦ inl (before.same file.name)
            | inr prefix ↦ inr prefix
          ];
    }

-- the next file is cut off
pub cut-here : (files : List OutFile) (k : ℕ) (item : OutFile) (look new : List ℕ → Option (List ℕ)) → k < length files → item ≡ get_or files k item → IsCutOff (named_text item) look new → IsCutAt (map named_text (drop k files)) look new item.place
cut-here files k item look new h e off = subst (λ xs. IsCutAt (map named_text xs) look new item.place) (sym (front files k item h e)) (inl (refl, off))

-- the next file is written, and a later one is cut off
pub cut-later : (files : List OutFile) (k : ℕ) (item : OutFile) (look mid new : List ℕ → Option (List ℕ)) (place : Place) → k < length files → item ≡ get_or files k item → mid ≡ with_file (named_text item) look → IsCutAt (map named_text (drop (k + 1) files)) mid new place → IsCutAt (map named_text (drop k files)) look new place
cut-later files k item look mid new place h e more cut =
    subst (λ xs. IsCutAt (map named_text xs) look new place) (sym (front files k item h e))
    (inr (subst (λ m. IsCutAt (map named_text (drop (k + 1) files)) m new place) more cut))
