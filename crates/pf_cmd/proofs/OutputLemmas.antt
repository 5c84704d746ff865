-- Files that are written one after another.
use Rattle.std.proofs.Common.{◌≡◌, ◌≢◌, ℕ, zero, suc, ◌+◌, ◌<◌, List, [], ◌∷◌, length, drop, map, get_or, drop-cons, add-one, refl, sym, ◌∙◌, ap, subst, Bool, true, false, Option, Some, arith}
use Rattle.std.specs.Str.{bytes_eq}
use Rattle.std.proofs.lemmas.Bool.Decides.{not_from_Decides}
use Rattle.std.proofs.lemmas.Slice.Eq.{bytes_eq-Decides}
use Rattle.pf_say.specs.declared.place.Place.{Place}
use Rattle.pf_say.specs.Place.{Stems, name_of}
use Rattle.pf_cmd.specs.Commands.{AreUnnamed}
use Rattle.pf_cmd.specs.declared.output.OutFile.{OutFile}
use Rattle.pf_cmd.specs.Output.{NamedText, named_text, with_file, written, IsNoneOf}

pub same-name : (a b : List ℕ) → bytes_eq a b ≡ true → a ≡ b
same-name a b e = (bytes_eq-Decides a b).0 e

pub other-name : (a b : List ℕ) → bytes_eq a b ≡ false → a ≢ b
other-name a b e p = not_from_Decides (bytes_eq a b) (bytes_eq-Decides a b) e p

-- a file that is written, and no other changed
pub with_file-held : (file : NamedText) (look new : List ℕ → Option (List ℕ)) → new file.name ≡ Some file.text → ((other : List ℕ) → other ≢ file.name → new other ≡ look other) → new ≡ with_file file look
with_file-held file look new whole others = λ i name. at name i
  where
    at : (name : List ℕ) → new name ≡ with_file file look name
    at name = go (bytes_eq name file.name) refl
      where
        go : (b : Bool) → bytes_eq name file.name ≡ b → new name ≡ with_file file look name
        go true e = rw e (ap new (same-name name file.name e) ∙ whole)
        go false e = rw e (others name (other-name name file.name e))

-- the files from a place on are that one and those behind it
pub front : (files : List OutFile) (k : ℕ) (item : OutFile) → k < length files → item ≡ get_or files k item → drop k files ≡ item ∷ drop (k + 1) files
front files k item h e = rw (add-one, drop-cons files k item) (ap (λ x. x ∷ drop (suc k) files) (sym e))

-- one more of the files is written
pub written-more : (files : List OutFile) (k : ℕ) (item : OutFile) (look new : List ℕ → Option (List ℕ)) → k < length files → item ≡ get_or files k item → new ≡ with_file (named_text item) look → written (map named_text (drop (k + 1) files)) new ≡ written (map named_text (drop k files)) look
written-more files k item look new h e more =
    ap (written (map named_text (drop (k + 1) files))) more
    ∙ sym (ap (λ xs. written (map named_text xs) look) (front files k item h e))

-- a name that is that of none isn't that of any
pub none-at : (files : List OutFile) (name : List ℕ) (k : ℕ) (item : OutFile) → k < length files → item ≡ get_or files k item → IsNoneOf (map named_text files) name → bytes_eq name (named_text item).name ≡ false
none-at files name k item h e none = subst (λ x. bytes_eq name (named_text x).name ≡ false) (sym e) (go files k h none)
  where
    go : (files : List OutFile) (k : ℕ) → k < length files → IsNoneOf (map named_text files) name → bytes_eq name (named_text (get_or files k item)).name ≡ false
    go [] k h none = absurd (omega arith)
    go (f ∷ fs) zero h none = none.0
    go (f ∷ fs) (suc k) h none = go fs k (let l : suc k < suc (length fs) = h in omega arith) none.1

-- a name that is that of no place isn't that of any of the files with these names
pub none-of : (stems : Stems) (places : List Place) (files : List NamedText) (name : List ℕ) → map (λ file. file.name) files ≡ map (name_of stems) places → AreUnnamed stems places name → IsNoneOf files name
none-of stems places [] name e h = tt
none-of stems [] (file ∷ files) name e h = absurd (let k = e in cc)
none-of stems (place ∷ places) (file ∷ files) name e h =
    let first : file.name ≡ name_of stems place = (let k = e in cc) in
    let others : map (λ file. file.name) files ≡ map (name_of stems) places = (let k = e in cc) in
    (differs name file.name (λ q. h.0 (q ∙ first)), none-of stems places files name others h.1)
  where
    differs : (a b : List ℕ) → a ≢ b → bytes_eq a b ≡ false
    differs a b ne = go (bytes_eq a b) refl
      where
        go : (t : Bool) → bytes_eq a b ≡ t → t ≡ false
        go true e = absurd (ne (same-name a b e))
        go false e = refl
