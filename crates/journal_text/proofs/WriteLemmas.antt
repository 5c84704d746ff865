-- A journal's text, as far as it was written.
use Rattle.std.proofs.Common.{◌≡◌, List, [], ◌∷◌, ◌++◌, length, append_assoc, append-nil}
use Rattle.std.specs.Prelude.{ℕ, map, codes, decimal}
use Rattle.std.proofs.lemmas.List.Concat.{flat_map-append}
use Rattle.row_text.proofs.Writing.{text_of}
use Rattle.pf_model.specs.declared.Entry.{Entry}
use Rattle.pf_model.specs.Texts.{line_text, entry_words, journal_text}

-- the heading and the lines of the entries
abbrev pub below_heading : List Entry → List ℕ
below_heading entries = codes "parfum journal 1\n" ++ text_of entry_words entries

-- the end line closes the text
pub journal_text-end : (text : List ℕ) (entries : List Entry) → text ≡ below_heading entries → text ++ line_text (codes "end" ∷ decimal (length entries) ∷ []) ≡ journal_text entries
unfolding text_of
journal_text-end text entries is =
    let tail = flat_map-append line_text (map entry_words entries) ((codes "end" ∷ decimal (length entries) ∷ []) ∷ []) in
    rw (is, tail) (simp (append_assoc, append-nil))

-- the words of a line, each with the byte that ends it
pub entry_text-words : (text first second third fourth fifth : List ℕ) → ((((text ++ first ++ 32 ∷ []) ++ second ++ 32 ∷ []) ++ third ++ 32 ∷ []) ++ fourth ++ 32 ∷ []) ++ fifth ++ 10 ∷ [] ≡ text ++ line_text (first ∷ second ∷ third ∷ fourth ∷ fifth ∷ [])
entry_text-words text first second third fourth fifth = simp append_assoc
