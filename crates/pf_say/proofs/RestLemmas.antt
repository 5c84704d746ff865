-- A rest list's text, as far as it was written.
use Rattle.std.proofs.Common.{◌≡◌, ℕ, ◌+◌, ◌<◌, List, [], ◌∷◌, ◌++◌, length, drop, get_or, refl, append_assoc, append-nil, add-one}
use Rattle.std.specs.Prelude.{map, codes, decimal}
use Rattle.std.proofs.Math.Seq.{drop-cons}
use Rattle.std.proofs.lemmas.List.Concat.{flat_map-append}
use Rattle.pf_model.specs.declared.RestLine.{RestLine}
use Rattle.pf_model.specs.Texts.{line_text, lines_text, rest_words, rest_text}

-- the lines of the list
unfoldable pub list_text : List RestLine → List ℕ
list_text lines = lines_text (map rest_words lines)

-- the heading and the lines of the list
abbrev pub below_heading : List RestLine → List ℕ
below_heading lines = codes "parfum rest 1\n" ++ list_text lines

pub list_text-nil : list_text [] ≡ []
unfolding list_text
list_text-nil = refl

list_text-cons : (line : RestLine) (lines : List RestLine) → list_text (line ∷ lines) ≡ line_text (rest_words line) ++ list_text lines
unfolding list_text
list_text-cons line lines = refl

-- one more line was written
pub list_text-more : (text : List ℕ) (lines : List RestLine) (i : ℕ) (d : RestLine) (whole : List ℕ) → i < length lines → text ++ list_text (drop i lines) ≡ whole → (text ++ line_text (rest_words (get_or lines i d))) ++ list_text (drop (i + 1) lines) ≡ whole
list_text-more text lines i d whole in_range h =
    let e : drop i lines ≡ get_or lines i d ∷ drop (i + 1) lines = rw add-one (drop-cons lines i d in_range) in
    let k = rw (e, list_text-cons (get_or lines i d) (drop (i + 1) lines)) at h in
    rw append_assoc k

-- the end line closes the text
pub rest_text-end : (text : List ℕ) (lines : List RestLine) → text ≡ below_heading lines → text ++ codes "end " ++ decimal (length lines) ++ 10 ∷ [] ≡ rest_text lines
unfolding list_text
rest_text-end text lines is =
    let tail = flat_map-append line_text (map rest_words lines) ((codes "end" ∷ decimal (length lines) ∷ []) ∷ []) in
    rw (is, tail) (simp (append_assoc, append-nil))
