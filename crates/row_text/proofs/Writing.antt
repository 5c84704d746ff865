-- A text of rows, as far as it was written.
use Rattle.std.proofs.Common.{◌≡◌, ℕ, ◌+◌, ◌<◌, ◌≤◌, List, ◌∷◌, ◌++◌, length, drop, get_or, refl, append_assoc, append-nil, add-one}
use Rattle.std.specs.Prelude.{map}
use Rattle.std.proofs.Math.Seq.{drop-cons}
use Rattle.std.proofs.lemmas.List.{drop_all}
use Rattle.pf_lex.specs.Written.{written_line, written_text}

-- the lines of these
unfoldable pub text_of : {X : Type 0} → (X → List (List ℕ)) → List X → List ℕ
text_of words xs = written_text (map words xs)

text_of-cons : {X : Type 0} (words : X → List (List ℕ)) (x : X) (xs : List X) → text_of words (x ∷ xs) ≡ written_line (words x) ++ text_of words xs
unfolding text_of
text_of-cons words x xs = refl

-- one more line was written
pub written-more : {X : Type 0} (words : X → List (List ℕ)) (text whole : List ℕ) (xs : List X) (i : ℕ) (d : X) → i < length xs → text ++ text_of words (drop i xs) ≡ whole → (text ++ written_line (words (get_or xs i d))) ++ text_of words (drop (i + 1) xs) ≡ whole
written-more words text whole xs i d in_range h =
    let e : drop i xs ≡ get_or xs i d ∷ drop (i + 1) xs = rw add-one (drop-cons xs i d in_range) in
    let k = rw (e, text_of-cons words (get_or xs i d) (drop (i + 1) xs)) at h in
    rw append_assoc k

-- all lines were written
pub written-all : {X : Type 0} (words : X → List (List ℕ)) (text whole : List ℕ) (xs : List X) (i : ℕ) → length xs ≤ i → text ++ text_of words (drop i xs) ≡ whole → text ≡ whole
unfolding text_of
written-all words text whole xs i past h = rw (drop_all i xs past, append-nil) at h
