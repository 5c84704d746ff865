-- The lines of an answer to a trace, as they are written word by word.
use Rattle.std.proofs.Common.{◌≡◌, ℕ, List, [], ◌∷◌, ◌++◌, append_assoc, append-nil}
use Rattle.pf_model.specs.Texts.{line_text}

-- eight words
pub eight-words : (text a b c d e f g h : List ℕ)
    → (((((((text ++ a ++ 32 ∷ []) ++ b ++ 32 ∷ []) ++ c ++ 32 ∷ []) ++ d ++ 32 ∷ []) ++ e ++ 32 ∷ []) ++ f ++ 32 ∷ []) ++ g ++ 32 ∷ []) ++ h ++ 10 ∷ []
    ≡ text ++ line_text (a ∷ b ∷ c ∷ d ∷ e ∷ f ∷ g ∷ h ∷ [])
eight-words text a b c d e f g h = simp append_assoc

-- three lines
pub three-lines : (text a b c : List ℕ) → ((text ++ a) ++ b) ++ c ≡ text ++ (a ++ (b ++ (c ++ [])))
three-lines text a b c = simp (append_assoc, append-nil)
