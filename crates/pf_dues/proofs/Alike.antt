-- Lists of spokes that are compared place by place.
use Rattle.std.proofs.Common.{◌≡◌, ◌≢◌, ℕ, zero, suc, ◌+◌, ◌<◌, Bool, true, false, ◌&&◌, List, [], ◌∷◌, length, get_or, drop, refl, sym, ap, ◌∙◌, arith}
use Rattle.pf_model.specs.declared.Spoke.{Spoke}
use Rattle.pf_core_model.specs.Same.{same_spoke, same_spokes}

pub same_long : (a b : List Spoke) → length a ≢ length b → same_spokes a b ≡ false
same_long [] [] ne = absurd (ne refl)
same_long [] (t ∷ ts) ne = refl
same_long (s ∷ ss) [] ne = refl
same_long (s ∷ ss) (t ∷ ts) ne = ap (λ (x : Bool). same_spoke s t && x) (same_long ss ts (λ e. ne (ap suc e))) ∙ miss (same_spoke s t)
  where
    miss : (b : Bool) → (b && false) ≡ false
    miss true = refl
    miss false = refl

pub same_next : (k : ℕ) (a b : List Spoke) (d : Spoke) → k < length a → length a ≡ length b → same_spoke (get_or a k d) (get_or b k d) ≡ true → same_spokes (drop (suc k) a) (drop (suc k) b) ≡ same_spokes (drop k a) (drop k b)
same_next k [] b d low long e = absurd (omega arith)
same_next k (s ∷ ss) [] d low long e = absurd (omega arith)
same_next zero (s ∷ ss) (t ∷ ts) d low long e = ap (λ (x : Bool). x && same_spokes ss ts) (sym e)
same_next (suc k) (s ∷ ss) (t ∷ ts) d low long e = same_next k ss ts d (omega arith) (omega arith) e

pub same_stop : (k : ℕ) (a b : List Spoke) (d : Spoke) → k < length a → length a ≡ length b → same_spoke (get_or a k d) (get_or b k d) ≡ false → same_spokes (drop k a) (drop k b) ≡ false
same_stop k [] b d low long e = absurd (omega arith)
same_stop k (s ∷ ss) [] d low long e = absurd (omega arith)
same_stop zero (s ∷ ss) (t ∷ ts) d low long e = ap (λ (x : Bool). x && same_spokes ss ts) e
same_stop (suc k) (s ∷ ss) (t ∷ ts) d low long e = same_stop k ss ts d (omega arith) (omega arith) e

pub same_end : (k : ℕ) (a b : List Spoke) → k ≡ length a → length a ≡ length b → same_spokes (drop k a) (drop k b) ≡ true
same_end zero [] [] e long = refl
same_end (suc k) [] b e long = absurd (omega arith)
same_end k [] (t ∷ ts) e long = absurd (omega arith)
same_end zero (s ∷ ss) b e long = absurd (omega arith)
same_end (suc k) (s ∷ ss) [] e long = absurd (omega arith)
same_end (suc k) (s ∷ ss) (t ∷ ts) e long = same_end k ss ts (omega arith) (omega arith)
