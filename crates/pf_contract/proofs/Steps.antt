-- The least of the names of spokes that passes, spoke by spoke.
use Rattle.std.proofs.Common.{◌≡◌, ℕ, ◌+◌, ◌<◌, List, [], ◌∷◌, length, drop, filter, map, sym, ◌∙◌, ap, Bool}
use Rattle.std.specs.Prelude.{Option, fold, slice_index_or}
use Rattle.std.proofs.lemmas.List.{drop_more}
use Rattle.pf_model.specs.declared.Spoke.{Spoke}
use Rattle.pf_model.specs.Rows.{lesser}
use Rattle.pf_rings.proofs.Least.{fold-parts}

-- one name more, of the spoke at a place
pub next-name : (p : ℕ → Bool) (f : Spoke → ℕ) (ss : List Spoke) (k : ℕ) (d : Spoke) (o : Option ℕ) (x : ℕ) → k < length ss → x ≡ f (slice_index_or ss k d) → fold lesser (fold lesser o (filter p (x ∷ []))) (filter p (map f (drop (k + 1) ss))) ≡ fold lesser o (filter p (map f (drop k ss)))
next-name p f ss k d o x h e =
    (λ i. fold lesser (fold lesser o (filter p (e i ∷ []))) (filter p (map f (drop (k + 1) ss))))
    ∙ (sym (fold-parts p o (f (slice_index_or ss k d) ∷ []) (map f (drop (k + 1) ss))) ∙ ap (λ l. fold lesser o (filter p (map f l))) (sym (drop_more ss k d h)))
