-- The tickets of entries that are applied one after another.
use Rattle.std.proofs.Common.{◌≡◌, ℕ, ◌+◌, ◌<◌, List, ◌∷◌, length, drop, get_or, add-one, refl, sym, subst}
use Rattle.std.proofs.lemmas.List.{drop_more}
use Rattle.pf_model.specs.declared.Entry.{Entry}
use Rattle.pf_model.specs.declared.Op.{Op}
use Rattle.pf_model.specs.declared.Op.TheVariants.{Flip, Bisect, Contract}
use Rattle.pf_model.specs.Mesh.{Undivided}
use Rattle.pf_model.specs.Applied.{op_applied}
use Rattle.pf_model.specs.Replay.{HasTicketsFrom}

-- no operation changes the first new name
pub first-after : (m : Undivided) (ticket : ℕ) (op : Op) → (op_applied m ticket op).first_new ≡ m.first_new
first-after m ticket (Flip a b) = refl
first-after m ticket (Bisect a b) = refl
first-after m ticket (Contract u v) = refl

-- the next ticket, and those of what is left
pub tickets-at : (es : List Entry) (i : ℕ) (d : Entry) → i < length es → HasTicketsFrom i (drop i es) → ((get_or es i d).ticket ≡ i) × HasTicketsFrom (i + 1) (drop (i + 1) es)
tickets-at es i d l h =
    let t : HasTicketsFrom i (get_or es i d ∷ drop (i + 1) es) = subst (λ (xs : List Entry). HasTicketsFrom i xs) (drop_more es i d l) h in
    (t.0, subst (λ k. HasTicketsFrom k (drop (i + 1) es)) (sym (add-one i)) t.1)
