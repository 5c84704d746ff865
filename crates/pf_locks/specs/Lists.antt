-- What is kept of nodes that are held.
use Rattle.std.specs.Prelude.{ℕ, zero, suc, List, [], ◌∷◌, cond, ◌==◌, map, Option, None}
use Rattle.pf_model.specs.Stars.{Star}
use Rattle.pf_core_model.specs.declared.sharer.Sharer.{Sharer}
use Rattle.pf_core_model.specs.Sharers.{kept_in}
use Rattle.pf_locks.specs.declared.kept.Kept.{Kept}

abbrev pub name_of : Kept → ℕ
name_of k = k.node

abbrev pub names_in : List Kept → List ℕ
names_in ks = map name_of ks

-- the place of the first that is the node's, or the length
abbrev pub first_place : List Kept → ℕ → ℕ
first_place [] n = zero
first_place (k ∷ ks) n = cond (k.node == n) zero (suc (first_place ks n))

-- what is kept of the node, read by f, or d
abbrev pub look_in : {A : Type 0} → (Kept → A) → A → List Kept → ℕ → A
look_in f d [] n = d
look_in f d (k ∷ ks) n = cond (k.node == n) (f k) (look_in f d ks n)

abbrev pub list_of : Kept → List Sharer
list_of k = k.list

-- the star that is lent: that of the first copy
abbrev pub lent_of : Kept → Option Star
lent_of k = cond k.lent (kept_in k.list) None

-- the list of copies that is kept of the node
abbrev pub list_in : List Kept → ℕ → List Sharer
list_in ks n = look_in list_of [] ks n

-- the star that is lent of the node
abbrev pub lent_in : List Kept → ℕ → Option Star
lent_in ks n = look_in lent_of None ks n

-- a slot in a seat's hands, whose list the seat keeps
abbrev pub slot_of : Kept → ℕ × List Sharer
slot_of k = (k.node, [])

abbrev pub slots_of : List Kept → List (ℕ × List Sharer)
slots_of ks = map slot_of ks
