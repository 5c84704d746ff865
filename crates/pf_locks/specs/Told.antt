-- What the steps on words tell beside those of the table of steps.
use Rattle.std.specs.Prelude.{◌≡◌, ℕ, ◌≤◌, List, [], Some}
use Rattle.atomic_table.specs.Table.{Step}
use Rattle.pf_model.specs.declared.Op.TheVariants.{Flip}
use Rattle.pf_model.specs.declared.Cond.{Cond}
use Rattle.pf_model.specs.declared.Entry.{Entry}
use Rattle.pf_model.specs.Mesh.{Undivided}
use Rattle.pf_core_model.specs.declared.sharer.Sharer.{Sharer}
use Rattle.pf_core_model.specs.Lists.{times}
use Rattle.pf_core_model.specs.Core.{Opening, tickets_of}
use Rattle.pf_core_model.specs.Guards.{IsViewJudged}
use Rattle.pf_board_steps.specs.Plays.{Mine, After, Refuses, Commits, fresh_at}

-- the values that no call picks
abbrev pub no_mesh : Undivided
no_mesh = record { first_new = 0; sites = []; tris = []; bands = []; chunks = 0 }

abbrev pub no_opening : Opening
no_opening = record { mesh = no_mesh; budget = 0; workers = 0 }

abbrev pub no_entry : Entry
no_entry = record { ticket = 0; chunk = 0; op = Flip 0 0 }

-- the count of tickets is read, and the view stays: no ticket and no number stands twice in it, and its allowance is within the budget
abbrev pub Looks : Opening → Step (List Sharer) → Mine → ℕ → Mine → Type 0
Looks o st v found w = After o st w × ((t : ℕ) → times t (tickets_of v.0) ≤ 1) × ((k : ℕ) → times k v.0.numbers ≤ 1) × (v.0.allowance ≤ o.budget) × (w ≡ v)

-- an operation is refused at the count of tickets, by a condition that it fails as the view tells
abbrev pub FailsNoted : Opening → Entry → Step (List Sharer) → Mine → ℕ → Mine → Type 0
FailsNoted o e st v found w = (why : Cond) × IsViewJudged v.0 e.chunk e.op (Some why) × Refuses o e.chunk e.op why st v found w

-- an operation is made with the ticket that was drawn, and the held pairs are patched
abbrev pub DrawsFor : Opening → Entry → Step (List Sharer) → Mine → ℕ → Mine → Type 0
DrawsFor o e st v found w = Commits o e (fresh_at v.0 e) st v found w
