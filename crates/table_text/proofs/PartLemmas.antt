-- A partition that was read as far as some line: what the whole text says, by what was read and what is left.
use Rattle.std.proofs.Common.{◌≡◌, ℕ, ◌+◌, ◌-◌, ◌<◌, ◌≤◌, Bool, true, List, [], ◌∷◌, ◌++◌, Result, Ok, Err, refl, ap, sym, ◌∙◌, append-nil, arith}
use Rattle.std.specs.Prelude.{All, max}
use Rattle.std.specs.List.{AllByRecursion}
use Rattle.std.proofs.lemmas.List.Elements.{All-from_recursion}
use Rattle.pf_lex.specs.Text.{TextLine}
use Rattle.row_text.specs.Rows.{at_text_end, rows_of}
use Rattle.row_text.proofs.Reading.{IsReadTo, read_to-more, read_to-fault, read_to-end, text_end-extra, text_end-none, rows_of-more, rows_of-refused, rows_of-short, rows_of-end}
use Rattle.table_text.specs.Part.{owner_on, line_owner, owners_on, chunks_among, parts_on}
use Rattle.table_text.specs.declared.fault.TableErr.{TableErr}
use Rattle.table_text.specs.declared.fault.TableErr.TheVariants as fault

-- of so many chunks, of which these owners name the greatest
pub record AreOwners (chunks : ℕ) (owners : List ℕ) : Type 0 where
  pub greatest : chunks ≡ chunks_among owners
  pub few : chunks ≤ 64

-- the owners that are left, once so many were read
abbrev pub owners_left : ℕ → ℕ → ℕ → List TextLine → Result (List ℕ) TableErr
owners_left past triangles place left = rows_of fault.Short fault.Extra line_owner past (triangles - place) place left

-- where the reading stands: the lines that are left, and the owners that were read
pub record PartStands (past triangles : ℕ) (all left : List TextLine) (now place chunks : ℕ) (fits : Bool) (owners : List ℕ) : Type 0 where
  pub past_is : now ≡ past
  pub read : IsReadTo (AreOwners chunks) (owners_on past triangles all) (owners_left past triangles place left) place fits owners

chunks-append : (owners : List ℕ) (owner : ℕ) → max (chunks_among owners) (owner + 1) ≡ chunks_among (owners ++ owner ∷ [])
chunks-append [] owner = omega arith
chunks-append (first ∷ owners) owner = let e = chunks-append owners owner in omega (arith, e)

owners-more : (chunks owner : ℕ) (owners : List ℕ) → owner ≤ 63 → AreOwners chunks owners → AreOwners (max chunks (owner + 1)) (owners ++ owner ∷ [])
owners-more chunks owner owners small h =
    record { greatest = rw h.greatest (chunks-append owners owner); few = omega (arith, h.few) }

module _ (past triangles : ℕ) (all left : List TextLine) (now place chunks : ℕ) (fits : Bool) (owners : List ℕ) (s : PartStands past triangles all left now place chunks fits owners) where
  failed : (e : TableErr) → owners_on past triangles all ≡ Err e → parts_on past triangles all ≡ Err e
  unfolding parts_on
  failed e h = rw h refl

  -- the next line is missing
  pub is_short : (e : TableErr) → place < triangles → left ≡ [] → e ≡ fault.Short now → parts_on past triangles all ≡ Err e
  is_short e more none is =
      failed e (read_to-fault _ _ _ _ _ _ e s.read (rw none (rows_of-short fault.Short fault.Extra line_owner past place (triangles - place) (omega arith) ∙ ap (λ n. Err (fault.Short n)) (sym s.past_is) ∙ ap (λ f. Err f) (sym is))))

  module _ (line : TextLine) (rest : List TextLine) (there : left ≡ line ∷ rest) where
    -- the next line has a fault
    pub is_bad : (e : TableErr) → place < triangles → Err e ≡ owner_on line.line line.words → parts_on past triangles all ≡ Err e
    is_bad e more reads =
        failed e (read_to-fault _ _ _ _ _ _ e s.read (rw there (rows_of-refused fault.Short fault.Extra line_owner past place (triangles - place) line rest e (omega arith) (sym reads))))

    -- the next owner was read
    pub goes_on : (owner now' chunks' : ℕ) (fits' : Bool) (owners' : List ℕ) → place < triangles → now' ≡ now → chunks' ≡ max chunks (owner + 1) → Ok owner ≡ owner_on line.line line.words → owner ≤ 63 → (fits' ≡ true → (fits ≡ true) × (owners' ≡ owners ++ owner ∷ [])) → PartStands past triangles all rest now' (place + 1) chunks' fits' owners'
    goes_on owner now' chunks' fits' owners' more same greatest reads small kept =
        let less : triangles - place - 1 ≡ triangles - (place + 1) = omega arith in
        rw greatest
        record {
          past_is = same ∙ s.past_is;
          read =
              read_to-more (AreOwners chunks) (AreOwners (max chunks (owner + 1))) _ _ _ _ _ _ _ _ _ owner s.read
              (rw (there, ← less) (rows_of-more fault.Short fault.Extra line_owner past place (triangles - place) line rest owner (omega arith) (sym reads)))
              (λ front _ h. owners-more chunks owner front small h) kept refl;
        }

  ended : triangles ≤ place → owners_left past triangles place left ≡ at_text_end fault.Extra left (Ok [])
  ended done = rows_of-end fault.Short fault.Extra line_owner past place (triangles - place) left (omega arith)

  -- a further line stands there
  pub is_extra : (e : TableErr) → triangles ≤ place → Err e ≡ at_text_end {A = Unit {0}} fault.Extra left (Ok tt) → parts_on past triangles all ≡ Err e
  is_extra e done is = failed e (read_to-fault _ _ _ _ _ _ e s.read (ended done ∙ text_end-extra fault.Extra left (Ok []) e is))

  -- all owners were read
  pub is_done : triangles ≤ place → Ok tt ≡ at_text_end {A = Unit {0}} fault.Extra left (Ok tt) → parts_on past triangles all ≡ Ok record { owners = s.read.front; chunks = chunks }
  unfolding parts_on
  is_done done end =
      let is : owners_on past triangles all ≡ Ok (s.read.front ++ []) = read_to-end _ _ _ _ _ _ [] s.read (ended done ∙ rw (text_end-none fault.Extra left end) refl) in
      rw (is, append-nil) (ap (λ k. Ok record { owners = s.read.front; chunks = k }) (sym s.read.holds.greatest))

below-more : (xs : List ℕ) (low high : ℕ) → low ≤ high → AllByRecursion (λ x. x < low) xs → AllByRecursion (λ x. x < high) xs
below-more [] low high le h = tt
below-more (x ∷ xs) low high le h = (omega (arith, h.0), below-more xs low high le h.1)

below-chunks : (owners : List ℕ) → AllByRecursion (λ owner. owner < chunks_among owners) owners
below-chunks [] = tt
below-chunks (owner ∷ owners) = (omega arith, below-more owners (chunks_among owners) (chunks_among (owner ∷ owners)) (omega arith) (below-chunks owners))

-- each owner is below the number of chunks
pub chunks_among-above : (owners : List ℕ) → All (λ owner. owner < chunks_among owners) owners
chunks_among-above owners = All-from_recursion (λ owner. owner < chunks_among owners) owners (below-chunks owners)

-- there is a chunk
pub chunks_among-some : (owners : List ℕ) → 1 ≤ chunks_among owners
chunks_among-some [] = omega arith
chunks_among-some (owner ∷ owners) = omega arith
