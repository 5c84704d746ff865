-- What is written of a partition is read again.
use Rattle.std.proofs.Common.{◌≡◌, ℕ, ◌+◌, ◌<◌, ◌≤◌, ◌^◌, true, List, [], ◌∷◌, length, refl, arith}
use Rattle.std.specs.Prelude.{Ok, map, decimal, nat_le}
use Rattle.std.specs.List.{AllByRecursion, list_all}
use Rattle.std.proofs.lemmas.Bool.Decides.{nat_tests}
use Rattle.std.proofs.lemmas.List.Elements.{recursion_from_All}
use Rattle.pf_lex.specs.Text.{placed, lines_past}
use Rattle.pf_lex.specs.Written.{is_plain_row, written_lines}
use Rattle.pf_lex.proofs.Laws.{text_lines-text}
use Rattle.pf_lex.specs.Number.{number_limit}
use Rattle.pf_lex.proofs.NumberLaws.{is_plain_word-decimal}
use Rattle.row_text.proofs.Numbers.{natural_within-decimal}
use Rattle.pf_model.specs.declared.Tri.{Tri}
use Rattle.table_text.specs.Part.{owner_on, line_owner, owner_words, parts_on, part_of, part_text_of}
use Rattle.table_text.specs.declared.fault.TableErr.TheVariants as fault
use Rattle.row_text.specs.Rows.{rows_of}
use Rattle.table_text.specs.Laws.{PartReadsAgain}

-- no owner is above 63
abbrev AreChunks : List Tri → Type 0
AreChunks tris = AllByRecursion (λ tri. tri.owner ≤ 63) tris

plain : (tris : List Tri) → AreChunks tris → list_all is_plain_row (map owner_words tris) ≡ true
plain [] few = refl
plain (tri ∷ tris) few = let small : tri.owner < 2 ^ 64 = omega (arith, few.0) in rw (is_plain_word-decimal tri.owner small, plain tris few.1) refl

-- a written owner is read as itself
owner_on-written : (line owner : ℕ) → owner ≤ 63 → owner_on line (placed 1 (decimal owner ∷ [])) ≡ Ok owner
unfolding owner_on
owner_on-written line owner few =
    let small : nat_le owner 63 ≡ true = grind (arith, nat_tests) in
    rw (natural_within-decimal _ number_limit owner 1 (omega arith) (omega arith), small) refl

-- written owners are read as themselves
owners_on-written : (past number place : ℕ) (tris : List Tri) → AreChunks tris → rows_of fault.Short fault.Extra line_owner past (length tris) place (written_lines number (map owner_words tris)) ≡ Ok (map (λ tri. tri.owner) tris)
owners_on-written past number place [] few = refl
owners_on-written past number place (tri ∷ tris) few = rw (owner_on-written number tri.owner few.0, owners_on-written past (number + 1) (place + 1) tris few.1) refl

pub part_reads_again : PartReadsAgain
unfolding part_of parts_on part_text_of
part_reads_again tris owners =
    let few = recursion_from_All (λ tri. tri.owner ≤ 63) tris owners in
    rw (text_lines-text (map owner_words tris) (plain tris few), owners_on-written (lines_past (part_text_of tris)) 1 0 tris few) refl
