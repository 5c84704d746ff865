use Rattle.std.proofs.Common.{◌≡◌, ℕ, List, [], ◌∷◌, ◌++◌, length, sym, ◌∙◌, ap}
use Rattle.std.specs.Prelude.{codes, decimal}
use Rattle.std.specs.Fmt.{signed_decimal}
use Rattle.std.proofs.lemmas.List.{append_assoc, append-nil}
use Rattle.std.proofs.lemmas.List.Concat.{flat_map-append}
use Rattle.pf_model.specs.Sums.{euler_of, boundary_of}
use Rattle.pf_model.specs.Texts.{line_text, lines_text, mesh_lines}
use Rattle.pf_cmd.proofs.check.check_text.Goals as goal

-- three lines behind a text of lines
three_behind : (ls : List (List (List ℕ))) (a b d : List (List ℕ)) → lines_text ls ++ line_text a ++ line_text b ++ line_text d ≡ lines_text (ls ++ a ∷ b ∷ d ∷ [])
three_behind ls a b d =
    append_assoc (lines_text ls ++ line_text a) (line_text b) (line_text d)
    ∙ (append_assoc (lines_text ls) (line_text a) (line_text b ++ line_text d)
    ∙ (ap (λ t. lines_text ls ++ (line_text a ++ (line_text b ++ t))) (sym (append-nil (line_text d)))
    ∙ sym (flat_map-append line_text ls (a ∷ b ∷ d ∷ []))))

pub returns-clause-text : goal.returns-clause-text
returns-clause-text c =
    c.in_ok-put_chunks.ensures
    ∙ (ap (λ t. t ++ line_text (codes "chunks" ∷ decimal c.args.chunks ∷ []))
    (c.in_ok-put_boundary.ensures.text
    ∙ ap (λ t. t ++ line_text (codes "boundary" ∷ decimal (length (boundary_of c.args.mesh.now.mesh)) ∷ []))
    (c.in_ok-put_euler.ensures.text
    ∙ ap (λ t. t ++ line_text (codes "euler" ∷ signed_decimal (euler_of c.args.mesh.now.mesh) ∷ []))
    (c.in_ok-put_mesh.ensures ∙ ap (λ t. t ++ lines_text (mesh_lines c.args.mesh.now.mesh)) c.new-text.ensures.items)))
    ∙ three_behind (mesh_lines c.args.mesh.now.mesh) (codes "euler" ∷ signed_decimal (euler_of c.args.mesh.now.mesh) ∷ []) (codes "boundary" ∷ decimal (length (boundary_of c.args.mesh.now.mesh)) ∷ []) (codes "chunks" ∷ decimal c.args.chunks ∷ []))
