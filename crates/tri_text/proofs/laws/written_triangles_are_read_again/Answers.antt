use Rattle.tri_text.proofs.Again.{triangles_again_all}
use Rattle.tri_text.proofs.laws.written_triangles_are_read_again.Goals as goal

pub returns : goal.returns
returns c = triangles_again_all
