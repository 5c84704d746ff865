-- The texts of the conditions that refuse an operation.
use Rattle.std.specs.Prelude.{ℕ, List}
use Rattle.std.specs.List.{join_with_byte}
use Rattle.pf_model.specs.declared.Cond.{Cond}
use Rattle.pf_model.specs.Texts.{condition_words}

-- the text of a condition: its words, parted by one space each
abbrev pub condition_text : Cond → List ℕ
condition_text cond = join_with_byte 32 (condition_words cond)
