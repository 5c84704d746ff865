-- How many edges wait to be looked at.
use Rattle.std.specs.Prelude.{ℕ, ◌+◌, length}
use Rattle.pf_finish.specs.declared.todo.Todo.{Todo}

-- how many edges stand on the four stacks
abbrev pub waiting : Todo → ℕ
waiting t = length t.far + (length t.flips + (length t.long + length t.short))
