-- The statuses with which calls about meshes end, as numbers: those of nav_handle/specs/Statuses.
use Rattle.std.specs.Prelude.{ℕ}

-- all was done
abbrev pub ok : ℕ
ok = 0

-- memory was refused
abbrev pub no_memory : ℕ
no_memory = 1

-- a triangle has a fault
abbrev pub faulty : ℕ
faulty = 3

-- a number is out of its limits
abbrev pub out_of_range : ℕ
out_of_range = 4

-- there is too little room for what is told
abbrev pub no_room : ℕ
no_room = 14

-- the triangles give more spans than a field can have
abbrev pub too_many_spans : ℕ
too_many_spans = 18
