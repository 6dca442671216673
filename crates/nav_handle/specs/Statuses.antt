-- The statuses with which calls of the border end, as numbers that a host writes in its own source: include/navd.h has the same.
use Rattle.std.specs.Prelude.{ℕ}

-- all was done
abbrev pub ok : ℕ
ok = 0

-- memory was refused: what the call says of it holds, and nothing that was there is lost
abbrev pub no_memory : ℕ
no_memory = 1

-- the handle holds nothing
abbrev pub empty : ℕ
empty = 2

-- the text has a fault
abbrev pub faulty : ℕ
faulty = 3

-- a number is out of its limits
abbrev pub out_of_range : ℕ
out_of_range = 4

-- as many obstacles are alive as may be: the entry was made, and no obstacle
abbrev pub too_many : ℕ
too_many = 5

-- no obstacle with this number is alive: the entry was made, and nothing went
abbrev pub dead : ℕ
dead = 6

-- the history has as many entries as it can have: no entry was made
abbrev pub history_full : ℕ
history_full = 7

-- something is not built or published yet
abbrev pub not_yet : ℕ
not_yet = 8

-- it was so before
abbrev pub same : ℕ
same = 9

-- no polygon holds the place where the path or the ray begins
abbrev pub no_start : ℕ
no_start = 10

-- no polygon holds the place where the path ends
abbrev pub no_goal : ℕ
no_goal = 11

-- no walk joins the two places
abbrev pub no_path : ℕ
no_path = 12

-- the ray ends at an edge
abbrev pub wall : ℕ
wall = 13

-- there is too little room for what is told
abbrev pub no_room : ℕ
no_room = 14

-- the build is wanted no more: it was let go
abbrev pub stale : ℕ
stale = 15

-- the job is of another ground
abbrev pub foreign : ℕ
foreign = 16

-- the job's handle holds a job
abbrev pub busy : ℕ
busy = 17

-- the triangles give more spans than a field can have
abbrev pub too_many_spans : ℕ
too_many_spans = 18

-- the search came to its limit
abbrev pub limit : ℕ
limit = 20

-- the kept path leads on in part
abbrev pub cut : ℕ
cut = 21
