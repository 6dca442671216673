-- Directions: the numbers by which definitions name the four directions from a column to one beside it.
use Rattle.std.specs.Prelude.{ℕ}
use Rattle.nav_ground.specs.declared.direction.Direction.{Direction}
use Rattle.nav_ground.specs.declared.direction.Direction.TheVariants.{Left, Above, Right, Below}

-- the number of a direction: 0 is x - 1, 1 is z + 1, 2 is x + 1, 3 is z - 1
abbrev pub number : Direction → ℕ
number Left = 0
number Above = 1
number Right = 2
number Below = 3
