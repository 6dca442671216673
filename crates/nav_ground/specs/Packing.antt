-- Packing: how a cell lies in small numbers.
use Rattle.std.specs.Prelude.{◌≡◌, ℕ, ◌==◌, Bool, true, false, if◌then◌else◌, List, [], ◌∷◌, map, Some, None}
use Rattle.std.proofs.Common.{refl, sym, ap, ◌∙◌}
use Rattle.std.proofs.lemmas.Bool.{eqb-true}
use Rattle.nav_ground.specs.declared.cell.Cell.{Cell}
use Rattle.nav_ground.specs.declared.packed.PackedCell.TheInside.{Inside}
use Rattle.nav_ground.specs.Levels.{level_of, number_of}

abbrev pub cell_view : Inside → Cell
cell_view inside = record {
  at = record { x = inside.x; z = inside.z; level = inside.level };
  floor = inside.floor;
  ceiling = inside.ceiling;
  area = inside.area;
  next = map level_of inside.levels;
}

abbrev pub cell_inverse : Cell → Inside
cell_inverse cell = record {
  x = cell.at.x;
  z = cell.at.z;
  level = cell.at.level;
  floor = cell.floor;
  ceiling = cell.ceiling;
  area = cell.area;
  levels = map number_of cell.next;
}

number_back : (n : ℕ) → number_of (level_of n) ≡ n
number_back n = by_test (n == 65535) (eqb-true n 65535)
  where
    by_test : (none : Bool) → (none ≡ true → n ≡ 65535) → number_of (if none then None else Some n) ≡ n
    by_test true h = sym (h refl)
    by_test false h = refl

pub numbers_back : (ns : List ℕ) → map number_of (map level_of ns) ≡ ns
numbers_back [] = refl
numbers_back (n ∷ ns) = ap (λ m. m ∷ map number_of (map level_of ns)) (number_back n) ∙ ap (λ ms. n ∷ ms) (numbers_back ns)

-- the cell gives the numbers back
pub cell_back : (inside : Inside) → cell_inverse (cell_view inside) ≡ inside
cell_back inside = ap (λ levels. record inside { levels = levels }) (numbers_back inside.levels)
