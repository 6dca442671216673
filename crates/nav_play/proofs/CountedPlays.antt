-- How many steps two plays take, which were counted by hand.
use Rattle.std.proofs.Common.{◌≡◌, ℕ, false, List, [], ◌∷◌, replicate, refl}
use Rattle.nav_ground.specs.declared.field.Field.{Field}
use Rattle.nav_ground.specs.declared.setting.Setting.{Setting}
use Rattle.nav_ground.specs.declared.setting.MeshKind.TheVariants.{Strips}
use Rattle.nav_ground.specs.declared.shape.Shape.TheVariants.{Block}
use Rattle.nav_script.specs.declared.script.Line.{Line}
use Rattle.nav_script.specs.declared.script.Line.TheVariants.{Add, Settle, Aim, Claim, Submit, Publish}
use Rattle.nav_script.specs.declared.script.Script.{Script}
use Rattle.nav_book.specs.Settling.{all_built}
use Rattle.nav_play.specs.Work.{builds_of, jobs_from}

-- a square field with tiles of a side
abbrev square : ℕ → ℕ → Setting
square side tile = record {
  width = side;
  depth = side;
  tile = tile;
  agent = record { height = 10; climb = 4; radius = 0 };
  error = 169;
  mesh = Strips;
  limit = 4;
  costs = replicate 64 1;
  clear = false;
}

abbrev by_one : List Line → Script
by_one lines = record { lanes = 1; workers = 1; lines = lines }

-- a block on the corner of four tiles: four builds at the beginning, one by the worker, and three by the `settle` line
four_tiles : (field : Field)
    → builds_of (square 8 4) field (by_one (Add (Block 3 4 0 100 3 4) ∷ Aim ∷ Publish ∷ Claim 0 ∷ Submit 0 ∷ Publish ∷ Settle ∷ Publish ∷ [])) ≡ 8
unfolding jobs_from all_built
four_tiles field = refl

-- one tile: its build at the beginning, one that is stale when it is submitted, and one more
one_tile : (field : Field)
    → builds_of (square 6 6) field (by_one (Add (Block 2 2 0 100 2 2) ∷ Aim ∷ Claim 0 ∷ Add (Block 3 3 0 100 2 2) ∷ Aim ∷ Submit 0 ∷ Claim 0 ∷ Submit 0 ∷ Publish ∷ [])) ≡ 3
unfolding jobs_from all_built
one_tile field = refl
