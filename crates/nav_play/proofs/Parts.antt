-- Steps that are taken in two parts.
use Rattle.std.proofs.Common.{◌≡◌, ℕ, ◌+◌, ap, subst, arith}
use Rattle.nav_ground.specs.declared.history.Ground.{Ground}
use Rattle.nav_ground.specs.Tiling.{tile_count}
use Rattle.nav_script.specs.declared.script.Line.{Line}
use Rattle.std.specs.Prelude.{List}
use Rattle.nav_base.specs.Counts.{HasRisenAtMost}
use Rattle.nav_play.specs.PlayStates.{PlayState}
use Rattle.nav_play.specs.Work.{jobs_from}

-- the first part alone, and both
pub first_part : (a b m n : ℕ) → HasRisenAtMost a m n → HasRisenAtMost (a + b) m n
first_part a b m n risen = record { least = risen.least; most_risen = omega (arith, risen.most_risen) }

pub both_parts : (lines : List Line) (state first : PlayState) (a m n k : ℕ) → state ≡ first → n ≡ m + a → HasRisenAtMost (jobs_from state lines) n k
    → HasRisenAtMost (a + jobs_from first lines) m k
both_parts lines state first a m n k same built risen =
    let jobs = ap (λ (s : PlayState). jobs_from s lines) same in
    record { least = omega (arith, built, risen.least); most_risen = omega (arith, built, jobs, risen.most_risen) }

pub all_parts : (lines : List Line) (state first : PlayState) (a m n k : ℕ) → state ≡ first → n ≡ m + a → k ≡ n + jobs_from state lines
    → k ≡ m + (a + jobs_from first lines)
all_parts lines state first a m n k same built played =
    let jobs = ap (λ (s : PlayState). jobs_from s lines) same in
    omega (arith, built, jobs, played)

-- the tiles of a ground
pub tiles_risen : (ground made : Ground) (m n : ℕ) → made ≡ ground → HasRisenAtMost (tile_count made.setting) m n → HasRisenAtMost (tile_count ground.setting) m n
tiles_risen ground made m n same risen = subst (λ (ground : Ground). HasRisenAtMost (tile_count ground.setting) m n) same risen

pub tiles_taken : (ground made : Ground) (m n : ℕ) → made ≡ ground → n ≡ m + tile_count made.setting → n ≡ m + tile_count ground.setting
tiles_taken ground made m n same taken = subst (λ (ground : Ground). n ≡ m + tile_count ground.setting) same taken
