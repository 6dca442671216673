-- The tiles near new ones: those that no mark stands at are neither new nor beside a new one.
use Rattle.std.proofs.Common.{◌≡◌, ℕ, zero, suc, ◌+◌, ◌-◌, ◌*◌, ◌/◌, ◌%◌, ◌<◌, Bool, true, false, List, [], ◌∷◌, ◌++◌, length, take, drop, get_or, set, ap, ◌∙◌, sym, refl, subst, ⊎_elim, arith}
use Rattle.std.specs.Prelude.{All, Option, Some, None, is_some, ◌==◌, if◌then◌else◌}
use Rattle.std.specs.List.{find}
use Rattle.std.specs.Option.{option_map, option_map_or}
use Rattle.std.proofs.Math.Nat.{mod-add-div'}
use Rattle.std.proofs.lemmas.Bool.{both_ways, cases_Bool, cases_eq, eqb-true, lt-ltb, ne_eqb}
use Rattle.std.proofs.lemmas.List.{append-nil, drop_all, get_or-set_same, get_or-set_other, take_all}
use Rattle.std.proofs.lemmas.List.Elements.{All-head, All-tail}
use Rattle.nav_ground.specs.declared.setting.Setting.{Setting}
use Rattle.nav_ground.specs.Tiling.{tiles_in_row, tile_rows, tile_count}
use Rattle.mesh_types.specs.WholeMesh.{tile_across}
use Rattle.tile_links.specs.NearTiles.{IsMarked}
use Rattle.tile_links.specs.NewTiles.{New, is_near_new, is_new, is_new_across}
use Rattle.tile_links.proofs.TilesAcross.{placed_across}

-- a tile lies across a side of the tile that lies across a side of it
pub across_back : (setting : Setting) (tile side other : ℕ) → tile < tile_count setting → side < 4 → tile_across setting tile side ≡ Some other
    → (back : ℕ) × (back < 4) × (tile_across setting other back ≡ Some tile)
across_back setting tile zero other there four is =
    let columns : ℕ = tiles_in_row setting in
    let at = placed_across setting tile 0 other there four is in
    let own = mod-add-div' tile columns in
    let its = mod-add-div' other columns in
    let product = ap (λ n. n * columns) at.beside.1 in (
      2,
      omega arith,
      ap (λ (b : Bool). if b then Some (other + 1) else None) (lt-ltb (other % columns + 1) columns (omega (arith, at.beside.0, at.column)))
          ∙ ap (λ (n : ℕ). Some n) (omega (arith, own, its, product, at.beside.0)),
    )
across_back setting tile (suc zero) other there four is =
    let columns : ℕ = tiles_in_row setting in
    let at = placed_across setting tile 1 other there four is in
    let own = mod-add-div' tile columns in
    let its = mod-add-div' other columns in
    let product = ap (λ n. n * columns) at.beside.1 in (
      3,
      omega arith,
      ap (λ (b : Bool). if b then None else Some (other - columns)) (ne_eqb (other / columns) 0 (λ none. omega (arith, none, at.beside.1)))
          ∙ ap (λ (n : ℕ). Some n) (omega (arith, own, its, product, at.beside.0)),
    )
across_back setting tile (suc (suc zero)) other there four is =
    let columns : ℕ = tiles_in_row setting in
    let at = placed_across setting tile 2 other there four is in
    let own = mod-add-div' tile columns in
    let its = mod-add-div' other columns in
    let product = ap (λ n. n * columns) at.beside.1 in (
      0,
      omega arith,
      ap (λ (b : Bool). if b then None else Some (other - 1)) (ne_eqb (other % columns) 0 (λ none. omega (arith, none, at.beside.0)))
          ∙ ap (λ (n : ℕ). Some n) (omega (arith, own, its, product, at.beside.0)),
    )
across_back setting tile (suc (suc (suc zero))) other there four is =
    let columns : ℕ = tiles_in_row setting in
    let at = placed_across setting tile 3 other there four is in
    let own = mod-add-div' tile columns in
    let its = mod-add-div' other columns in
    let product = ap (λ n. n * columns) at.beside.1 in (
      1,
      omega arith,
      ap (λ (b : Bool). if b then Some (other + columns) else None) (lt-ltb (other / columns + 1) (tile_rows setting) (omega (arith, at.beside.1, at.row)))
          ∙ ap (λ (n : ℕ). Some n) (omega (arith, own, its, product, at.beside.0)),
    )
across_back setting tile (suc (suc (suc (suc side)))) other there four is = absurd (omega (arith, four))

-- what all new tiles are, a tile is that is new
pub new_there : (news : List New) (number : ℕ) (P : ℕ → Type 0) → All (λ (new : New). P new.0) news → is_new news number ≡ true → P number
new_there [] number P each is = absurd cc
new_there (new ∷ news) number P each is =
    by_first (new.0 == number) refl (λ more. new_there news number P (All-tail (λ (n : New). P n.0) new news each) more)
  where
    by_first : (b : Bool) → new.0 == number ≡ b → (is_new news number ≡ true → P number) → P number
    by_first true same further = subst P (eqb-true new.0 number same) (All-head (λ (n : New). P n.0) new news each)
    by_first false other further =
        further (sym (ap (λ (b : Bool). is_some (option_map (λ (n : New). n.1) (if b then Some new else find (λ (n : New). n.0 == number) news))) other) ∙ is)

-- a tile without a mark is not new, and none across its sides is
not_new : (setting : Setting) (news : List New) (near : List Bool) (tile : ℕ) → All (λ (new : New). IsMarked setting near new.0) news
    → get_or near tile false ≡ false → is_new news tile ≡ false
not_new setting news near tile marked none = ⊎_elim
    (λ new. absurd (both_ways (get_or near tile false) none (new_there news tile (IsMarked setting near) marked new).own))
    (λ old. old)
    (cases_Bool (is_new news tile))

not_beside : (setting : Setting) (news : List New) (near : List Bool) (tile side : ℕ) → All (λ (new : New). IsMarked setting near new.0) news
    → tile < tile_count setting → side < 4 → get_or near tile false ≡ false → is_new_across setting news tile side ≡ false
not_beside setting news near tile side marked there four none = by_across (tile_across setting tile side) refl
  where
    by_across : (found : Option ℕ) → tile_across setting tile side ≡ found → option_map_or (is_new news) found false ≡ false
    by_across None is = refl
    by_across (Some other) is = ⊎_elim
        (λ new.
        let back = across_back setting tile side other there four is in
        absurd (both_ways (get_or near tile false) none ((new_there news other (IsMarked setting near) marked new).beside back.0 back.1 tile back.2)))
        (λ old. old)
        (cases_Bool (is_new news other))

pub unmarked : (setting : Setting) (news : List New) (near : List Bool) (tile : ℕ) → All (λ (new : New). IsMarked setting near new.0) news
    → tile < tile_count setting → get_or near tile false ≡ false → is_near_new setting news tile ≡ false
unmarked setting news near tile marked there none =
    let across : (side : ℕ) → side < 4 → is_new_across setting news tile side ≡ false = λ side four. not_beside setting news near tile side marked there four none in
    rw (not_new setting news near tile marked none, across 0 (omega arith), across 1 (omega arith), across 2 (omega arith), across 3 (omega arith)) refl

-- a mark stays where another is made
pub still_marked : (near : List Bool) (tile other : ℕ) → tile < length near → get_or near other false ≡ true → get_or (set near tile true) other false ≡ true
still_marked near tile other there is = ⊎_elim
    (λ same. ap (λ (n : ℕ). get_or (set near tile true) n false) same ∙ get_or-set_same near tile true false there)
    (λ apart. get_or-set_other near tile other true false apart ∙ is)
    (cases_eq other tile)

pub IsMarked-kept : (setting : Setting) (near after : List Bool) (tile : ℕ) → ((other : ℕ) → get_or near other false ≡ true → get_or after other false ≡ true)
    → IsMarked setting near tile → IsMarked setting after tile
IsMarked-kept setting near after tile kept marked = record {
  own = kept tile marked.own;
  beside = λ side four other is. kept other (marked.beside side four other is);
}

-- what was lent whole comes back whole
pub lent_back : (len : ℕ) (items new : List Bool) → len ≡ length items → length new ≡ length items → take len (new ++ drop (length new) items) ≡ new
lent_back len items new count each =
    ap (λ (rest : List Bool). take len (new ++ rest)) (drop_all (length new) items (omega (arith, each)))
    ∙ ap (take len) (append-nil new)
    ∙ take_all len new (omega (arith, count, each))
