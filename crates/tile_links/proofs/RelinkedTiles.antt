-- New tile meshes written one after the other, and lists of links made again one after the other.
use Rattle.std.proofs.Common.{◌≡◌, ℕ, ◌+◌, ◌<◌, Bool, true, false, cond, List, [], ◌∷◌, ◌++◌, length, map, take, set, get_or, ap, ◌∙◌, sym, refl, subst, ⊎_elim, arith, Some, None}
use Rattle.std.specs.Prelude.{All, ◌==◌, unwrap_or, replicate}
use Rattle.std.specs.List.{find}
use Rattle.std.specs.Option.{option_map}
use Rattle.std.proofs.lemmas.Bool.{both_ways, cases_Bool, cases_eq, cases_lt, eq-eqb, eqb-true, ne_eqb}
use Rattle.std.proofs.lemmas.List.{get_or-map, get_or-replicate, get_or-set_same, get_or-set_other, get_or-take, get_or_default, get_or_past, get_or_read, length-map, length-replicate, length-set, length-take, same_lists, take_more}
use Rattle.std.proofs.lemmas.List.Elements.{All-head, All-tail}
use Rattle.nav_ground.specs.declared.setting.Setting.{Setting}
use Rattle.mesh_types.specs.declared.links.Link.{Link}
use Rattle.mesh_types.specs.declared.mesh.TileMesh.{TileMesh}
use Rattle.mesh_types.specs.Soundness.{AreTiles}
use Rattle.mesh_types.specs.Storeys.{no_storeys}
use Rattle.mesh_types.specs.WholeMesh.{cross_links}
use Rattle.tile_links.specs.NearTiles.{IsMarked}
use Rattle.tile_links.specs.NewTiles.{New, AreRising, is_near_new, tile_after, tiles_after}
use Rattle.tile_links.specs.Relinked.{AreInOrder, AreRelinked}
use Rattle.tile_links.proofs.NearTiles.{unmarked}

-- of a new tile mesh whose number is greater than all others
new_last : (news : List New) (new : New) (tile : TileMesh) → All (λ (other : New). other.0 < new.0) news
    → tile_after (news ++ new ∷ []) tile ≡ cond (new.0 == tile.tile) new.1 (tile_after news tile)
new_last [] new tile below = by_test (new.0 == tile.tile)
  where
    by_test : (b : Bool) → unwrap_or (option_map (λ (n : New). n.1) (cond b (Some new) None)) tile ≡ cond b new.1 tile
    by_test true = refl
    by_test false = refl
new_last (first ∷ news) new tile below =
    by_first (first.0 == tile.tile) refl (new_last news new tile (All-tail (λ (other : New). other.0 < new.0) first news below))
  where
    by_first : (b : Bool) → first.0 == tile.tile ≡ b → tile_after (news ++ new ∷ []) tile ≡ cond (new.0 == tile.tile) new.1 (tile_after news tile)
        → unwrap_or (option_map (λ (n : New). n.1) (cond b (Some first) (find (λ (n : New). n.0 == tile.tile) (news ++ new ∷ [])))) tile
        ≡ cond (new.0 == tile.tile) new.1 (unwrap_or (option_map (λ (n : New). n.1) (cond b (Some first) (find (λ (n : New). n.0 == tile.tile) news))) tile)
    by_first true same more =
        let number = eqb-true first.0 tile.tile same in
        let less = All-head (λ (other : New). other.0 < new.0) first news below in
        sym (ap (λ (b : Bool). cond b new.1 first.1) (ne_eqb new.0 tile.tile (λ e. omega (arith, e, number, less))))
    by_first false other more = more

-- the new tile meshes before a place have smaller numbers
before_are_below : (news : List New) (i : ℕ) (d : New) → AreRising news → i < length news → All (λ (other : New). other.0 < (get_or news i d).0) (take i news)
before_are_below news i d rising there k e within =
    let below : k < i = omega (arith, within, length-take i news) in
    subst (λ (other : New). other.0 < (get_or news i d).0) (sym (get_or-take i news k e below))
    (subst (λ (n : New). (get_or news k e).0 < n.0) (get_or_default news i e d there) (rising k i e below there))

-- one more new tile mesh is written at the place of its number
pub tiles_more : (news : List New) (tiles : List TileMesh) (i : ℕ) (d : New) → AreRising news → AreInOrder tiles → i < length news
    → set (tiles_after (take i news) tiles) (get_or news i d).0 (get_or news i d).1 ≡ tiles_after (take (i + 1) news) tiles
tiles_more news tiles i d rising order there =
    let new : New = get_or news i d in
    let before : List TileMesh = tiles_after (take i news) tiles in
    same_lists (set before new.0 new.1) (tiles_after (take (i + 1) news) tiles)
    (length-set before new.0 new.1 ∙ length-map tiles (tile_after (take i news)) ∙ sym (length-map tiles (tile_after (take (i + 1) news))))
    (λ k e within.
    let here : k < length tiles = omega (arith, within, length-set before new.0 new.1, length-map tiles (tile_after (take i news))) in
    let tile : TileMesh = get_or tiles k e in
    let after = get_or-map (tile_after (take (i + 1) news)) tiles k e e here
    ∙ ap (λ (ns : List New). tile_after ns tile) (take_more news i d there)
    ∙ new_last (take i news) new tile (before_are_below news i d rising there) in
    ⊎_elim
    (λ same. ap (λ (n : ℕ). get_or (set before new.0 new.1) n e) same
    ∙ get_or-set_same before new.0 new.1 e (omega (arith, same, here, length-map tiles (tile_after (take i news))))
    ∙ sym (after ∙ ap (λ (b : Bool). cond b new.1 (tile_after (take i news) tile)) (eq-eqb new.0 tile.tile (sym (order k e here ∙ same)))))
    (λ apart. get_or-set_other before new.0 k new.1 e apart
    ∙ get_or-map (tile_after (take i news)) tiles k e e here
    ∙ sym (after ∙ ap (λ (b : Bool). cond b new.1 (tile_after (take i news) tile)) (ne_eqb new.0 tile.tile (λ e'. apart (sym (e' ∙ order k e here))))))
    (cases_eq k new.0))

-- and with it so many are
pub tiles_step : (news : List New) (tiles after next : List TileMesh) (i : ℕ) (new : New) (item : TileMesh) → AreRising news → AreInOrder tiles → i < length news
    → after ≡ tiles_after (take i news) tiles → new ≡ get_or news i new → item ≡ new.1 → next ≡ set after new.0 item → next ≡ tiles_after (take (i + 1) news) tiles
tiles_step news tiles after next i new item rising order there so_far at is written =
    written ∙ (λ j. set (so_far j) new.0 (is j)) ∙ ap (λ (n : New). set (tiles_after (take i news) tiles) n.0 n.1) at
    ∙ tiles_more news tiles i new rising order there

-- nothing is made again yet
pub relinked_none : (setting : Setting) (tiles : List TileMesh) (cross : List (List Link)) (done : List Bool) (n : ℕ) → length cross ≡ length tiles
    → n ≡ length tiles → done ≡ replicate n false → AreRelinked setting tiles cross done cross
relinked_none setting tiles cross done n beside count none = record {
  marks = ap length none ∙ length-replicate n false ∙ count;
  beside = beside;
  made = λ t d e is. absurd (both_ways (get_or done t false) (ap (λ (marks : List Bool). get_or marks t false) none ∙ never n t) is);
  others = λ t d is. refl;
}
  where
    never : (n t : ℕ) → get_or (replicate n false) t false ≡ false
    never n t = ⊎_elim (λ below. get_or-replicate n t false false below) (λ past. get_or_past (replicate n false) t false (omega (arith, past, length-replicate n false))) (cases_lt t n)

-- one more list is made again
pub relinked_more : (setting : Setting) (tiles : List TileMesh) (cross after : List (List Link)) (done : List Bool) (place : ℕ) (tile : TileMesh) (links : List Link)
    → AreRelinked setting tiles cross done after → place < length tiles → tile ≡ get_or tiles place tile → links ≡ cross_links setting tiles tile
    → AreRelinked setting tiles cross (set done place true) (set after place links)
relinked_more setting tiles cross after done place tile links so_far there at are = record {
  marks = length-set done place true ∙ so_far.marks;
  beside = length-set after place links ∙ so_far.beside;
  made = λ t d e is. ⊎_elim
      (λ same. ap (λ (n : ℕ). get_or (set after place links) n d) same
      ∙ get_or-set_same after place links d (omega (arith, there, so_far.beside))
      ∙ are ∙ ap (cross_links setting tiles) (get_or_read tiles place tile there at e ∙ ap (λ (n : ℕ). get_or tiles n e) (sym same)))
      (λ apart. get_or-set_other after place t links d apart
      ∙ so_far.made t d e (sym (get_or-set_other done place t true false apart) ∙ is))
      (cases_eq t place);
  others = λ t d is. ⊎_elim
      (λ same. absurd (both_ways (get_or (set done place true) t false) is
      (ap (λ (n : ℕ). get_or (set done place true) n false) same ∙ get_or-set_same done place true false (omega (arith, there, so_far.marks)))))
      (λ apart. get_or-set_other after place t links d apart
      ∙ so_far.others t d (sym (get_or-set_other done place t true false apart) ∙ is))
      (cases_eq t place);
}

-- a tile of nothing
abbrev no_tile : TileMesh
no_tile = record { tile = 0; free = record { tile = 0; cells = [] }; polys = []; links = []; rim = []; storeys = no_storeys }

-- once those near the new tile meshes are made again, all are right
pub relinked_all : (setting : Setting) (news : List New) (tiles : List TileMesh) (cross after : List (List Link)) (done : List Bool) → AreTiles setting tiles
    → AreRelinked setting tiles cross done after → All (λ (new : New). IsMarked setting done new.0) news
    → ((t : ℕ) (d : List Link) (e : TileMesh) → t < length tiles → is_near_new setting news t ≡ false → get_or cross t d ≡ cross_links setting tiles (get_or tiles t e))
    → after ≡ map (cross_links setting tiles) tiles
relinked_all setting news tiles cross after done are relinked marked kept =
    same_lists after (map (cross_links setting tiles) tiles) (relinked.beside ∙ sym (length-map tiles (cross_links setting tiles)))
    (λ k d within.
    let here : k < length tiles = omega (arith, within, relinked.beside) in
    ⊎_elim
    (λ again. relinked.made k d no_tile again)
    (λ not. relinked.others k d not
    ∙ kept k d no_tile here (unmarked setting news done k marked (omega (arith, here, are.each)) not))
    (cases_Bool (get_or done k false))
    ∙ sym (get_or-map (cross_links setting tiles) tiles k no_tile d here))
