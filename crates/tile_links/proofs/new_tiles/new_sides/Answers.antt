use Rattle.std.proofs.Common.{ℕ, ◌++◌, ◌∷◌, [], true, map, ap, ◌∙◌, sym, arith}
use Rattle.std.specs.Global.{Vec}
use Rattle.std.specs.List.{filter, range_with_len}
use Rattle.std.proofs.lemmas.List.{map_push}
use Rattle.nav_ground.specs.declared.direction.Direction.{Direction}
use Rattle.nav_ground.specs.Directions.{number}
use Rattle.tile_links.specs.NewTiles.{is_new_across}
use Rattle.tile_links.proofs.KeptLinks.{one_more_side, no_more_side}
use Rattle.tile_links.proofs.new_tiles.new_sides.Goals as goal
use Rattle.tile_links.proofs.new_tiles.new_sides.Goals.{then-is_new_across+in_ok-push, else-is_new_across}

pub loop-beside-preserved : goal.loop-beside-preserved
loop-beside-preserved c =
    let q = is_new_across c.args.setting.now c.args.news.now c.args.tile in
    let before = c.loop-beside.sides.items in
    let looked = ap q (sym c.of-side.ensures) ∙ sym c.is_new_across.ensures in
    elim c.if-is_new_across.branch [
      | then-is_new_across+in_ok-push w ↦
          ap (λ (v : Vec Direction). map number v.items) w.sides-is ∙ ap (map number) w.in_ok-push.ensures.items
          ∙ map_push number before c.of-side.result ∙ ap (λ n. map number before ++ n ∷ []) c.of-side.ensures
          ∙ one_more_side q c.loop-beside.beside true (map number before) c.loop-beside.invariant (looked ∙ w.if-is_new_across.true)
      | else-is_new_across w ↦
          ap (λ (v : Vec Direction). map number v.items) w.sides-is
          ∙ no_more_side q c.loop-beside.beside (map number before) c.loop-beside.invariant (looked ∙ w.if-is_new_across.false)
    ]

pub returns : goal.returns
returns c =
    c.loop-beside.invariant
    ∙ ap (λ (n : ℕ). filter (is_new_across c.args.setting.now c.args.news.now c.args.tile) (range_with_len 0 n)) {x = c.loop-beside.beside} {y = 4}
    (omega (arith, c.loop-beside-test.false, c.loop-beside.auto.beside-end))
