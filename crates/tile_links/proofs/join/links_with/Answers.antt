use Rattle.std.proofs.Common.{◌≡◌, ℕ, ◌<◌, ◌≤◌, ◌++◌, [], ◌∙◌, ap, sym, subst, arith, length, map, take, drop, get_or, List}
use Rattle.std.specs.List.{flat_map, range_with_len}
use Rattle.std.proofs.lemmas.List.{flat_map_more, map_more}
use Rattle.std.proofs.lemmas.List.Elements.{All-weaker}
use Rattle.std.proofs.lemmas.Result.{IfOk-weaker}
use Rattle.nav_ground.specs.declared.direction.Direction.{Direction}
use Rattle.nav_ground.specs.declared.direction.Direction.TheVariants.{Left}
use Rattle.nav_ground.specs.Directions.{number}
use Rattle.mesh_types.specs.declared.links.Link.{Link}
use Rattle.mesh_types.specs.LinkIndex.{AreOrderedLinks, AreBelow}
use Rattle.mesh_types.specs.LinkOrder.{ordered_links}
use Rattle.mesh_types.specs.WholeMesh.{cross_links}
use Rattle.mesh_types.proofs.LinksInOrder.{ordered_links-polygons, All-ordered_links}
use Rattle.tile_links.specs.Loose.{loose_over, HasGained}
use Rattle.tile_links.proofs.FoundLinks.{gained_more}
use Rattle.tile_links.proofs.KeptLinks.{all_gained}
use Rattle.tile_links.proofs.MergedLinks.{gained_in_order}
use Rattle.tile_links.proofs.LooseLinks.{ordered_back, all_leave_tile, cross_links_found}
use Rattle.tile_links.proofs.join.links_with.Goals as goal

-- the links as they are handed on
made : (f : ℕ → List Link) (sides : List Direction) (i len : ℕ) (known items lent new : List Link) → len ≡ length items → lent ≡ items → length new ≡ length lent
    → new ≡ ordered_links lent → length sides ≤ i → HasGained known (flat_map f (map number (take i sides))) items
    → HasGained known (flat_map f (map number sides)) (flat_map f (range_with_len 0 4))
    → take len (new ++ drop (length new) items) ≡ ordered_links (flat_map f (range_with_len 0 4))
made f sides i len known items lent new count same kept order past gained others =
    ordered_back len items lent new (flat_map f (range_with_len 0 4)) count same kept order
    (all_gained f sides i known (flat_map f (range_with_len 0 4)) items past gained others)

pub loop-side-preserved : goal.loop-side-preserved
loop-side-preserved c =
    let f = loose_over c.args.tiled.setting.now c.args.tiled.tiles.now c.args.tile.now in
    let sides = c.args.sides.now in
    let i = c.loop-side.side-index in
    let before = map number (take i sides) in
    let side = number (get_or sides i Left) in
    let found = gained_in_order c.loop-side.links.items c.in_ok-found.found.items (f side) c.in_ok-links.links.items
    c.in_ok-found.ensures c.in_ok-links.ensures in
    let more = gained_more c.args.known.items (flat_map f before) (f side) c.loop-side.links.items c.in_ok-links.links.items
    c.loop-side.invariant found in
    let all = flat_map_more f [] before side ∙ ap (flat_map f) (sym (map_more number sides i Left c.loop-side-test.true)) in
    subst (λ (links : List Link). HasGained c.args.known.items links c.in_ok-links.links.items) all more

pub new-requires-clause-order : goal.new-requires-clause-order
new-requires-clause-order c =
    let tile = c.args.tile.now in
    subst AreOrderedLinks (sym (made (loose_over c.args.tiled.setting.now c.args.tiled.tiles.now c.args.tile.now) c.args.sides.now c.loop-side.side-index c.loop-side.links.len c.args.known.items
    c.loop-side.links.items c.as_mut_slice.result.now c.order_links.new.links c.loop-side.links.ok.0 c.as_mut_slice.ensures.value c.order_links.auto.links
    c.order_links.ensures c.loop-side-test.false c.loop-side.invariant c.requires.others))
    (ordered_links-polygons tile.tile _
    (All-weaker (λ (link : Link). (link.from.tile ≡ tile.tile) × (link.from.index < length tile.polys)) (λ (link : Link). link.from.tile ≡ tile.tile)
    (λ link facts. facts.0) _ (all_leave_tile c.args.tiled.setting.now c.args.tiled.tiles.now tile (range_with_len 0 4) c.requires.tile)))

pub new-requires-clause-within : goal.new-requires-clause-within
new-requires-clause-within c =
    let tile = c.args.tile.now in
    subst (AreBelow c.len.result) (sym (made (loose_over c.args.tiled.setting.now c.args.tiled.tiles.now c.args.tile.now) c.args.sides.now c.loop-side.side-index c.loop-side.links.len c.args.known.items
    c.loop-side.links.items c.as_mut_slice.result.now c.order_links.new.links c.loop-side.links.ok.0 c.as_mut_slice.ensures.value c.order_links.auto.links
    c.order_links.ensures c.loop-side-test.false c.loop-side.invariant c.requires.others))
    (All-ordered_links (λ (link : Link). link.from.index < c.len.result) _
    (All-weaker (λ (link : Link). (link.from.tile ≡ tile.tile) × (link.from.index < length tile.polys)) (λ (link : Link). link.from.index < c.len.result)
    (λ link facts. let below = facts.1 in omega (arith, below, c.len.ensures)) _ (all_leave_tile c.args.tiled.setting.now c.args.tiled.tiles.now tile (range_with_len 0 4) c.requires.tile)))

pub returns : goal.returns
returns c =
    IfOk-weaker c.new.result _ (λ links. links ≡ cross_links c.args.tiled.setting.now c.args.tiled.tiles.now c.args.tile.now)
    (λ links is. is ∙ made (loose_over c.args.tiled.setting.now c.args.tiled.tiles.now c.args.tile.now) c.args.sides.now c.loop-side.side-index c.loop-side.links.len c.args.known.items
    c.loop-side.links.items c.as_mut_slice.result.now c.order_links.new.links c.loop-side.links.ok.0 c.as_mut_slice.ensures.value c.order_links.auto.links
    c.order_links.ensures c.loop-side-test.false c.loop-side.invariant c.requires.others ∙ cross_links_found c.args.tiled.setting.now c.args.tiled.tiles.now c.args.tile.now) c.new.ensures
