use Rattle.std.proofs.Common.{List, [], ◌∷◌, rules, refl, sym, ap, ◌∙◌, subst}
use Rattle.std.specs.Arc.{arc_value}
use Rattle.std.proofs.lemmas.List.Elements.{All-head}
use Rattle.nav_ground.specs.declared.history.Entry.{Entry}
use Rattle.nav_ground.specs.declared.history.Ground.{Ground}
use Rattle.nav_ground.specs.declared.shape.Shape.{Shape}
use Rattle.nav_ground.specs.Limits.{IsShape}
use Rattle.tile_build.specs.Meshes.{tiles_under}
use Rattle.nav_version.specs.declared.press.Patch.{Patch}
use Rattle.nav_version.specs.Pairs.{IsPatch}
use Rattle.tests_paths.specs.OneTile.{numbered_tiles}
use Rattle.tests_paths.specs.declared.versions.TheConstants.{ADDED, BLOCK}
use Rattle.tests_paths.proofs.OneTilePatches.{is_patch}
use Rattle.tests_paths.proofs.versions.covering.Goals as goal

pub returns : goal.returns
returns g c =
    let ground : Ground = arc_value c.args.version.now.ground in
    let shapes : List Shape = BLOCK ∷ [] in
    let patch : Patch = record { entries = c.push.new.self; tiles = c.in_ok-tiles.tiles } in
    subst (λ (entries : List Entry). IsPatch ground entries patch) (sym c.requires.none)
    (is_patch ground shapes ADDED patch (tiles_under ground shapes) c.requires.rules.ground c.requires.one (search rules) (All-head IsShape BLOCK [] (search rules)) refl refl (search rules)
    (c.in_ok-tiles.ensures ∙ ap (λ (ground : Ground). numbered_tiles (tiles_under ground shapes)) c.deref.ensures))
