use Rattle.nav_book.proofs.GroundTiles.{IsSetting-of_build}
use Rattle.nav_book.proofs.level.Level.ask_by.Goals as goal

pub ask-requires-clause-setting : goal.ask-requires-clause-setting
ask-requires-clause-setting g c =
    let state = c.args.self.now in
    IsSetting-of_build state.ground state.history state.published c.mesh.result.now c.mesh.ensures.rules.level c.mesh.ensures.value
