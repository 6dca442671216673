use Rattle.std.proofs.Common.{◌∙◌, sym}
use Rattle.nav_ground.specs.Touching.{are_meeting}
use Rattle.nav_ground.proofs.TouchLaws.{is_touching_Touches}
use Rattle.nav_ground.proofs.touch.touches.Goals as goal

pub returns-clause-test : goal.returns-clause-test
returns-clause-test c = c.are_meeting.ensures ∙ (λ i. are_meeting (c.touch_window.ensures i) (c.tile_bounds.ensures i))

pub returns-clause-touched : goal.returns-clause-touched
returns-clause-touched c =
    let same = returns-clause-test c in
    let both = is_touching_Touches c.args.setting.now c.args.tile c.args.shape.now c.requires.setting c.requires.there c.requires.shape in
    (λ holds. both.0 (sym same ∙ holds), λ touched. same ∙ both.1 touched)
