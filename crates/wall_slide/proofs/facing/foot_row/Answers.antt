use Rattle.std.proofs.Common.{◌≡◌, inl, inr, pos, ◌+ℤ◌, ◌-ℤ◌, to_z, of_z, ap, refl, ◌∙◌, rules, w32, w64}
use Rattle.std.specs.Prelude.{unsigned_abs}
use Rattle.std.proofs.lemmas.Int.{to_z-of_z}
use Rattle.nav_base.specs.Point.{orient_of}
use Rattle.wall_slide.specs.declared.facing.FootRow.{FootRow}
use Rattle.wall_slide.proofs.FacingLaws.{below}
use Rattle.wall_slide.proofs.FootRowLaws.{either_way, foot_down, foot_up, own_row}
use Rattle.wall_slide.proofs.facing.foot_row.Goals as goal

pub returns-then-turn-ge0-clause-foot : goal.returns-then-turn-ge0-clause-foot
returns-then-turn-ge0-clause-foot c = own_row c.args.facing c.args.p _ (to_z-of_z w32 c.args.p.z (search rules)) refl

pub returns-in_default-clause-foot : goal.returns-in_default-clause-foot
returns-in_default-clause-foot c = own_row c.args.facing c.args.p _ (to_z-of_z w32 c.args.p.z (search rules)) refl

pub returns-clause-foot : goal.returns-clause-foot
returns-clause-foot c =
    let facing = c.args.facing in
    let p = c.args.p in
    let row = to_z-of_z w32 c.row_toward.result (search rules) in
    let foot : FootRow = record { row = to_z w32 (of_z w32 c.row_toward.result); away = c.line_away.result } in
    let turn = to_z-of_z w64 c.orient-turn.result (search rules) ∙ c.orient-turn.ensures in
    let right = below _ _ turn c.if-turn-ge0.false in
    let size : c.unsigned_abs-right.result ≡ unsigned_abs (orient_of facing.begin facing.end p) = c.unsigned_abs-right.ensures.value ∙ ap unsigned_abs turn in
    elim (either_way facing.begin.x facing.end.x) [
      | inl up ↦
          foot_up facing p foot c.in-Some.rise c.square_distance-length.result c.width.result c.unsigned_abs-right.result right c.square_distance-length.ensures
          c.width.ensures size c.in-Some.ensures c.line_away.ensures.under up (row ∙ c.row_toward.ensures.up up ∙ ap (λ n. n +ℤ pos c.in-Some.rise) (to_z-of_z w32 p.z (search rules)))
      | inr down ↦
          foot_down facing p foot c.in-Some.rise c.square_distance-length.result c.width.result c.unsigned_abs-right.result right c.square_distance-length.ensures
          c.width.ensures size c.in-Some.ensures c.line_away.ensures.under down (row ∙ c.row_toward.ensures.down down ∙ ap (λ n. n -ℤ pos c.in-Some.rise) (to_z-of_z w32 p.z (search rules)))
    ]
