use Rattle.std.proofs.Common.{◌≡◌, ℕ, ◌<◌, length, get_or, sym, ◌∙◌, None, arith, ap, inl, inr, refl}
use Rattle.std.proofs.lemmas.Bool.{cases_lt}
use Rattle.nav_ground.specs.declared.cell.Cell.{Cell}
use Rattle.nav_ground.specs.Shapes.{Covers}
use Rattle.obstacle_mark.specs.AreasLeft.{area_after}
use Rattle.obstacle_mark.specs.Columns.{IsInRow}
use Rattle.obstacle_mark.proofs.OneMoreShape.{not_covered}
use Rattle.obstacle_mark.proofs.areas.cover.Goals as goal

pub loop-z-init : goal.loop-z-init
loop-z-init c = record {
  done = λ k d there before. sym (not_covered c.args.shape.now (get_or c.args.cells.now k d) _ (λ covered.
      let reached = (c.reach_of-reach.ensures.z _ _ _ covered).0 in
      let first = c.first_row.ensures k d there in
      omega (arith, reached, first, before)));
  others = λ k d there after. refl;
}

-- in the row that was gone through
row_done : (c : goal.After-areas-1) (k : ℕ) (d : Cell) → k < length c.args.cells.now → (get_or c.args.cells.now k d).at.z ≡ c.loop-z.z
    → get_or c.cover_row.new.areas k None ≡ area_after c.args.shape.now (get_or c.args.cells.now k d) (get_or c.args.areas.now k None)
row_done c k d there row =
    elim (cases_lt cell.at.x c.reach_of-reach.result.first_x) [
      | inl left ↦ left_alone (λ inside. let least = inside.1 in omega (arith, least, left))
          (λ covered. let least = (c.reach_of-reach.ensures.x _ _ _ covered).0 in omega (arith, least, left))
      | inr least ↦ elim (cases_lt cell.at.x c.reach_of-reach.result.end_x) [
        | inl most ↦ c.cover_row.ensures.inside k d there (row, least, most) ∙ ap (area_after c.args.shape.now cell) before
        | inr right ↦ left_alone (λ inside. let most = inside.2 in omega (arith, most, right))
            (λ covered. let most = (c.reach_of-reach.ensures.x _ _ _ covered).1 in omega (arith, most, right))
      ]
    ]
  where
    cell : Cell
    cell = get_or c.args.cells.now k d

    before : get_or c.loop-z.areas k None ≡ get_or c.args.areas.now k None
    before = c.loop-z.invariant.others k d there (omega (arith, row))

    left_alone : (IsInRow c.reach_of-reach.result.first_x c.reach_of-reach.result.end_x c.loop-z.z cell.at → ⊥) → (Covers c.args.shape.now cell.at.x cell.at.z cell.floor → ⊥)
        → get_or c.cover_row.new.areas k None ≡ area_after c.args.shape.now cell (get_or c.args.areas.now k None)
    left_alone outside clear =
        c.cover_row.ensures.outside k d there outside ∙ before ∙ sym (not_covered c.args.shape.now cell _ clear)

pub loop-z-preserved : goal.loop-z-preserved
loop-z-preserved c = record {
  done = λ k d there before. elim (cases_lt (get_or c.args.cells.now k d).at.z c.loop-z.z) [
    | inl less ↦
        c.cover_row.ensures.outside k d there (λ inside. let row = inside.0 in omega (arith, row, less))
        ∙ c.loop-z.invariant.done k d there less
    | inr more ↦ row_done c k d there (omega (arith, before, more))
  ];
  others = λ k d there after.
      c.cover_row.ensures.outside k d there (λ inside. let row = inside.0 in omega (arith, row, after))
      ∙ c.loop-z.invariant.others k d there (omega (arith, after));
}

pub returns : goal.returns
returns c = λ k d there. elim (cases_lt (get_or c.args.cells.now k d).at.z c.loop-z.z) [
  | inl before ↦ c.loop-z.invariant.done k d there before
  | inr after ↦ c.loop-z.invariant.others k d there after ∙ sym (not_covered c.args.shape.now (get_or c.args.cells.now k d) _ (λ covered.
      let reached = (c.reach_of-reach.ensures.z _ _ _ covered).1 in
      let end = c.end_row.ensures k d there in
      omega (arith, reached, end, after)))
]
