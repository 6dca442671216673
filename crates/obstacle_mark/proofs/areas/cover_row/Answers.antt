use Rattle.std.proofs.Common.{◌≡◌, ℕ, ◌<◌, length, get_or, set, sym, ◌∙◌, None, arith, inl, inr, refl, subst, ap}
use Rattle.std.proofs.lemmas.Bool.{cases_lt, both_ways}
use Rattle.std.proofs.lemmas.List.{get_or-set_same, get_or-set_other, get_or_default}
use Rattle.nav_ground.specs.declared.cell.Cell.{Cell}
use Rattle.nav_ground.proofs.SmallCellLaws.{place_read}
use Rattle.obstacle_mark.specs.AreasLeft.{area_after}
use Rattle.obstacle_mark.specs.Columns.{is_before, IsInRow}
use Rattle.obstacle_mark.proofs.Rows.{before_first, not_passed, is_passed, in_row}
use Rattle.obstacle_mark.proofs.Blocked.{no_cell}
use Rattle.obstacle_mark.proofs.areas.cover_row.Goals as goal

pub loop-i-init : goal.loop-i-init
loop-i-init c = record {
  most = c.cells_before-i.ensures.most;
  inside = λ k d below inside. absurd (not_passed c.args.reach.first_x c.args.reach.end_x c.args.z (get_or c.args.cells.now k d).at (c.cells_before-i.ensures.before k d below) inside);
  outside = λ k d below outside. refl;
  others = λ k after. refl;
  reached = c.cells_before-i.ensures.after;
}

-- the cell that is looked at lies in the row
here_in_row : (c : goal.After-area_after) (d : Cell)
    → IsInRow c.args.reach.first_x c.args.reach.end_x c.args.z (get_or c.args.cells.now c.loop-i.i d).at
here_in_row c d =
    in_row c.args.reach.first_x c.args.reach.end_x c.args.z (get_or c.args.cells.now c.loop-i.i d).at
    (c.loop-i.invariant.reached c.loop-i.i d (omega arith) c.loop-i-test.true)
    (ap (is_before c.args.reach.end_x c.args.z)
    (sym (place_read c.args.cells.now c.loop-i.i c.index-cells-i.result c.at.result c.loop-i-test.true c.index-cells-i.is c.at.ensures d))
    ∙ sym c.is_before.ensures ∙ c.if-is_before.true)

-- and is left with what the obstacle leaves it
here_done : (c : goal.After-area_after) (d : Cell)
    → get_or (set c.loop-i.areas c.loop-i.i c.area_after.result) c.loop-i.i None
    ≡ area_after c.args.shape.now (get_or c.args.cells.now c.loop-i.i d) (get_or c.args.areas.now c.loop-i.i None)
here_done c d =
    let in_areas : c.loop-i.i < length c.loop-i.areas = omega (arith, c.loop-i-test.true) in
    get_or-set_same c.loop-i.areas c.loop-i.i c.area_after.result None in_areas
    ∙ c.area_after.ensures
    ∙ ap (λ (cell : Cell). area_after c.args.shape.now cell (get_or c.loop-i.areas c.loop-i.i None))
    (c.index-cells-i-in-loop-i.is ∙ get_or_default c.args.cells.now c.loop-i.i _ d c.loop-i-test.true)
    ∙ ap (area_after c.args.shape.now (get_or c.args.cells.now c.loop-i.i d)) (c.loop-i.invariant.others c.loop-i.i (omega arith))

-- the others are as they were
apart_same : (c : goal.After-area_after) (k : ℕ) → (k ≡ c.loop-i.i → ⊥)
    → get_or (set c.loop-i.areas c.loop-i.i c.area_after.result) k None ≡ get_or c.loop-i.areas k None
apart_same c k apart = get_or-set_other c.loop-i.areas c.loop-i.i k c.area_after.result None apart

pub loop-i-preserved : goal.loop-i-preserved
loop-i-preserved c = record {
  most = omega (arith, c.loop-i-test.true);
  inside = λ k d before inside. elim (cases_lt k c.loop-i.i) [
    | inl less ↦ apart_same c k (λ same. absurd (omega (arith, same, less))) ∙ c.loop-i.invariant.inside k d less inside
    | inr more ↦
        let P : ℕ → Type 0 = λ n. get_or (set c.loop-i.areas c.loop-i.i c.area_after.result) n None
        ≡ area_after c.args.shape.now (get_or c.args.cells.now n d) (get_or c.args.areas.now n None) in
        let same : c.loop-i.i ≡ k = omega (arith, before, more) in
        subst P same (here_done c d)
  ];
  outside = λ k d before outside. elim (cases_lt k c.loop-i.i) [
    | inl less ↦ apart_same c k (λ same. absurd (omega (arith, same, less))) ∙ c.loop-i.invariant.outside k d less outside
    | inr more ↦
        let P : ℕ → Type 0 = λ n. IsInRow c.args.reach.first_x c.args.reach.end_x c.args.z (get_or c.args.cells.now n d).at in
        let same : c.loop-i.i ≡ k = omega (arith, before, more) in
        absurd (outside (subst P same (here_in_row c d)))
  ];
  others = λ k after. apart_same c k (λ same. absurd (omega (arith, same, after))) ∙ c.loop-i.invariant.others k (omega (arith, after));
  reached = λ k d after there. c.loop-i.invariant.reached k d (omega (arith, after)) there;
}

pub returns-else-is_before-clause-inside : goal.returns-else-is_before-clause-inside
returns-else-is_before-clause-inside c = λ k d there inside. elim (cases_lt k c.loop-i.i) [
  | inl before ↦ c.loop-i.invariant.inside k d before inside
  | inr after ↦
      let early = before_first c.args.reach.end_x c.args.z c.args.cells.now c.requires.cells c.loop-i.i k no_cell after there in
      let passed = is_passed c.args.reach.first_x c.args.reach.end_x c.args.z (get_or c.args.cells.now k no_cell).at
      (subst (λ (cell : Cell). IsInRow c.args.reach.first_x c.args.reach.end_x c.args.z cell.at) (get_or_default c.args.cells.now k d no_cell there) inside) in
      absurd (both_ways (is_before c.args.reach.end_x c.args.z (get_or c.args.cells.now c.loop-i.i no_cell).at)
      (ap (is_before c.args.reach.end_x c.args.z)
      (sym (place_read c.args.cells.now c.loop-i.i c.index-cells-i.result c.at.result c.loop-i-test.true c.index-cells-i.is c.at.ensures no_cell))
      ∙ sym c.is_before.ensures ∙ c.if-is_before.false)
      (early passed))
]
