use Rattle.std.proofs.Common.{◌≡◌, ℕ, ◌∙◌, length, ap, sym, subst}
use Rattle.std.specs.Global.{Vec}
use Rattle.std.proofs.lemmas.Result.{IfOk-weaker}
use Rattle.nav_ground.specs.Fields.{AreAreas}
use Rattle.nav_ground.specs.Filters.{low_hanging_areas, ledge_areas, low_ceiling_areas, is_ledge}
use Rattle.nav_ground.proofs.FilterLaws.{low_hanging_are_areas, length-low_hanging_areas, without_are_areas, length-areas_without, filtered_are_areas, length-filtered_areas}
use Rattle.span_filters.proofs.filters.filtered.Goals as goal

pub ledges-requires-clause-areas : goal.ledges-requires-clause-areas
ledges-requires-clause-areas c =
    subst AreAreas (sym (c.as_slice.ensures.value ∙ c.in_ok-hung.ensures)) (low_hanging_are_areas c.args.field.now c.args.agent.now c.requires.field)

-- what the first two filters leave
left_so_far : (c : goal.After-as_slice-2)
    → c.as_slice-2.result.now ≡ ledge_areas c.args.field.now (low_hanging_areas c.args.field.now c.args.agent.now) c.args.agent.now
left_so_far c =
    c.as_slice-2.ensures.value ∙ c.in_ok-left.ensures
    ∙ ap (λ areas. ledge_areas c.args.field.now areas c.args.agent.now) (c.as_slice.ensures.value ∙ c.in_ok-hung.ensures)

pub low_ceilings-requires-clause-areas : goal.low_ceilings-requires-clause-areas
low_ceilings-requires-clause-areas c =
    subst AreAreas (sym (left_so_far c)) (without_are_areas (is_ledge c.args.field.now c.args.agent.now) c.args.field.now.spans
    (low_hanging_areas c.args.field.now c.args.agent.now) (low_hanging_are_areas c.args.field.now c.args.agent.now c.requires.field))

pub low_ceilings-requires-clause-beside : goal.low_ceilings-requires-clause-beside
low_ceilings-requires-clause-beside c =
    ap length (left_so_far c) ∙ length-areas_without (is_ledge c.args.field.now c.args.agent.now) c.args.field.now.spans
    (low_hanging_areas c.args.field.now c.args.agent.now) (length-low_hanging_areas c.args.field.now c.args.agent.now)

pub returns-clause-rules : goal.returns-clause-rules
returns-clause-rules c =
    let left : c.as_slice-2.result.now ≡ ledge_areas c.args.field.now (low_hanging_areas c.args.field.now c.args.agent.now) c.args.agent.now =
    c.as_slice-2.ensures.value ∙ c.in_ok-left.ensures
    ∙ ap (λ areas. ledge_areas c.args.field.now areas c.args.agent.now) (c.as_slice.ensures.value ∙ c.in_ok-hung.ensures) in
    IfOk-weaker c.low_ceilings.result (λ (areas : Vec ℕ). areas.items ≡ low_ceiling_areas c.args.field.now c.as_slice-2.result.now c.args.agent.now)
    (λ (areas : Vec ℕ). AreAreas areas.items × (length areas.items ≡ length c.args.field.now.spans))
    (λ areas is.
    let made = is ∙ ap (λ left. low_ceiling_areas c.args.field.now left c.args.agent.now) left in (
      subst AreAreas (sym made) (filtered_are_areas c.args.field.now c.args.agent.now c.requires.field),
      ap length made ∙ length-filtered_areas c.args.field.now c.args.agent.now,
    ))
    c.low_ceilings.ensures
