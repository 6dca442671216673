use Rattle.std.proofs.Common.{◌≡◌, ◌∙◌, ◌≤◌, List, [], ◌∷◌, ◌++◌, length, take, drop, subst, sym, ap, arith}
use Rattle.std.specs.Prelude.{All}
use Rattle.std.proofs.lemmas.Grind.{common_steps}
use Rattle.std.proofs.lemmas.List.{length_push}
use Rattle.std.proofs.lemmas.List.Elements.{All-drop}
use Rattle.std.proofs.lemmas.List.Sorted.{IsNonDecreasingBy-drop}
use Rattle.nav_ground.specs.declared.field.Span.{Span}
use Rattle.tri_raster.specs.declared.triangle.Shadow.{Shadow}
use Rattle.tri_raster.specs.Columns.{IsUpright, IsLimited, IsTopArea}
use Rattle.tri_raster.proofs.GroupLaws.{HasGroups, IsByBottoms, groups_none, groups_more, groups_exceed, groups_all, group_small, next_span}
use Rattle.tri_raster.proofs.group.push_groups.Goals as goal

pub loop-rest-init : goal.loop-rest-init
loop-rest-init c = (
  groups_none c.args.climb c.args.x c.args.z c.args.shadows.now c.args.spans.now.items,
  c.requires.few,
  c.requires.upright,
  c.requires.order,
  c.requires.limited,
)

pub returns-then-len-eq-MAX_SPANS : goal.returns-then-len-eq-MAX_SPANS
returns-then-len-eq-MAX_SPANS c =
    let rest = c.loop-rest.rest.now in
    let count = c.first_group-count.result.0 in
    let top = c.first_group-count.result.1 in
    let shown : IsTopArea c.args.climb top (take count rest) c.area_of.result =
    subst (λ (xs : List Shadow). IsTopArea c.args.climb top xs c.area_of.result) c.split_at.ensures.front c.area_of.ensures in
    groups_exceed c.args.climb c.args.x c.args.z c.args.shadows.now rest c.args.spans.now.items c.loop-rest.spans.items count top c.area_of.result
    c.requires.upright c.loop-rest.invariant.3 c.loop-rest.invariant.0 c.first_group-count.ensures shown
    (omega (arith, c.if-len-eq-MAX_SPANS.true, c.len.ensures, c.loop-rest.spans.ok.0))

pub new-requires : goal.new-requires
new-requires c =
    let rest = c.loop-rest.rest.now in
    let count = c.first_group-count.result.0 in
    let top = c.first_group-count.result.1 in
    let shown : IsTopArea c.args.climb top (take count rest) c.area_of.result =
    subst (λ (xs : List Shadow). IsTopArea c.args.climb top xs c.area_of.result) c.split_at.ensures.front c.area_of.ensures in
    group_small c.args.climb c.args.x c.args.z rest count top c.area_of.result c.requires.column.0 c.requires.column.1 c.loop-rest.invariant.2 c.loop-rest.invariant.4
    c.first_group-count.ensures shown

pub loop-rest-preserved : goal.loop-rest-preserved
loop-rest-preserved c =
    let rest = c.loop-rest.rest.now in
    let count = c.first_group-count.result.0 in
    let top = c.first_group-count.result.1 in
    let now = c.loop-rest.spans.items in
    let shown : IsTopArea c.args.climb top (take count rest) c.area_of.result =
    subst (λ (xs : List Shadow). IsTopArea c.args.climb top xs c.area_of.result) c.split_at.ensures.front c.area_of.ensures in
    let span : Span = next_span c.args.x c.args.z rest top c.area_of.result in
    let new : c.push.new.self.items ≡ now ++ span ∷ [] =
    c.in_ok-push.ensures.items ∙ ap (λ (s : Span). now ++ s ∷ []) c.new.ensures in
    let made = groups_more c.args.climb c.args.x c.args.z c.args.shadows.now rest c.args.spans.now.items now count top c.area_of.result
    c.requires.upright c.loop-rest.invariant.3 c.loop-rest.invariant.0 c.first_group-count.ensures shown c.push.new.self.items new in
    let few : length c.push.new.self.items ≤ 2000000 = omega (
      arith,
      ap (λ (xs : List Span). length xs) new,
      length_push now span,
      c.loop-rest.invariant.1,
      c.if-len-eq-MAX_SPANS.false,
      c.len.ensures,
      c.loop-rest.spans.ok.0,
    ) in
    let back : drop count rest ≡ c.split_at.result.1.now = sym c.split_at.ensures.back in
    let G : List Shadow → Type 0 = λ xs. HasGroups c.args.climb c.args.x c.args.z c.args.shadows.now xs c.args.spans.now.items c.push.new.self.items in (
      subst G back made,
      few,
      subst (λ (xs : List Shadow). All IsUpright xs) back (All-drop IsUpright count rest c.loop-rest.invariant.2),
      subst IsByBottoms back (IsNonDecreasingBy-drop (λ (shadow : Shadow). shadow.bottom) count rest c.loop-rest.invariant.3),
      subst (λ (xs : List Shadow). All IsLimited xs) back (All-drop IsLimited count rest c.loop-rest.invariant.4),
    )

pub returns : goal.returns
returns c =
    let empty : c.loop-rest.rest.now ≡ [] = grind (arith, common_steps) in
    let G : List Shadow → Type 0 = λ xs. HasGroups c.args.climb c.args.x c.args.z c.args.shadows.now xs c.args.spans.now.items c.loop-rest.spans.items in
    groups_all c.args.climb c.args.x c.args.z c.args.shadows.now c.args.spans.now.items c.loop-rest.spans.items (subst G empty c.loop-rest.invariant.0)
    c.loop-rest.invariant.1
