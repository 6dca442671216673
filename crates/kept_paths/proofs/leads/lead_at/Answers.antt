use Rattle.std.proofs.Common.{◌≡◌, ℕ, ◌+◌, ◌∙◌, List, drop, sym, subst, ap, arith}
use Rattle.std.specs.Prelude.{All}
use Rattle.std.proofs.lemmas.List.Sums.{sum_by_push}
use Rattle.std.proofs.lemmas.List.Elements.{All-push}
use Rattle.mesh_types.specs.declared.links.Link.{Link}
use Rattle.mesh_types.specs.Corridors.{IsLinkOf, cost_of, weight_of}
use Rattle.corridor_search.specs.Estimates.{extent_at}
use Rattle.path_queries.specs.Filters.{with_costs}
use Rattle.kept_paths.specs.KeptPaths.{LeadOn}
use Rattle.kept_paths.proofs.CostSums.{fits-next}
use Rattle.kept_paths.proofs.LeadLaws.{AnswersAll, answers-cut, answers-end, answers-more}
use Rattle.kept_paths.proofs.leads.lead_at.Goals as goal

-- what two sums of equal numbers are
sum_of : {a b c d : ℕ} → a ≡ b → c ≡ d → a + c ≡ b + d
sum_of same same' = λ i. same i + same' i

pub step_over-step-requires-clause-link : goal.step_over-step-requires-clause-link
step_over-step-requires-clause-link c = c.in-Some.ensures.some.through.listed

pub step_over-step-requires-clause-left : goal.step_over-step-requires-clause-left
step_over-step-requires-clause-left c =
    c.loop-link.invariant.extent ∙ ap (extent_at c.args.mesh.now) (sym c.in-Some.ensures.some.through.leaves)

pub overflow_add-cost : goal.overflow_add-cost
overflow_add-cost c =
    omega (
      arith,
      fits-next c.args.mesh.now c.args.costs.now c.loop-link.links.items c.requires.sound c.requires.setting c.requires.costs
          c.loop-link.invariant.listed c.in-Some.next.link c.in-Some.ensures.some.through.listed
          (omega (arith, c.loop-link.invariant.count, c.loop-link-test.true, c.requires.few)),
      c.loop-link.invariant.cost,
      c.step_over-step.ensures,
    )

pub returns-in_default : goal.returns-in_default
returns-in_default c = record {
  leads =
      subst (λ (ls : List Link). LeadOn c.args.mesh.now c.args.areas c.args.first c.args.kept.now ls c.loop-link.last) (sym c.from_vec-links.ensures)
      (answers-cut c.args.mesh.now c.args.areas c.args.first c.loop-link.last c.args.kept.now c.loop-link.links.items c.loop-link.link-index _
      c.loop-link-test.true c.in_default.ensures.none c.loop-link.invariant.answers);
  cost = c.loop-link.invariant.cost ∙ ap (cost_of (with_costs c.args.costs.now c.args.mesh.now)) (sym c.from_vec-links.ensures);
}

pub loop-link-preserved : goal.loop-link-preserved
loop-link-preserved c =
    let mesh = c.args.mesh.now in
    let next = c.in-Some.next.link in
    let links = c.loop-link.links.items in
    record {
      answers =
          subst (λ (ls : List Link). AnswersAll mesh c.args.areas c.args.first c.args.kept.now ls next.to (drop (c.loop-link.link-index + 1) c.args.kept.now))
          (sym c.in_ok-push.ensures.items)
          (answers-more mesh c.args.areas c.args.first c.loop-link.last c.args.kept.now links c.loop-link.link-index _ next c.loop-link-test.true
          c.in-Some.ensures.some c.in-Some.ensures.kept c.loop-link.invariant.answers);
      listed =
          subst (All (IsLinkOf mesh)) (sym c.in_ok-push.ensures.items)
          (All-push (IsLinkOf mesh) links next c.loop-link.invariant.listed c.in-Some.ensures.some.through.listed);
      count = omega (arith, c.in_ok-push.ensures.len, c.loop-link.links.ok.0, c.loop-link.invariant.count);
      cost =
          sum_of c.loop-link.invariant.cost c.step_over-step.ensures
          ∙ sym (sum_by_push (weight_of (with_costs c.args.costs.now mesh)) links next)
          ∙ ap (cost_of (with_costs c.args.costs.now mesh)) (sym c.in_ok-push.ensures.items);
      extent = c.in-Some.ensures.entered;
    }

pub returns : goal.returns
returns c = record {
  leads =
      subst (λ (ls : List Link). LeadOn c.args.mesh.now c.args.areas c.args.first c.args.kept.now ls c.loop-link.last) (sym c.from_vec-links-2.ensures)
      (answers-end c.args.mesh.now c.args.areas c.args.first c.loop-link.last c.args.kept.now c.loop-link.links.items c.loop-link.link-index
      (omega (arith, c.loop-link-test.false)) c.loop-link.invariant.answers);
  cost = c.loop-link.invariant.cost ∙ ap (cost_of (with_costs c.args.costs.now c.args.mesh.now)) (sym c.from_vec-links-2.ensures);
}
