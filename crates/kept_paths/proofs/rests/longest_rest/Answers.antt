use Rattle.std.proofs.Common.{◌≡◌, ◌-◌, ◌+◌, ◌<◌, List, length, get_or, sym, ap, subst, ◌∙◌, arith}
use Rattle.std.proofs.lemmas.Bool.{iff_false}
use Rattle.std.proofs.lemmas.List.{get_or_default}
use Rattle.mesh_types.specs.declared.links.Link.{Link}
use Rattle.mesh_types.proofs.WalkChains.{some_link}
use Rattle.kept_paths.specs.Splices.{Joins}
use Rattle.kept_paths.proofs.RestLaws.{joined-more, longest-of, no-rest-without-goal, none-of}
use Rattle.kept_paths.proofs.rests.longest_rest.Goals as goal
use Rattle.kept_paths.proofs.rests.longest_rest.Goals.{then-loop-start-test+else-joins, else-loop-start-test}

-- the last of the links, as the slice of them has it
ends-of : (links slice : List Link) (end : Link) → slice ≡ links → end ≡ get_or slice (length slice - 1) some_link
    → (get_or links (length links - 1) some_link).to ≡ end.to
ends-of links slice end same is =
    subst (λ (ls : List Link). (get_or ls (length ls - 1) some_link).to ≡ end.to) same (sym (ap (λ (link : Link). link.to) is))

-- a link as the slice has it
read : (links slice : List Link) (place : _) (d : Link) → slice ≡ links → place < length links → get_or links place some_link ≡ get_or slice place d
read links slice place d same there =
    get_or_default links place some_link d there ∙ ap (λ (ls : List Link). get_or ls place d) (sym same)

pub returns-then-not-holds_at-clause-none : goal.returns-then-not-holds_at-clause-none
returns-then-not-holds_at-clause-none c = λ rest to last.
    no-rest-without-goal c.args.mesh.now c.args.path.now c.args.cut c.in_ok-end.end.now.to
    (ends-of c.args.path.now.links c.as_slice-links.result.now c.in_ok-end.end.now c.as_slice-links.ensures (c.in_ok-end.ensures.item.3.1 some_link))
    (iff_false c.holds_at.ensures c.if-not-holds_at.true) rest to last

pub loop-start-preserved : goal.loop-start-preserved
loop-start-preserved c =
    let links = c.args.path.now.links in
    let past : c.args.cut + 1 < c.loop-start.start = omega (arith, c.loop-start-test.true) in
    joined-more c.args.mesh.now c.args.path.now c.args.cut c.in_ok-end.end.now.to
    (ends-of links c.as_slice-links.result.now c.in_ok-end.end.now c.as_slice-links.ensures (c.in_ok-end.ensures.item.3.1 some_link))
    c.loop-start.start c.loop-start.to _ past c.loop-start.invariant
    (read links c.as_slice-links.result.now (c.loop-start.start - 1) _ c.as_slice-links.ensures (omega (arith, past, c.loop-start.invariant.within)))
    (c.joins.ensures.0 c.if-joins.true)

pub returns-then-start-links-clause-none : goal.returns-then-start-links-clause-none
returns-then-start-links-clause-none c = λ rest to last.
    let links = c.args.path.now.links in
    none-of c.args.mesh.now c.args.path.now c.args.cut c.in_ok-end.end.now.to
    (ends-of links c.as_slice-links.result.now c.in_ok-end.end.now c.as_slice-links.ensures (c.in_ok-end.ensures.item.3.1 some_link))
    c.loop-start.start c.loop-start.to c.loop-start.invariant
    (λ longer.
    elim c.loop-start-test.branch [
      | then-loop-start-test+else-joins w ↦
          iff_false w.joins.ensures w.if-joins.false
          (subst (λ (link : Link). Joins c.args.mesh.now c.args.path.now.filter.areas link c.loop-start.to)
          (read links c.as_slice-links.result.now (c.loop-start.start - 1) _ c.as_slice-links.ensures (omega (arith, longer.past, c.loop-start.invariant.within)))
          longer.joins)
      | else-loop-start-test w ↦ omega (arith, longer.past, w.loop-start-test.false)
    ])
    (omega (arith, c.if-start-links.true, ap (λ (ls : List Link). length ls) c.as_slice-links.ensures)) rest to last

pub returns-clause-some : goal.returns-clause-some
returns-clause-some c =
    let links = c.args.path.now.links in
    longest-of c.args.mesh.now c.args.path.now c.args.cut c.in_ok-end.end.now.to
    (ends-of links c.as_slice-links.result.now c.in_ok-end.end.now c.as_slice-links.ensures (c.in_ok-end.ensures.item.3.1 some_link))
    c.loop-start.start c.loop-start.to c.loop-start.invariant
    (λ longer.
    elim c.loop-start-test.branch [
      | then-loop-start-test+else-joins w ↦
          iff_false w.joins.ensures w.if-joins.false
          (subst (λ (link : Link). Joins c.args.mesh.now c.args.path.now.filter.areas link c.loop-start.to)
          (read links c.as_slice-links.result.now (c.loop-start.start - 1) _ c.as_slice-links.ensures (omega (arith, longer.past, c.loop-start.invariant.within)))
          longer.joins)
      | else-loop-start-test w ↦ omega (arith, longer.past, w.loop-start-test.false)
    ])
    (omega (arith, c.if-start-links.false, c.loop-start.invariant.within, ap (λ (ls : List Link). length ls) c.as_slice-links.ensures))
    (c.holds_at.ensures.0 c.if-not-holds_at.false)
