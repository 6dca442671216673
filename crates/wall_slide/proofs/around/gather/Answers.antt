use Rattle.std.proofs.Common.{ℕ, ◌+◌, ◌-◌, ◌≤◌, ◌<◌, List, length, sym, subst, ◌∙◌, arith}
use Rattle.std.specs.Prelude.{All}
use Rattle.std.proofs.lemmas.List.{get_or_default}
use Rattle.mesh_types.specs.declared.links.Link.{Link}
use Rattle.mesh_types.specs.declared.mesh.Mesh.{Mesh}
use Rattle.wall_slide.specs.declared.questions.Slide.{Slide}
use Rattle.wall_slide.specs.Ends.{IsThere}
use Rattle.wall_slide.specs.Slides.{IsPassed}
use Rattle.wall_slide.specs.Gathers.{IsGathered, IsLeading}
use Rattle.wall_slide.proofs.GatherLaws.{gathered, gone_on, looked, no_shorter, spent}
use Rattle.wall_slide.proofs.LeavingLinks.{inner_leading, outer_leading}
use Rattle.wall_slide.proofs.Lefts.{lacks}
use Rattle.wall_slide.proofs.around.gather.Goals as goal

-- a link that is passed enters a polygon that is there
entered : (mesh : Mesh) (asked : Slide) (link : Link) → IsPassed mesh asked link → IsThere mesh link.to
entered mesh asked link passed = record { polygon = passed.0.polygon; is = passed.0.there }

pub push_passed-requires-clause-links : goal.push_passed-requires-clause-links
push_passed-requires-clause-links c =
    subst (λ (links : List Link). All (IsLeading c.args.mesh.now) links) (sym c.inner.ensures)
    (inner_leading c.args.mesh.now c.index-at.result.now c.requires.sound)

pub push_passed-requires-in-loop-next-clause-links : goal.push_passed-requires-in-loop-next-clause-links
push_passed-requires-in-loop-next-clause-links c =
    subst (λ (links : List Link). All (IsLeading c.args.mesh.now) links) (sym c.outer.ensures)
    (outer_leading c.args.mesh.now c.index-at.result.now c.requires.sound)

pub loop-next-smaller : goal.loop-next-smaller
loop-next-smaller c =
    let mesh = c.args.mesh.now in
    let asked = c.args.asked.now in
    let inner = spent mesh (IsPassed mesh asked) asked.from.polygon c.inner.result.now c.loop-next.list.items c.push_passed.new.list.items c.requires.sound (entered mesh asked) c.in_ok-push_passed.ensures in
    let outer = spent mesh (IsPassed mesh asked) asked.from.polygon c.outer.result.now c.push_passed.new.list.items c.push_passed-in-loop-next.new.list.items c.requires.sound (entered mesh asked) c.in_ok-push_passed-2.ensures in
    let longer = no_shorter mesh (IsPassed mesh asked) asked.from.polygon c.inner.result.now c.loop-next.list.items c.push_passed.new.list.items c.in_ok-push_passed.ensures in
    let longer' = no_shorter mesh (IsPassed mesh asked) asked.from.polygon c.outer.result.now c.push_passed.new.list.items c.push_passed-in-loop-next.new.list.items c.in_ok-push_passed-2.ensures in
    fewer (lacks mesh c.loop-next.list.items) (lacks mesh c.push_passed-in-loop-next.new.list.items) (length c.loop-next.list.items)
    (length c.push_passed-in-loop-next.new.list.items) c.loop-next.next (omega (arith, inner, outer)) (omega (arith, longer, longer'))
    (omega (arith, c.loop-next-test.true, c.len.ensures, c.loop-next.list.ok.0))
  where
    fewer : (m m' n n' k : ℕ) → m' + n' ≤ m + n → n ≤ n' → k < n → m' + (n' - (k + 1)) < m + (n - k)
    fewer m m' n n' k less longer below = omega (arith, less, longer, below)

pub loop-next-preserved : goal.loop-next-preserved
loop-next-preserved c =
    let mesh = c.args.mesh.now in
    let asked = c.args.asked.now in
    let at = c.index-at.result.now in
    let list = c.loop-next.list.items in
    let first = c.push_passed.new.list.items in
    let second = c.push_passed-in-loop-next.new.list.items in
    let below : c.loop-next.next < length list = omega (arith, c.loop-next-test.true, c.len.ensures, c.loop-next.list.ok.0) in
    gone_on mesh (IsPassed mesh asked) asked.from.polygon list first second c.loop-next.next at c.requires.sound c.loop-next.invariant
    below
    (λ d. get_or_default list c.loop-next.next d at below ∙ sym c.index-at.ensures)
    (subst (λ (links : List Link). IsGathered (IsPassed mesh asked) links list first) c.inner.ensures c.in_ok-push_passed.ensures)
    (subst (λ (links : List Link). IsGathered (IsPassed mesh asked) links first second) c.outer.ensures c.in_ok-push_passed-2.ensures)

pub returns-then-is_ending : goal.returns-then-is_ending
returns-then-is_ending c =
    let list = c.loop-next.list.items in
    let at = c.index-at.result.now in
    let below : c.loop-next.next < length list = omega (arith, c.loop-next-test.true, c.len.ensures, c.loop-next.list.ok.0) in (
      looked c.args.mesh.now (IsPassed c.args.mesh.now c.args.asked.now) c.args.asked.now.from.polygon list c.loop-next.next at c.loop-next.invariant below
          (λ d. get_or_default list c.loop-next.next d at below ∙ sym c.index-at.ensures),
      c.is_ending.ensures c.if-is_ending.true,
    )

pub returns : goal.returns
returns c = gathered c.args.mesh.now (IsPassed c.args.mesh.now c.args.asked.now) c.args.asked.now.from.polygon c.loop-next.list.items c.loop-next.next c.loop-next.invariant
    (omega (arith, c.loop-next-test.false, c.len.ensures, c.loop-next.list.ok.0))
