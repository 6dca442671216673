use Rattle.std.proofs.Common.{◌∙◌, ap, arith, refl, subst, sym}
use Rattle.std.specs.Prelude.{Err, IfOk}
use Rattle.nav_base.specs.Counts.{HasRisenAtMost}
use Rattle.nav_ground.specs.Tiling.{tile_count}
use Rattle.nav_book.specs.Views.{BookView}
use Rattle.nav_live.specs.LiveRecord.{LiveRecord}
use Rattle.nav_live.specs.Joined.{IsClosed}
use Rattle.nav_live.specs.Roots.{RootView, root_of}
use Rattle.nav_live.proofs.FullLaws.{never_full}
use Rattle.nav_live.proofs.RunLaws.{has_left, is_closed, pairs_left, record_of}
use Rattle.nav_live.proofs.run.end_run.Goals as goal
use Rattle.nav_live.proofs.run.end_run.Goals.{in-Ok, in-Err+in-NoMemory}

pub finish-text-requires-clause-pairs : goal.finish-text-requires-clause-pairs
finish-text-requires-clause-pairs g c =
    pairs_left c.args.lock c.args.run.now.script.now c.args.left c.into_book-book.result c.deref_mut.result.now (has_left c.args.end c.in-Ok.is c.requires.well)
    (ap root_of c.into_book-book.ensures ∙ c.close.ensures.root) c.deref_mut.ensures.value

pub unreachable-requires : goal.unreachable-requires
unreachable-requires g c =
    never_full c.args.lock c.args.run.now.script.now c.args.left.passes.items c.close.result.state.history c.requires.script
    (is_closed c.args.lock c.args.left.passes.items c.close.result.state.history c.close.ensures.legal c.close.ensures.extends c.close.ensures.made)
    (c.requires.full (c.in-Err.is ∙ ap Err c.in-HistoryFull.is))

pub returns-clause-text : goal.returns-clause-text
returns-clause-text g c =
    elim c.match-end.branch [
      | in-Ok w ↦ subst (λ r. IfOk r (λ text. LiveRecord c.args.lock.root.ground c.args.run.now.script.now text.items)) (sym w.text-is)
          (record_of (λ text. text.items) w.finish-text.result c.args.lock c.args.run.now.script.now c.args.left c.into_book-book.result w.deref_mut.result.now
          c.args.left.texts.items (has_left c.args.end w.in-Ok.is c.requires.well)
          (subst (λ (b : BookView). IsClosed c.args.lock c.args.left.passes.items b.state.history) (sym c.into_book-book.ensures)
          (is_closed c.args.lock c.args.left.passes.items c.close.result.state.history c.close.ensures.legal c.close.ensures.extends c.close.ensures.made))
          (ap root_of c.into_book-book.ensures ∙ c.close.ensures.root) w.deref_mut.ensures.value refl w.finish-text.ensures.text w.finish-text.ensures.seen)
      | in-Err+in-NoMemory w ↦ subst (λ r. IfOk r (λ text. LiveRecord c.args.lock.root.ground c.args.run.now.script.now text.items)) (sym w.text-is) tt
    ]

pub returns-clause-most : goal.returns-clause-most
returns-clause-most g c =
    elim c.match-end.branch [
      | in-Ok w ↦ subst (HasRisenAtMost (tile_count c.args.lock.root.ground.setting) c.args.steps.now) (sym w.steps-is)
          (subst (λ (root : RootView). HasRisenAtMost (tile_count root.ground.setting) c.args.steps.now w.finish-text.new.steps)
          (ap root_of c.into_book-book.ensures ∙ c.close.ensures.root) w.finish-text.ensures.most)
      | in-Err+in-NoMemory w ↦ subst (HasRisenAtMost (tile_count c.args.lock.root.ground.setting) c.args.steps.now) (sym w.steps-is)
          (record { least = omega arith; most_risen = omega arith })
    ]
