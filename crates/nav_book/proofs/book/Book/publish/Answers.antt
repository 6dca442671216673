use Rattle.std.proofs.Common.{◌∙◌, ap, subst, sym}
use Rattle.std.specs.Prelude.{slice_range}
use Rattle.mesh_types.specs.Soundness.{IsSound}
use Rattle.build_queue.specs.BookState.{BookState}
use Rattle.build_queue.specs.Steps.{after_publish}
use Rattle.nav_book.specs.LevelResults.{target_mesh}
use Rattle.nav_book.proofs.Showing.{is_next, shown_next}
use Rattle.nav_book.proofs.book.Book.publish.Goals as goal

pub publish_mesh-requires : goal.publish_mesh-requires
publish_mesh-requires g c =
    let same = c.publication-answer.ensures.same in
    is_next c.self.inside.level c.self.inside.press c.self.invariant c.next_entries.result.now
    (c.next_entries.ensures ∙ ap (λ (s : BookState). slice_range s.history s.published s.target) same) c.in_ok-share-in-New.field-0
    (c.in_ok-share-in-New.ensures ∙ c.in_ok-next-in-New.ensures.mesh ∙ ap target_mesh same)
    (subst IsSound (sym c.in_ok-share-in-New.ensures) c.in_ok-next-in-New.ensures.sound)

pub invariant_of-self-in-New : goal.invariant_of-self-in-New
invariant_of-self-in-New g c =
    let same = c.publication-answer.ensures.same in
    shown_next c.self.inside.level c.self.inside.press c.self.invariant c.next_entries.result.now
    (c.next_entries.ensures ∙ ap (λ (s : BookState). slice_range s.history s.published s.target) same) c.show.new.self c.publish_mesh.new.self
    (c.show.ensures.state ∙ ap after_publish same) (c.show.ensures.shown ∙ ap (λ (s : BookState). s.target) same) c.show.ensures.rules
    c.in_ok-_told-in-New.ensures.published
