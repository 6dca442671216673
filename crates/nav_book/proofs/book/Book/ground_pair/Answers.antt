use Rattle.std.proofs.Common.{◌≤◌, ◌∙◌, ap, arith, length, refl, rules, subst, sym}
use Rattle.std.specs.Arc.{arc_value}
use Rattle.std.proofs.lemmas.List.{length-take-le}
use Rattle.std.proofs.lemmas.List.Elements.{All-take}
use Rattle.nav_ground.specs.declared.history.Entry.{Entry}
use Rattle.nav_ground.specs.History.{IsRequest}
use Rattle.mesh_types.specs.Builds.{build_of}
use Rattle.mesh_types.specs.Soundness.{IsSound}
use Rattle.nav_book.specs.Results.{published_entries}
use Rattle.nav_book.proofs.GroundTiles.{build_of_beginning}
use Rattle.nav_book.proofs.Opening.{version_is}
use Rattle.nav_book.proofs.book.Book.ground_pair.Goals as goal

pub pair-requires : goal.pair-requires
pair-requires g c =
    let state = c.self.inside.level in
    let kept = c.self.invariant.rules in
    let ground = arc_value c.args.next.now.ground in
    let within : state.published ≤ length state.history = omega (arith, kept.aimed, kept.shown) in
    version_is ground (published_entries state) (record { ground = c.in_ok-try_clone.field-0; entries = c.in_ok-of.field-0; mesh = c.in_ok-share.field-0 })
    c.requires.fits.rules (omega (arith, length-take-le state.published state.history within, within, kept.replied.few))
    (All-take (λ (entry : Entry). IsRequest entry.request) state.published state.history kept.replied.requests)
    c.in_ok-try_clone.ensures (search rules)
    (c.in_ok-share.ensures ∙ c.requires.mesh ∙ ap (λ v. build_of ground v.state.history v.state.published) (sym c.self.view_is)
    ∙ sym (build_of_beginning ground state.history (published_entries state) state.published within refl))
    (subst IsSound (sym c.in_ok-share.ensures) c.requires.sound)
