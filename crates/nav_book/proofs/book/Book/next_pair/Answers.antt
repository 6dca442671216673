use Rattle.std.proofs.Common.{◌∙◌, sym, arith, rules}
use Rattle.nav_book.proofs.Opening.{version_is}
use Rattle.nav_book.proofs.book.Book.next_pair.Goals as goal

pub pair-requires : goal.pair-requires
pair-requires g c =
    let few = c.in_ok-entries.ensures.rules.few in
    version_is c.self.inside.level.ground c.in_ok-entries.entries
    (record { ground = c.in_ok-try_clone.field-0; entries = c.in_ok-of.field-0; mesh = c.in_ok-prepared_mesh.field-0 }) c.self.invariant.rules.level
    (omega (arith, few)) c.in_ok-entries.ensures.rules.requests (c.in_ok-try_clone.ensures ∙ c.version.ensures.value.ground ∙ c.self.invariant.level) (search rules)
    (c.in_ok-prepared_mesh.ensures.value ∙ sym c.in_ok-entries.ensures.mesh) c.in_ok-prepared_mesh.ensures.sound
