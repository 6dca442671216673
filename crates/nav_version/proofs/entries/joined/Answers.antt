use Rattle.std.proofs.Common.{List, ◌++◌, ◌∙◌, ap}
use Rattle.nav_ground.specs.declared.history.Entry.{Entry}
use Rattle.nav_version.proofs.entries.joined.Goals as goal

pub returns : goal.returns
returns c =
    c.in_ok-extend_from_slice-2.ensures.items
    ∙ ap (λ (entries : List Entry). entries ++ c.args.more.now)
    (c.in_ok-extend_from_slice.ensures.items ∙ ap (λ (entries : List Entry). entries ++ c.args.before.now) c.in_ok-all.ensures.items)
