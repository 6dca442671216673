use Rattle.std.proofs.Common.{sym, subst}
use mathlib.Core.List.{IsPrefix}
use Rattle.nav_version.specs.Lists.{ToldView}
use Rattle.nav_live.proofs.ActLaws.{front_of}
use Rattle.nav_live.proofs.acts.told.Goals as goal

pub returns-clause-front : goal.returns-clause-front
returns-clause-front c =
    let state = c.args.book.now.state in
    subst (λ (told : ToldView). IsPrefix told.entries state.history) (sym c.told.ensures.told) (front_of state.published state.history)
